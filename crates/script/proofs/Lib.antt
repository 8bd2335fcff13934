-- Laws of the definitions in specs/, which the proofs of the functions cite.
pub mod Steps
pub mod HexWords
pub mod Meanings
pub mod Unique
pub mod Examples
