-- Laws of the definitions in specs/, which the proofs of the functions and the crates above cite.
pub mod Places
pub mod Cuts
pub mod Numbers
pub mod Putting
pub mod Unique
