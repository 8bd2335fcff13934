-- Laws of the definitions in specs/, which the proofs of the functions and the crates above cite.
pub mod Smallest
pub mod Differences
pub mod Blocks
pub mod Judging
pub mod PassLaws
