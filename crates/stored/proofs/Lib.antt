-- Laws of the definitions in specs/, which the proofs of the functions and the crates above cite.
pub mod Records
pub mod Accept
pub mod Round
pub mod Over
pub mod Written
pub mod Restoring
