-- Laws of the definitions in specs/, which the proofs of the functions and the crates above cite.
pub mod Bytes
pub mod Fitting
pub mod Packing
pub mod Wanting
