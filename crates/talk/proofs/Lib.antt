-- Laws of the definitions in specs/, which the proofs of the functions and the crates above cite.
pub mod Spoken
pub mod Packing
pub mod Telling
pub mod Holding
pub mod Showing
pub mod Storing
pub mod Building
pub mod Files
pub mod Laying
pub mod Distances
pub mod Unique
pub mod Examples
pub mod Sessions
pub mod Typed
