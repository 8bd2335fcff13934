-- The laws of places, of names and of the levels, which the proofs of the functions cite.
pub mod Laws
pub mod Table
pub mod Reading
pub mod Unique
