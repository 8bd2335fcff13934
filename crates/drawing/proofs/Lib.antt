-- Laws of the definitions in specs/: Rooms for the crates above; the others for the proofs of the functions.
pub mod Filling
pub mod Digits
pub mod Searching
pub mod Sketching
pub mod Writer
pub mod Rooms
