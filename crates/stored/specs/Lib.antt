-- The definitions. A reader begins with Stored, then Reading and Writing.
pub mod Stored
pub mod Reading
pub mod Writing
