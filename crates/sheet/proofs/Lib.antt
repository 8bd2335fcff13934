-- The laws of the reader of a file.
pub mod Laws
pub mod Shape
