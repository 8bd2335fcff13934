-- The reader of a file as a function of the text.
pub mod Sheet
