-- The names of a text.
pub mod Known
