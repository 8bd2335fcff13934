-- The answers of the bench as numbers, for other languages.
pub mod Coded
