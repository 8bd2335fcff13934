-- What the contracts of `text` say, as functions on lists of byte numbers.
pub mod Places
pub mod Words
pub mod Numbers
pub mod Putting
