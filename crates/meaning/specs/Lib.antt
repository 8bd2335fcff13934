-- What an equation file means.
pub mod Meaning
