-- The definitions are those of `bench`; here is what the functions inside the report promise one another.
pub mod Judged
