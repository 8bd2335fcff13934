-- The laws of the grammar. A reader begins with Files: a text has one reading as a file at most.
pub mod Bytes
pub mod Unique
pub mod Files
