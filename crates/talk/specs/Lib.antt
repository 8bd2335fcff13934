-- What is answered to a line, and what the functions promise.
pub mod Words
pub mod Texts
pub mod Talk
pub mod Saying
