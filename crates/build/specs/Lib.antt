-- What the build program writes for what it reads.
pub mod Answered
