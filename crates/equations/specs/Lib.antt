-- What the equations program writes for what it reads.
pub mod Answered
