-- What a hint answers (Hint), and what the functions inside it promise one another (Parts).
pub mod Hint
pub mod Parts
