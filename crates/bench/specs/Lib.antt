-- The definitions. A reader begins with State, Held, Calls and Run; Parts is what the functions inside promise one another.
pub mod State
pub mod Held
pub mod Calls
pub mod Parts
pub mod Run
