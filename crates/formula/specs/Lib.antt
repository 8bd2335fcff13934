-- The definitions. A reader begins with Text and Tree; then Names, Levels and Emit.
pub mod Sizes
pub mod Text
pub mod Tree
pub mod Names
pub mod Levels
pub mod Emit
