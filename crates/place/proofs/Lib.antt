-- The place of bad text. A reader begins with Place, where the theorems stand.
pub mod Automaton
pub mod Walk
pub mod Levels
pub mod Parts
pub mod Accepted
pub mod Sheets
pub mod Place
