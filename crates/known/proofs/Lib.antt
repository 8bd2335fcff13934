-- The names of a text. A reader begins with Fault, where the theorems stand.
pub mod Keys
pub mod Words
pub mod Passing
pub mod Table
pub mod Along
pub mod Naming
pub mod Fault
