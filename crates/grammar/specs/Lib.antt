-- The definitions. A reader begins with File, and goes to Grammar for what a formula is.
pub mod Grammar
pub mod File
