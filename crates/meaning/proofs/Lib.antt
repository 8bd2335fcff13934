-- That the circuit of a file gives what the file says. A reader begins with Answers and Refused, then Says.
pub mod Twins
pub mod Rows
pub mod Growth
pub mod Values
pub mod Formulas
pub mod Tables
pub mod Inputs
pub mod Course
pub mod Decimals
pub mod Outs
pub mod Books
pub mod Circuits
pub mod Says
pub mod Answers
pub mod Refused
pub mod Examples
