-- Laws of the definitions in specs/, which the proofs of the functions and the crates above cite. A reader begins with Theorems.
pub mod Theorems
pub mod Examples
pub mod Refusing
pub mod Choosing
pub mod Summing
pub mod Gathering
pub mod Numbering
pub mod OnBench
