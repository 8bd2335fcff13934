-- Laws of the definitions in specs/.
pub mod Answering
pub mod Examples
