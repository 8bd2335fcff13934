-- The definitions. A reader begins with Outputs, then Numbering and Drawing.
pub mod Outputs
pub mod Numbering
pub mod Drawing
