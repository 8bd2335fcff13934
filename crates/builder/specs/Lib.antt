-- The definitions. A reader begins with Rule, then Call, Late and Matrix; Kept is what the code keeps, and no public promise names it.
pub mod Rule
pub mod Call
pub mod Late
pub mod Matrix
pub mod Kept
