-- The three demands, the worked examples, and that each promise determines its result. A reader begins with FirstDemand, and has Tables beside it.
pub mod FirstDemand
pub mod SecondDemand
pub mod ThirdDemand
pub mod EquationFiles
pub mod InNumbers
pub mod AtDesk
pub mod Examples
pub mod Determined
pub mod ToOutputs
pub mod Sweeping
pub mod Hints
pub mod Tables
pub mod Causes
pub mod Following
pub mod FilesFollow
