-- What a line of the call language asks for, as functions on lists of byte numbers.
pub mod Order
pub mod Reading
pub mod Placed
pub mod Taking
