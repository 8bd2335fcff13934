-- What a circuit looks like as text.
pub mod Printed
