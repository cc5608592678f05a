pub mod Division
pub mod Order
pub mod Range
