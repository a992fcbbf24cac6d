pub mod Order
pub mod Own
pub mod Inherited
pub mod Taken
pub mod Calls
