pub mod Shapes
pub mod Measured
