pub mod Spans
pub mod Building
pub mod Marks
