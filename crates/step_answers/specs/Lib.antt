pub mod Leading
pub mod Answering
pub mod Runs
