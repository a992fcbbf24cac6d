pub mod Schema
pub mod Stream
pub mod Tables
pub mod Layout
pub mod Growth
pub mod TableRules
pub mod CellRules
pub mod Written
