pub mod Graphs
pub mod Ranks
pub mod Levels
pub mod Searches
