pub mod Simulation
pub mod Same
pub mod FourParts
pub mod Growth
pub mod Kinds
pub mod FullHeap
pub mod Answers
