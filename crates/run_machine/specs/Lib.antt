pub mod Flows
pub mod Machines
