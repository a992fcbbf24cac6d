pub mod Store
pub mod Sink
pub mod Memory
pub mod MemStores
pub mod MemSinks
pub mod Streams
