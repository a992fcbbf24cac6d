pub mod Filled
