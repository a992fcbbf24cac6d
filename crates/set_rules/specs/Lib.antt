pub mod TableTests
pub mod RowTests
pub mod CoreNames
