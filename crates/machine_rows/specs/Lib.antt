pub mod Everything
pub mod Samples
pub mod Rows
pub mod MoreRows
pub mod SplicedRows
pub mod EdgeRows
