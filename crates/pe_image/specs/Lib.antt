pub mod Headers
pub mod Sections
pub mod Cli
pub mod Rules
pub mod Images
pub mod SectionGrowth
pub mod Written
pub mod ReadBack
