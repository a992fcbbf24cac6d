pub mod FindLaws
pub mod GrowthLists
pub mod KeptNameLaws
pub mod KeptTypeLaws
