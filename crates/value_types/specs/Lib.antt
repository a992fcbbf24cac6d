pub mod ValueNames
pub mod CodedValues
