pub mod CodedIndexes
pub mod SignatureTypes
pub mod CodedTypes
pub mod SignatureRules
