pub mod GenericLaws
pub mod ParameterLaws
