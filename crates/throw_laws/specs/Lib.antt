pub mod WrapperCode
pub mod ThrowCode
