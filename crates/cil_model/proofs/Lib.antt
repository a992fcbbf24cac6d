mod MethodListLaws
mod TokenLaws
