pub mod Small
pub mod PieceLaws
pub mod RefusalLaws
pub mod OrderLaws
pub mod LayerLaws
