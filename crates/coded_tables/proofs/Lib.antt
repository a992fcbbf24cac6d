pub mod PrimLaws
pub mod ListLaws
pub mod NumberLaws
pub mod TableLaws
pub mod KindLaws
pub mod CountLaws
