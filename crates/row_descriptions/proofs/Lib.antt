mod RowListLaws
mod TokenLaws
