pub mod SearchLaws
pub mod CodeLaws
pub mod CountLaws
pub mod MethodLaws
pub mod NumberLaws
pub mod PlaceLaws
pub mod RowLaws
