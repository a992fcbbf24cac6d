pub mod FilledLaws
pub mod TakenLaws
pub mod OnceLaws
pub mod ProgramLaws
