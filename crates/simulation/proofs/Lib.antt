pub mod ProgramLaws
pub mod ActLaws
pub mod ArriveLaws
pub mod UnwindLaws
pub mod PushLaws
