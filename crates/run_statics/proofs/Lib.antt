pub mod NoteLaws
