pub mod ReturnLaws
