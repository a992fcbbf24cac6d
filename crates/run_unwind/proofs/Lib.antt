pub mod FailLaws
