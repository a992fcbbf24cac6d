pub mod InlineLaws
pub mod TriggerLaws
pub mod QuietFailLaws
pub mod CaptureLaws
pub mod RecallLaws
