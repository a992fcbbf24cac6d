pub mod InlineCode
pub mod QuietFail
pub mod CaptureCode
pub mod RecallCode
