pub mod Reading
pub mod Layers
pub mod Program
pub mod Process
pub mod Replies
