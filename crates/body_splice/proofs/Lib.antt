pub mod Same
pub mod CallLaws
pub mod Accepted
