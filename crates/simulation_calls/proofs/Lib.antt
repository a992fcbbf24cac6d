pub mod CheckLaws
pub mod RetLaws
pub mod ClauseLaws
pub mod InlineLaws
