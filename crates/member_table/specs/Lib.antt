pub mod Environments
pub mod Members
pub mod Numbers
pub mod MemberRules
