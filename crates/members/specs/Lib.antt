pub mod Keys
pub mod MemberRows
pub mod OutsideMembers
pub mod Bases
pub mod Hashing
