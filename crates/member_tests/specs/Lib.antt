pub mod MemberTables
pub mod PropertyMaps
