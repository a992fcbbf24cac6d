pub mod ClauseTypes
