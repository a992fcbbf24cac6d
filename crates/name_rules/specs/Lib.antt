pub mod NameTests
