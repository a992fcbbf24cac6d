pub mod SpecTests
