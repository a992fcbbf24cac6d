pub mod BodyEncoding
