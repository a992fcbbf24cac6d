pub mod Program
pub mod Written
pub mod Facts
