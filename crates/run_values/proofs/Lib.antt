pub mod DefaultLaws
pub mod LayoutLaws
pub mod StoreLaws
