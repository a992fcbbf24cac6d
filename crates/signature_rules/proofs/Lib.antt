pub mod SignatureLaws
