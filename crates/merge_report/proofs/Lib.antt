mod Last
pub mod Plain
