-- What the divisions give.
pub mod Data
