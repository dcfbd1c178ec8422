-- What holds of summaries.
pub mod Laws
