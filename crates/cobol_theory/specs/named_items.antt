-- What holds of named statements.
pub mod Laws
