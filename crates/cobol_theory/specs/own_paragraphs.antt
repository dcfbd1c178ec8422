-- What holds of named programs.
pub mod Laws
