-- What headers tell.
pub mod Laws
