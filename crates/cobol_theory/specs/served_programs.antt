-- What may be written of it.
pub mod Laws
