-- What programs declare.
pub mod Laws
