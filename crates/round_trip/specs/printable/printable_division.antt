-- What holds of the division.
pub mod Laws
