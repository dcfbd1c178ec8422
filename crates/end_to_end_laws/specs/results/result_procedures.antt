-- What holds of the procedures of a split program.
pub mod Laws
