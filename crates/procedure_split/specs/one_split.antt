-- What holds of split programs.
pub mod Laws
