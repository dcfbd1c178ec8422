-- What is printed of split programs.
pub mod Laws
