-- How much is printed of generated programs.
pub mod Laws
