-- What holds of the tokens of a text.
pub mod Laws
