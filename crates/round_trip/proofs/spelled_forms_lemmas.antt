-- What spells a value of each maker of forms.
pub mod Makers
-- Single tokens, names and literals.
pub mod Tokens
