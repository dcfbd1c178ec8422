-- Which kinds of tokens spell a value of a form.
pub mod Spelling
-- What holds of names and literals.
pub mod Laws
