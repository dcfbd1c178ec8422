-- Words that a program takes for its own.
pub mod Word
-- Literals and figurative constants.
pub mod Constant
-- What holds of these forms.
pub mod Laws
