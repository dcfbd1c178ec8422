-- The makers of forms.
pub mod Makers
-- Words and literals.
pub mod Words
-- Expressions.
pub mod Expressions
-- Conditions.
pub mod Conditions
-- What the parts of statements are to be.
pub mod Parts
-- Statements that hold no others.
pub mod Simple
-- All statements.
pub mod Holding
-- The parts of statements.
pub mod Plainly
