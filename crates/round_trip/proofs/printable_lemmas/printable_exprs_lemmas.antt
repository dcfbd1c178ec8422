-- Names and literals.
pub mod Words
-- References, operands and expressions.
pub mod Expressions
-- Conditions.
pub mod Conditions
