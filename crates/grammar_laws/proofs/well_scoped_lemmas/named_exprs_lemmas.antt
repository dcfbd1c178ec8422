-- Names that are found are declared.
pub mod Found
-- References, operands and expressions.
pub mod Expressions
-- Conditions.
pub mod Conditions
