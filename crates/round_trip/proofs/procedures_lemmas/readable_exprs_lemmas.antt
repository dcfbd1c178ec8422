-- Names are found again.
pub mod Named
-- Names and literals.
pub mod Words
-- What is made of what is known.
pub mod Known
-- What is told of sides and how many terms they have.
pub mod Told
-- What is told outside of any expression.
pub mod Ends
-- References, operands and expressions.
pub mod Expressions
-- What is told of tests and conditions.
pub mod Tests
-- Conditions.
pub mod Conditions
