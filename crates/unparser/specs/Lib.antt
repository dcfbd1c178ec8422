-- Single tokens.
pub mod Token
-- Places, operands and expressions; conditions.
pub mod Place
pub mod Condition
-- What EVALUATE, PERFORM and arithmetic statements have of these.
pub mod Choice
pub mod Control
pub mod Arithmetic
pub mod File
-- The first line of a statement.
pub mod Head
