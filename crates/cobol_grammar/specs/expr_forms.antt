-- Which tokens begin what.
pub mod Token
-- What is wrong with how a side is used, and sides, sums, and what may be subscripts too.
pub mod Fault
pub mod Side
pub mod Chain
pub mod Either
-- The grammar of references and expressions, with its limits.
pub mod Limit
pub mod Reference
pub mod Operand
pub mod Expression
pub mod Window
pub mod Subscript
pub mod Front
pub mod Levels
-- What holds of it.
pub mod Laws
