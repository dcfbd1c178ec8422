-- Which tokens begin what.
pub mod Token
-- The grammar of conditions.
pub mod Relation
pub mod Test
pub mod Primary
pub mod Alone
pub mod Neg
pub mod Condition
-- What holds of it.
pub mod Laws
