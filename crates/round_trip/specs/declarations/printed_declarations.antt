-- The rules on entries.
pub mod Rules
-- Those on files.
pub mod FileRules
-- What printed divisions declare.
pub mod Laws
