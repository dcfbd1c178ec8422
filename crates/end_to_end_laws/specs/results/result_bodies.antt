-- Procedures that a program is split into.
pub mod Bodies
-- What holds of them.
pub mod Laws
