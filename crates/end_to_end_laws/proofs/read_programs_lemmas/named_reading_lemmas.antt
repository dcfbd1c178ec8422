-- Divisions have no more entries than tokens.
pub mod Few
-- What a whole program gives.
pub mod Whole
