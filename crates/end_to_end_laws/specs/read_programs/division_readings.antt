-- Divisions that are the same but for status items.
pub mod Same
-- What names don't change.
pub mod Laws
