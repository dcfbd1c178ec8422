-- SELECTs without status items.
pub mod Bare
-- What divisions declare.
pub mod Declared
-- What a whole program declares.
pub mod Own
