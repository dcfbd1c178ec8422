-- what is read, or how the run ends there
pub mod Answer
-- numbers as the bytes of an item spell them
pub mod Number
-- how long items are
pub mod Size
-- where an item lies
pub mod Area
-- where all items lie
pub mod Laying
-- stores, and what is read and put at their spots
pub mod Store
-- where places are, and what operands and expressions are worth
pub mod Place
-- places of numbers alone, whose spots are known before a run
pub mod ConstantPlace
-- the store at the start of a run
pub mod Starting
-- How long a program's items are, in bytes (ISO 1989:1985, PICTURE, USAGE, OCCURS and REDEFINES
-- clauses).
pub mod sizes
-- what the laws say of sizes, and of what is put
pub mod Laws
