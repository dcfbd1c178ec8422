-- how deep statements nest as they are written
pub mod Nesting
-- the same of a statement of the program
pub mod Own
