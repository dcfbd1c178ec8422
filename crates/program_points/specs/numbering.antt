-- what of loops and files control depends on
pub mod Kind
-- how places are added
pub mod Build
