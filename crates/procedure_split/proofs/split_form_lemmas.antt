-- statements of control that hold no EXIT
pub mod Lacking
-- statements of the tree hold none where their control doesn't
pub mod Exitless
-- what is written of what may stand holds none
pub mod WrittenLack
-- a source whose EXITs stand alone
pub mod Sources
-- its closed graphs hold none
pub mod Standing
-- what it is split into
pub mod Formed
