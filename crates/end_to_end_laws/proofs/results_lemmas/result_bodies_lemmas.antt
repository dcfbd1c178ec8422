-- what two kinds take, a third takes that has both
pub mod Takes
-- the procedures that a program is split into
pub mod Standing
-- paragraphs of written control
pub mod Paragraphs
-- how many procedures there are
pub mod Few
-- literals, and words on added items, that can be printed
pub mod Literals
-- what parts are called
pub mod Words
-- the entries of added items
pub mod Entries
-- all of it
pub mod Printing
