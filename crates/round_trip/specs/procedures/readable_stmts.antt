-- What the parts that are read have to do with those by which what is printed is read.
pub mod Fit
-- What sentences and paragraphs are to have in them, and their headers apart.
pub mod Body
