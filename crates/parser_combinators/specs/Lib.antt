-- Faults of names, and which of two counts.
pub mod Note
-- The makers of forms, and parts of one token.
pub mod Form
pub mod Part
-- What is promised of a form and of a function that reads it.
pub mod Reading
-- A small grammar, at which the laws are stated.
pub mod Example
pub mod Laws
-- How a reading that stopped, and a name fault that it noted, are reported of a source: by a line
-- alone, or by the limit that is passed.
pub mod faults
-- The words and literals of a program's own: which tokens they are, and how they are read.
pub mod words
