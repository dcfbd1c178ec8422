-- Tests that ask no more than others.
pub mod Carried
-- Parts and words on cells as they are written in a result.
pub mod Words
-- What holds of them.
pub mod Laws
