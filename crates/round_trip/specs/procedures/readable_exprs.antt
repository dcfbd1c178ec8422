-- What is read so that it can be read back.
pub mod Readable
-- What holds of it.
pub mod Laws
