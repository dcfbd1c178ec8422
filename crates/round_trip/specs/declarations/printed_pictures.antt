-- Pictures that can be written.
pub mod Writable
-- What holds of pictures and their text.
pub mod Laws
