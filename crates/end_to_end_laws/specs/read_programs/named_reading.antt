-- Programs that name what they have.
pub mod Named
-- What holds of programs that are read.
pub mod Laws
