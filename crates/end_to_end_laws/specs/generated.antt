-- What is stated of the generated programs.
pub mod Laws
-- What is printed of a generated program has no more bytes and tokens than a source may have.
pub mod short_generated
-- What is printed of a generated program reads to that very program.
pub mod readable_generated
