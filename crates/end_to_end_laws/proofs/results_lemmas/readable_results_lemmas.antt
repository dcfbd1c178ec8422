-- The statements of what a program is split into pass the tests by its own names.
pub mod Passing
-- So it is readable.
pub mod Results
