-- the first file of a name is found and changed
pub mod Firsts
-- Operations on the files of a program, over the devices of a bench (ISO 1989:1985, Sequential
-- I-O).
pub mod operations_lemmas
