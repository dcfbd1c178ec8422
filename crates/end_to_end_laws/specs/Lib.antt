-- What is so of each program that is read, and that what is printed of it reads to it.
pub mod read_programs
-- What a program that is read is split into is structured, behaves as the program, and reads
-- back.
pub mod results
-- What restructuring does to the graphs of a program's ranges keeps what they do.
pub mod rewriting
-- What the generated programs have in them, so that what is printed of them can be read: their
-- names and numbers can be printed, the entry of the counter keeps the rules, each paragraph is
-- told by its name, and their statements are spelled.
pub mod generated
