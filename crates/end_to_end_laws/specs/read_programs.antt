-- The divisions are read twice, and both readings take the same tokens and read the same.
pub mod division_readings
-- EXIT without a further word is alone in the sentences of a program that is read.
pub mod exit_reading
-- Lists of names are short in a program that is read, since each name takes a token.
pub mod few_reading
-- A program that is read counts by whole numbers.
pub mod whole_reading
-- A program that is read can be printed.
pub mod printable_reading
-- A program that is read names what it declares and paragraphs that it has.
pub mod named_reading
-- A program is read over the names of its own files and entries.
pub mod own_names
-- The files and entries of a program that is read are such that its parts may be written.
pub mod fit_reading
-- A program that is read is as the headline for COBOL programs asks.
pub mod proper_programs
-- No word that programs are printed with is one that this profile leaves out.
pub mod printed_words
-- What a program that is read declares is as what is printed of it is to have it.
pub mod readable_parts
-- What is printed of a readable program reads to that very program.
pub mod readable_programs
-- A program that is read is readable, where what is printed of it is short enough.
pub mod readable_division
