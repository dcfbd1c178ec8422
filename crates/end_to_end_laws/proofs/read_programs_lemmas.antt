-- The divisions are read twice, and both readings take the same tokens and read the same.
pub mod division_readings_lemmas
-- EXIT without a further word stands alone in the sentences of a program that is read.
pub mod exit_reading_lemmas
-- Lists of names are short in a program that is read, since each name takes a token.
pub mod few_reading_lemmas
-- A program that is read counts by whole numbers.
pub mod whole_reading_lemmas
-- A program that is read can be printed.
pub mod printable_reading_lemmas
-- A program that is read names what it declares and paragraphs that it has.
pub mod named_reading_lemmas
-- A program is read over the names of its own files and entries.
pub mod own_names_lemmas
-- The files and entries of a program that is read are such that its parts may be written.
pub mod fit_reading_lemmas
-- A program that is read is as the headline for COBOL programs asks.
pub mod proper_programs_lemmas
-- No word that programs are printed with is one that this profile leaves out.
pub mod printed_words_lemmas
-- What a program that is read declares is as what is printed of it is to have it.
pub mod readable_parts_lemmas
-- What is printed of a readable program reads to that very program.
pub mod readable_programs_lemmas
-- A program that is read is readable, where what is printed of it is short enough.
pub mod readable_division_lemmas
