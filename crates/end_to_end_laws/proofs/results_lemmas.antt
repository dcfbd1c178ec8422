-- With items added, a program that is read keeps what its divisions are read back by.
pub mod added_reading_lemmas
-- The statements of a program that is read pass the tests of the names that it declares.
pub mod fit_sources_lemmas
-- What a split program declares: its program's entries, and items for the cells of its ranges.
pub mod result_entries_lemmas
-- What fits a program fits its result, and so do the words on cells.
pub mod result_words_lemmas
-- The procedures that a program is split into may be written, and can be printed.
pub mod result_bodies_lemmas
-- The procedures of a split program have names of their own, and are spelled where they fit.
pub mod result_procedures_lemmas
-- What a program that is read is split into is readable, within the limits of reading.
pub mod readable_results_lemmas
-- The headline for every program that is read: its result is structured and behaves as it did.
pub mod read_headline_lemmas
-- What a program is restructured to, whatever the limits on a result, and that it behaves as it did.
pub mod restructured_programs_lemmas
