-- What a form gives where no fault of a name is noted, and what literals give.
pub mod form_results
-- What each part of the grammar gives where no fault of a name is noted: items, files and
-- paragraphs that are there, numbers that are numbers, and lists that aren't empty.
pub mod well_scoped
-- What else the grammar gives where no fault is noted: statements count by whole numbers, entries
-- go with what they ask, headers tell all paragraphs, and both readings of the divisions
-- before the PROCEDURE DIVISION take the same tokens.
pub mod whole_counts
-- No token that statements take is a period, so that one ends each sentence.
pub mod no_periods
-- Lists of names are short, over open forms of operands: where few tokens are left, each GO TO
-- DEPENDING that is read of them names few paragraphs, since each name takes a token.
pub mod short_lists
