-- An entry more before another one.
pub mod GroupingLemmas
-- What an entry stands in, by what others stand in.
pub mod NestingLemmas
-- Entries and files as references see them, one by one.
pub mod NamesLemmas
-- What is found among the items that a word names, or may qualify, is what is found among all.
pub mod IndexLemmas
-- Two words are equal either way round.
pub mod WordLemmas
-- A number that is added once to each of several words.
pub mod EachLemmas
