-- Tests of statements by their parts.
pub mod Passing
-- What the makers of forms give of few tokens.
pub mod Giving
-- Statements that hold no others.
pub mod Simple
-- Statements that hold others.
pub mod Holding
-- That few paragraphs are named, as such a test.
pub mod Few
-- Sentences, paragraphs and the division.
pub mod Paragraphs
-- EXIT without a further word stands alone in the sentences that are read.
pub mod exit_stmts_lemmas
