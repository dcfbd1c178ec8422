-- what comes of a program comes of its source
pub mod AnswerLemmas
