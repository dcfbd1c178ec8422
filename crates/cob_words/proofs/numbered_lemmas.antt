-- a stem with a number behind it is a word in capitals
pub mod NumberedLemmas
