-- numbers that aren't taken
pub mod FreshLemmas
-- which range is next
pub mod OrderLemmas
-- names behind those that are given
pub mod NameLemmas
