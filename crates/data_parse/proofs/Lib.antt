-- Reads data description entries (ISO 1989:1985) to drafts, and words that may be one or another.
pub mod entries_lemmas
