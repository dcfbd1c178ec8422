-- What a source program means, what a structured one means, and when the two are the same.
pub mod plain_lemmas
