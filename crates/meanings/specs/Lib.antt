-- What a source program means, what a structured one means, and when the two are the same.
pub mod plain
-- What simple statements do: the definitions, without code.
pub mod statements
