-- The last unit of a list, and units that are added behind others.
pub mod UnitLemmas
-- The runs of a mask.
pub mod MaskLemmas
-- The lines of statements that hold lists.
pub mod StatementLemmas
-- All units stand in columns 8 to 32, and begin with a word or digits.
pub mod LineLemmas
