-- Drafts whose status items are named, and whose values are literals.
pub mod Drafts
