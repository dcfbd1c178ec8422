-- Conditions by what they are made of.
pub mod Layers
-- What of the tokens stands first, and tests of what stands behind.
pub mod Tests
-- What spells tests of expressions.
pub mod Relations
-- What spells one part of a condition, without NOT before it.
pub mod Primaries
-- What spells conditions.
pub mod Conditions
-- Parts of conditions behind which a NOT stands.
pub mod Nots
-- Whole conditions behind which a NOT stands.
pub mod BeforeNot
