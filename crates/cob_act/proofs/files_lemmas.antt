-- MOVE from an item as it stands, and to one
pub mod RecordLemmas
-- the bench, operation by operation
pub mod BenchLemmas
-- operations in a world that stands over devices which tell their files
pub mod DeskLemmas
-- what statements come to, from their parts
pub mod EffectLemmas
pub mod ReadLemmas
pub mod EachLemmas
-- what was kept of what they did
pub mod WorkLemmas
