-- the sizes of what is seen
pub mod SizeLemmas
-- places
pub mod LayoutLemmas
-- continuations
pub mod JumpTargetLemmas
-- the ends of paragraphs
pub mod FallThroughLemmas
