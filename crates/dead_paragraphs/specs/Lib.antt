-- paragraphs that are dropped
pub mod Dead
