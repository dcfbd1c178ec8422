-- Words of the shape of reserved words, and tokens that are added behind others.
pub mod TokenLemmas
