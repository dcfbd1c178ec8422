-- how large graphs are
pub mod Sizing
-- how large what is in trees is
pub mod Parts
