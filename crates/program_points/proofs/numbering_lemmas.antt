-- places added, one after the other
pub mod Growing
-- what single statements add
pub mod Steps
-- what loops add
pub mod Looping
-- statements of the tree, by what was built of their parts
pub mod Choosing
-- sentences, from the last one back
pub mod Sentences
