-- The fault that counts of several.
pub mod Earliest
-- What is lawful, what a loop of lawful turns is, and what follows of each lawful form.
pub mod Lawful
pub mod Turns
pub mod HereLemmas
pub mod Reader
-- The makers, for laws and for limits: written as the form is.
pub mod MakerLaws
pub mod Deeper
-- What a loop of a parser keeps.
pub mod Loops
-- The small grammar.
pub mod ExampleLaws
pub mod ExampleLevels
-- The words and literals of a program's own: which tokens they are, and how they are read.
pub mod words_lemmas
