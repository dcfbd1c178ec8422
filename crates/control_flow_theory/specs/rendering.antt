-- How the procedures of a shaped family are written as a program: one paragraph for each range,
-- with items for its cells.
pub mod Rendering
-- When the procedures of a shaped family can be written.
pub mod Procedures
-- When the written parts do what the parts and the words on cells do.
pub mod Serving
-- From a source to the written program: the whole chain, and what each part of it has to give.
pub mod Laws
-- A small family, and the program that is written of it.
pub mod Example
-- The chain from end to end, for one small program.
pub mod WholeExample
