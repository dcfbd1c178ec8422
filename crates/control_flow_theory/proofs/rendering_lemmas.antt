-- What an item does, its written form does.
pub mod Writing
-- The walk of a family of procedures, and the source machine of the program that is written of them.
pub mod Written
-- The program that is written of procedures is structured.
pub mod Structure
-- Any parts, with the words on cells, can be had as the parts of a program: the premises on a written program can be met.
pub mod Serviceable
-- From the source to the written program.
pub mod Chained
-- The small family meets the premises, and is written as said.
pub mod Example
-- The premises of the headline hold of one small program.
pub mod WholeExample
