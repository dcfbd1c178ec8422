-- What an item of a source program does, it does by some ways.
pub mod Freely
-- What a level comes to, it comes to by a free flow path.
pub mod Paths
-- A run that meets a fault of flow is a flow path that meets it.
pub mod Faults
-- A flow path that meets a fault with one range alone pending meets one with more pending below.
pub mod Stacks
-- Where a program isn't faulty, the free flow paths are the flow paths.
pub mod FreeFlow
-- Lowering by what flow paths say.
pub mod Linked
-- A free flow path passes each statement that can complete.
pub mod Passes
-- A reached node performs only what its range's level calls.
pub mod Called
