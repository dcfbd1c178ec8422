-- What an item comes to, with more behind it, and with statements that fit.
pub mod Ways
-- What fits fits more.
pub mod Fitting
-- Meanings in units keep a factor both ways.
pub mod Charges
-- Where an outcome in units meets a walk step by step, and how what meets is put together.
pub mod Meets
-- The walk by recursion is the walk step by step, and takes as many units as its steps cost.
pub mod Walks
-- What an order of ranges gives to every walk of a family.
pub mod Orders
-- What an item does to two memories that are alike.
pub mod Alike
-- Some steps lead from a state to another one, at this cost.
pub mod Leads
-- A walk depends on the program's memory and on the cells that its family has.
pub mod Framed
-- The PERFORMs that take no unit, since they are the bodies of loops: each was paid by its turn.
pub mod Frees
