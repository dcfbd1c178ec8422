-- A set of nodes that has become one loop, whose turns walk their trees and leave a number in a
-- cell: the number of the node to go on with, or one that ends the loop.
pub mod Gathers
-- Steps of one machine against steps of another, in units: the second may begin some steps earlier,
-- and may make steps that show nothing.
pub mod Spends
-- The rules that close nodes by a number in a cell: a loop with a flag, a loop with several exits,
-- and the dispatch over all nodes that are left.
pub mod Dispatches
-- The targets of a node's live leaves, and the exits rule as a function of the node.
pub mod Targets
-- What a rule keeps that brings a cell of its own: from memories that agree on the cells of both
-- families, both walk alike.
pub mod Keeps
-- What Exits and the dispatch make of a graph, and the order of all rules.
pub mod Closes
-- What holds of the rules that bring a number in a cell, and of all rules in their order.
pub mod Laws
-- Two worked programs: a loop with two exits, and two labels that jump into each other from two
-- entries.
pub mod Examples
