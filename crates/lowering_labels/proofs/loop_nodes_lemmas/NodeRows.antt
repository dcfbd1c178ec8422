-- The nodes of a loop, row by row.
use Rattle.std.proofs.Common.{true, false, refl}
use Rattle.control_flow_theory.specs.language.Language.{Times, Until, Varying}
use Rattle.control_flow_theory.specs.semantics.Graph.{tree}
use Rattle.lowering_labels.specs.loop_nodes.Loops.{LoopsHaveTheseNodes}

pub nodes_are : LoopsHaveTheseNodes
nodes_are (Times amount) place (tree body end) after = refl
nodes_are (Until false test) place (tree body end) after = refl
nodes_are (Until true test) place (tree body end) after = refl
nodes_are (Varying false set step test) place (tree body end) after = refl
nodes_are (Varying true set step test) place (tree body end) after = refl
