use Rattle.control_flow_theory.proofs.main_theorem_lemmas.graphs.NamedCellsExample.{one-counter}
use Rattle.control_flow_theory.proofs.main_theorem_lemmas.graphs.NamedCells.{nodes-name, counters-named}
use Rattle.control_flow_theory.proofs.main_theorem_lemmas.graphs.Numbering.{counters-numbered}
use Rattle.control_flow_theory.proofs.main_theorem.lowered_nodes_name_counters.Goals as goal

pub returns-clause-node : goal.returns-clause-node
returns-clause-node c = nodes-name

pub returns-clause-graph : goal.returns-clause-graph
returns-clause-graph c = counters-named

pub returns-clause-example : goal.returns-clause-example
returns-clause-example c = one-counter

pub returns-clause-numbering : goal.returns-clause-numbering
returns-clause-numbering c = counters-numbered
