use Rattle.lowering_labels.proofs.loop_nodes_lemmas.NodeRows.{nodes_are}
use Rattle.lowering_labels.proofs.loop_nodes.laws.loops_have_these_nodes.Goals as goal

pub returns : goal.returns
returns c = nodes_are
