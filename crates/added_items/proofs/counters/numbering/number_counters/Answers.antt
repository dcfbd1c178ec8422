use Rattle.std.proofs.lemmas.Result.{on_ok_weaker}
use Rattle.branch_tree.specs.Graph.{seen_graph}
use Rattle.added_items.proofs.counters_lemmas.Placed.{numbers-placed, closes-placed}
use Rattle.added_items.proofs.counters.numbering.number_counters.Goals as goal

pub returns-clause-placed : goal.returns-clause-placed
returns-clause-placed c =
    on_ok_weaker c.number_graph.result
    (numbers-placed (seen_graph c.args.graph.now) (seen_graph c.number_graph.new.graph)) c.number_graph.ensures

pub returns-clause-closed : goal.returns-clause-closed
returns-clause-closed c =
    on_ok_weaker c.number_graph.result
    (closes-placed (seen_graph c.args.graph.now) (seen_graph c.number_graph.new.graph)) c.number_graph.ensures
