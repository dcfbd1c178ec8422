use Rattle.std.proofs.Common.{subst, sym, ◌∙◌}
use Rattle.branch_tree.specs.Graph.{seen_nodes}
use Rattle.added_items.specs.counters.Counting.{Rises}
use Rattle.added_items.proofs.counters_lemmas.CellRows.{counters-rise}
use Rattle.added_items.proofs.counters.numbering.number_graph.Goals as goal

pub number_nodes-requires : goal.number_nodes-requires
number_nodes-requires c =
    subst (Rises 0) (sym (c.deref-3.ensures.value ∙ c.in_ok-cells.ensures))
    (counters-rise 0 (seen_nodes c.deref.result.now))
