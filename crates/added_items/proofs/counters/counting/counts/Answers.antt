use Rattle.std.proofs.Common.{◌+◌, ◌++◌, drop, map, ap, ◌∙◌}
use Rattle.control_flow_theory.specs.main_theorem.Numbering.{counts}
use Rattle.branch_tree.specs.Graph.{seen_added}
use Rattle.added_items.proofs.counters_lemmas.CountRows.{one-counted}
use Rattle.added_items.proofs.counters.counting.counts.Goals as goal

pub loop-cell-preserved : goal.loop-cell-preserved
loop-cell-preserved c =
    let cells = c.args.cells.now in
    let at = c.loop-cell._cell-index in
    ap (λ made. map seen_added made ++ counts (drop (at + 1) cells)) c.in_ok-push.ensures.items
    ∙ one-counted c.loop-cell.added.items cells at c.loop-cell-test.true c.loop-cell.invariant
