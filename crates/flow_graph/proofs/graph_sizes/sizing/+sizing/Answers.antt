use Rattle.std.proofs.Common.{◌≡◌, ◌+◌, ◌-◌, ◌^◌, min, sum_by, ap, sym, ◌∙◌, arith}
use Rattle.control_flow_theory.specs.lowering.Completes.{sizes}
use Rattle.branch_tree.specs.Tree.{seen_end}
use Rattle.branch_tree.specs.Within.{end_within}
use Rattle.flow_graph.specs.graph_sizes.Parts.{arm_size, piece_size, within_size}
use Rattle.flow_graph.proofs.graph_sizes_lemmas.SizeRows.{own_size, chosen_size, pick_within}
use Rattle.flow_graph.proofs.graph_sizes.sizing.+sizing.Goals as goal

pub piece_size-returns-in-Own : goal.piece_size-returns-in-Own
piece_size-returns-in-Own t c =
    c.stmt_size.ensures
    ∙ ap (λ n. min n (2 ^ 64 - 1)) (sym (ap piece_size c.in-Own.is ∙ own_size c.in-Own.stmt))

pub piece_size-returns-in-Choose : goal.piece_size-returns-in-Choose
piece_size-returns-in-Choose t c =
    let whole : piece_size c.args.piece.now ≡ 1 + sum_by arm_size c.in-Choose.arms =
    ap piece_size c.in-Choose.is ∙ chosen_size c.in-Choose.by c.in-Choose.arms in
    let slice = ap (sum_by arm_size) c.as_slice.ensures in
    omega (arith, c.saturating_add.ensures, c.chosen_size.ensures, slice, whole)

pub end_within_size-returns-in-Pick : goal.end_within_size-returns-in-Pick
end_within_size-returns-in-Pick t c =
    let whole : sizes (end_within c.args.leaves.now (seen_end c.args.end.now))
    ≡ 1 + sum_by (within_size c.args.leaves.now) c.in-Pick.arms =
    ap (λ e. sizes (end_within c.args.leaves.now (seen_end e))) c.in-Pick.is
    ∙ pick_within c.args.leaves.now c.in-Pick.by c.in-Pick.arms in
    let slice = ap (sum_by (within_size c.args.leaves.now)) c.as_slice.ensures in
    omega (arith, c.saturating_add.ensures, c.arms_within_size.ensures, slice, whole)
