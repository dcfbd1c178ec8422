use Rattle.std.proofs.Common.{◌+◌, ◌≤◌, length, take, ap, sym, ◌∙◌, arith}
use Rattle.control_flow_theory.specs.graph_rules.Shapes.{leaves_to, end_leaves_to, arms_leaves_to}
use Rattle.branch_tree.specs.Tree.{seen_tree, seen_trees}
use Rattle.graph_rewriting.specs.Counting.{once_at}
use Rattle.branch_tree.specs.declared.tree.End.TheVariants.{Pick, Jump, Return, Stop, Dead}
use Rattle.branch_tree.proofs.TreeRows.{seen_pick, seen_jump, seen_return, seen_stop, seen_dead}
use Rattle.graph_rewriting.proofs.CountRows.{counts_none, counts_as, counts_both, leaves_by_end, arm_next, arms_end}
use Rattle.graph_rewriting.proofs.counting.+counts.Goals as goal

pub count_arms-loop-arm-init : goal.count_arms-loop-arm-init
count_arms-loop-arm-init t c = counts_none c.args.keys.now c.args.comes c.args.slots.now

pub count_arms-loop-arm-preserved : goal.count_arms-loop-arm-preserved
count_arms-loop-arm-preserved t c =
    let arms = c.args.arms.now in
    let i = c.loop-arm.arm-index in
    let d = c.arm-item.result in
    counts_as c.args.keys.now c.args.comes _ (λ l. arms_leaves_to l (seen_trees (take (i + 1) arms))) _ _
    (λ l. arm_next l arms i d c.loop-arm-test.true c.arm-item.is)
    (counts_both c.args.keys.now c.args.comes (λ l. arms_leaves_to l (seen_trees (take i arms)))
    (λ l. leaves_to l (seen_tree d)) _ _ _ c.loop-arm.invariant c.count_tree.ensures)

pub count_arms-returns : goal.count_arms-returns
count_arms-returns t c =
    let arms = c.args.arms.now in
    let i = c.loop-arm.arm-index in
    let past : length arms ≤ i = omega (arith, c.loop-arm-test.false) in
    counts_as c.args.keys.now c.args.comes (λ l. arms_leaves_to l (seen_trees (take i arms)))
    (λ l. arms_leaves_to l (seen_trees arms)) _ _
    (λ l. ap (λ ts. arms_leaves_to l (seen_trees ts)) (arms_end arms i past)) c.loop-arm.invariant

pub count_tree-returns-in-Pick : goal.count_tree-returns-in-Pick
count_tree-returns-in-Pick t c =
    let end = Pick c.in-Pick.by c.in-Pick.arms in
    let arms = c.as_slice.result.now in
    counts_as c.args.keys.now c.args.comes (λ l. arms_leaves_to l (seen_trees arms))
    (λ l. leaves_to l (seen_tree c.args.tree.now)) _ _
    (λ l. sym (leaves_by_end l c.args.tree.now end c.in-Pick.is
    ∙ ap (end_leaves_to l) (seen_pick c.in-Pick.by c.in-Pick.arms)
    ∙ ap (λ ts. arms_leaves_to l (seen_trees ts)) (sym c.as_slice.ensures)))
    c.count_arms.ensures

pub count_tree-returns-in-Jump : goal.count_tree-returns-in-Jump
count_tree-returns-in-Jump t c =
    let to = c.in-Jump.to in
    counts_as c.args.keys.now c.args.comes (once_at to) (λ l. leaves_to l (seen_tree c.args.tree.now)) _ _
    (λ l. sym (leaves_by_end l c.args.tree.now (Jump to) c.in-Jump.is ∙ ap (end_leaves_to l) (seen_jump to)))
    c.count_leaf.ensures

pub count_tree-returns-in-Return : goal.count_tree-returns-in-Return
count_tree-returns-in-Return t c =
    counts_as c.args.keys.now c.args.comes (λ l. 0) (λ l. leaves_to l (seen_tree c.args.tree.now)) _ _
    (λ l. sym (leaves_by_end l c.args.tree.now Return c.in-Return.is ∙ ap (end_leaves_to l) seen_return))
    (counts_none c.args.keys.now c.args.comes c.args.slots.now)

pub count_tree-returns-in-Stop : goal.count_tree-returns-in-Stop
count_tree-returns-in-Stop t c =
    counts_as c.args.keys.now c.args.comes (λ l. 0) (λ l. leaves_to l (seen_tree c.args.tree.now)) _ _
    (λ l. sym (leaves_by_end l c.args.tree.now Stop c.in-Stop.is ∙ ap (end_leaves_to l) seen_stop))
    (counts_none c.args.keys.now c.args.comes c.args.slots.now)

pub count_tree-returns-in-Dead : goal.count_tree-returns-in-Dead
count_tree-returns-in-Dead t c =
    counts_as c.args.keys.now c.args.comes (λ l. 0) (λ l. leaves_to l (seen_tree c.args.tree.now)) _ _
    (λ l. sym (leaves_by_end l c.args.tree.now Dead c.in-Dead.is ∙ ap (end_leaves_to l) seen_dead))
    (counts_none c.args.keys.now c.args.comes c.args.slots.now)
