use Rattle.std.proofs.Common.{length, ap, sym, ◌∙◌, subst, arith, rules}
use Rattle.control_flow_theory.specs.semantics.Graph as graph
use Rattle.control_flow_theory.specs.lowering.Reached.{JumpsTo}
use Rattle.branch_tree.specs.Choosers.{seen_picker}
use Rattle.branch_tree.specs.Tree.{seen_end, seen_tree, seen_trees}
use Rattle.branch_tree.proofs.TreeRows.{seen_dead, seen_jump, seen_pick, seen_return, seen_stop}
use Rattle.pending_returns.specs.levels.Reach.{Adds}
use Rattle.pending_returns.proofs.levels_lemmas.Marking.{on-ok}
use Rattle.flow_graph.specs.Jumps.{AddsArmJumps, AddsJumps, ArmsJumpBelow, JumpBelow}
use Rattle.flow_graph.proofs.JumpRows.{arms_depth, depth_in, end_depth, adds_end, adds_jump, adds_nothing, arm_below, arms_below, arms_more, end_at, jump_below}
use Rattle.flow_graph.proofs.reaching.+jumps.Goals as goal

pub visit_arms-visit_tree-requires : goal.visit_arms-visit_tree-requires
visit_arms-visit_tree-requires t c =
    let arms = c.args.arms.now in
    let arm = c.arm-item.result in
    let i = c.loop-arm.arm-index in
    let inv = c.loop-arm.invariant in
    let below = arm_below arms i arm c.loop-arm-test.true c.arm-item.is (length c.args.reach.now.marks.items) c.args.reach.now.places.items c.loop-arm.reach.places.items inv.arms c.requires.below in
    let less = depth_in arms i arm c.loop-arm-test.true c.arm-item.is in (
      search (rules, less),
      (
        inv.marked,
        (
          subst (λ n. JumpBelow n (graph.end_of (seen_tree arm))) (sym inv.size) (subst (λ e. JumpBelow (length c.args.reach.now.marks.items) e) (sym (end_at arm)) below),
          omega (arith, c.requires.small, inv.size),
        ),
      ),
    )

pub visit_arms-loop-arm-preserved : goal.visit_arms-loop-arm-preserved
visit_arms-loop-arm-preserved t c =
    let arms = c.args.arms.now in
    let arm = c.arm-item.result in
    let i = c.loop-arm.arm-index in
    let inv = c.loop-arm.invariant in
    let now = c.loop-arm.reach.places.items in
    let new = c.visit_tree.new.reach.places.items in
    record {
      marked = c.in_ok-visit_tree.ensures.marked;
      size = c.in_ok-visit_tree.ensures.size ∙ inv.size;
      arms = arms_more arms i arm c.loop-arm-test.true c.arm-item.is c.args.reach.now.places.items now new inv.arms
          (adds_end (seen_end arm.end) (graph.end_of (seen_tree arm)) now new (sym (end_at arm)) c.in_ok-visit_tree.ensures.adds);
    }

pub visit_tree-visit_arms-requires : goal.visit_tree-visit_arms-requires
visit_tree-visit_arms-requires t c =
    let tree = c.args.tree.now in
    let bound = length c.args.reach.now.marks.items in
    let is = end_at tree ∙ ap seen_end c.in-Pick.is ∙ seen_pick c.in-Pick.by c.in-Pick.arms in
    let below = arms_below bound (graph.end_of (seen_tree tree)) (seen_picker c.in-Pick.by) (seen_trees c.in-Pick.arms) is c.requires.below in
    let deep = ap end_depth is in
    let slice = ap (λ ts. arms_depth (seen_trees ts)) c.as_slice.ensures in (
      search (rules, deep, slice),
      (
        c.requires.marked,
        (subst (λ ts. ArmsJumpBelow bound (seen_trees ts)) (sym c.as_slice.ensures) below, c.requires.small),
      ),
    )

pub visit_tree-overflow_cast-number : goal.visit_tree-overflow_cast-number
visit_tree-overflow_cast-number t c =
    let tree = c.args.tree.now in
    let is = end_at tree ∙ ap seen_end c.in-Jump.is ∙ seen_jump c.in-Jump.to in
    let lt = jump_below (length c.args.reach.now.marks.items) c.in-Jump.to (graph.end_of (seen_tree tree)) is c.requires.below in
    omega (arith, lt, c.number.ensures, c.requires.small)

pub visit_tree-visit-requires-clause-room : goal.visit_tree-visit-requires-clause-room
visit_tree-visit-requires-clause-room t c =
    let tree = c.args.tree.now in
    let is = end_at tree ∙ ap seen_end c.in-Jump.is ∙ seen_jump c.in-Jump.to in
    let lt = jump_below (length c.args.reach.now.marks.items) c.in-Jump.to (graph.end_of (seen_tree tree)) is c.requires.below in
    omega (arith, lt, c.number.ensures)

pub visit_tree-returns-in-Pick-clause-adds : goal.visit_tree-returns-in-Pick-clause-adds
visit_tree-returns-in-Pick-clause-adds t c =
    let tree = c.args.tree.now in
    let old = c.args.reach.now.places.items in
    let new = c.visit_arms.new.reach.places.items in
    let is = end_at tree ∙ ap seen_end c.in-Pick.is ∙ seen_pick c.in-Pick.by c.in-Pick.arms in
    on-ok c.visit_arms.result (AddsArmJumps (seen_trees c.as_slice.result.now) old new) (AddsJumps (graph.end_of (seen_tree tree)) old new)
    (λ h. adds_end (graph.end_of (seen_tree tree)) (graph.Pick (seen_picker c.in-Pick.by) (seen_trees c.in-Pick.arms)) old new is
    (subst (λ ts. AddsArmJumps (seen_trees ts) old new) c.as_slice.ensures h))
    c.visit_arms.ensures.adds

pub visit_tree-returns-in-Jump-clause-adds : goal.visit_tree-returns-in-Jump-clause-adds
visit_tree-returns-in-Jump-clause-adds t c =
    let tree = c.args.tree.now in
    let old = c.args.reach.now.places.items in
    let new = c.visit.new.self.places.items in
    let to = c.in-Jump.to in
    let is = end_at tree ∙ ap seen_end c.in-Jump.is ∙ seen_jump to in
    on-ok c.visit.result (Adds old new c.number.result) (AddsJumps (graph.end_of (seen_tree tree)) old new)
    (λ h. adds_end (graph.end_of (seen_tree tree)) (graph.Jump to) old new is (adds_jump to old new (subst (λ n. Adds old new n) c.number.ensures h)))
    c.visit.ensures.adds

pub visit_tree-returns-in-Return-clause-adds : goal.visit_tree-returns-in-Return-clause-adds
visit_tree-returns-in-Return-clause-adds t c =
    let tree = c.args.tree.now in
    let is = end_at tree ∙ ap seen_end c.in-Return.is ∙ seen_return in
    adds_nothing (λ label. JumpsTo label (graph.end_of (seen_tree tree))) c.args.reach.now.places.items (λ label j. subst (JumpsTo label) is j)

pub visit_tree-returns-in-Stop-clause-adds : goal.visit_tree-returns-in-Stop-clause-adds
visit_tree-returns-in-Stop-clause-adds t c =
    let tree = c.args.tree.now in
    let is = end_at tree ∙ ap seen_end c.in-Stop.is ∙ seen_stop in
    adds_nothing (λ label. JumpsTo label (graph.end_of (seen_tree tree))) c.args.reach.now.places.items (λ label j. subst (JumpsTo label) is j)

pub visit_tree-returns-in-Dead-clause-adds : goal.visit_tree-returns-in-Dead-clause-adds
visit_tree-returns-in-Dead-clause-adds t c =
    let tree = c.args.tree.now in
    let is = end_at tree ∙ ap seen_end c.in-Dead.is ∙ seen_dead in
    adds_nothing (λ label. JumpsTo label (graph.end_of (seen_tree tree))) c.args.reach.now.places.items (λ label j. subst (JumpsTo label) is j)
