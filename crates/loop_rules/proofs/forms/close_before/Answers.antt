use Rattle.std.proofs.Common.{◌≡◌, slice_get, Some, false, ap, sym, ◌∙◌, arith}
use Rattle.control_flow_theory.specs.semantics.Graph.{tree}
use Rattle.control_flow_theory.specs.graph_rules.Shapes.{followed, alone}
use Rattle.branch_tree.specs.Tree.{seen_tree, seen_body, seen_end}
use Rattle.branch_tree.proofs.TreeRows.{seen_tree_is}
use Rattle.tree_rules.specs.Targets.{seen_targets}
use Rattle.loop_rules.specs.declared.forms.LoopForm.TheVariants as form
use Rattle.loop_rules.specs.Forms.{end_by, form_for, formed_if, loop_by}
use Rattle.loop_rules.proofs.FormRows.{arm_place, arm_place_small, two_arms, node_row, ways_from, turning, before_row}
use Rattle.loop_rules.proofs.forms.close_before.Goals.{then-turned, else-turned}
use Rattle.loop_rules.proofs.forms.close_before.Goals as goal

pub arm_of-body-requires : goal.arm_of-body-requires
arm_of-body-requires c =
    let old = c.args.tree.now in
    let targets = seen_targets c.args.live.now in
    let row = node_row old c.in-Pick.by c.in-Pick.arms c.in-If.test c.in-Pick.ensures.value c.in-If.is in
    let ways = ways_from c.args.label targets old c.in-If.test c.in-Pick.arms (form.Before c.args.turned) row c.requires in
    let two = two_arms false c.args.turned targets c.args.label _ c.in-Pick.arms ways in
    let at : c.if-turned.arm_of ≡ arm_place c.args.turned = elim c.if-turned.branch [
      | then-turned w ↦ w.arm_of-is ∙ ap arm_place (sym w.if-turned.true)
      | else-turned w ↦ w.arm_of-is ∙ ap arm_place (sym w.if-turned.false)
    ] in
    let small = arm_place_small c.args.turned in
    omega (arith, two, at, small)

pub returns-after-turned-clause-ok : goal.returns-after-turned-clause-ok
returns-after-turned-clause-ok c =
    let old = c.args.tree.now in
    let targets = seen_targets c.args.live.now in
    let label = c.args.label in
    let turned = c.args.turned in
    let test = c.in-If.test in
    let arms = c.in-Pick.arms in
    let arm = c.arm_of-body.result in
    let row = node_row old c.in-Pick.by arms test c.in-Pick.ensures.value c.in-If.is in
    let ways = ways_from label targets old test arms (form.Before turned) row c.requires in
    let at : c.if-turned.arm_of ≡ arm_place turned = elim c.if-turned.branch [
      | then-turned w ↦ w.arm_of-is ∙ ap arm_place (sym w.if-turned.true)
      | else-turned w ↦ w.arm_of-is ∙ ap arm_place (sym w.if-turned.false)
    ] in
    let there : slice_get arms (arm_place turned) ≡ Some arm = ap (slice_get arms) (sym at) ∙ c.arm_of-body.ensures in
    seen_tree_is _
    ∙ ap (tree (seen_body c.end_by.new.self.body.items)) (ap seen_end c.end_by.ensures.end ∙ c.end_of.ensures)
    ∙ ap (λ b. tree b (end_by targets))
    (ap (λ v. seen_body v.items) c.end_by.ensures.body ∙ c.put_loop.ensures
    ∙ ap (λ l. followed (seen_body l) (alone (loop_by (turning false turned test) (seen_tree arm)))) c.in_ok-reserve.ensures.items)
    ∙ before_row targets label turned old.body.items test arms arm (seen_tree old) ways there
    ∙ ap (λ x. formed_if targets (form_for label targets x) (seen_tree old)) (sym row)
