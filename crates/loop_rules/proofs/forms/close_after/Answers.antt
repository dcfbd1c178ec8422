use Rattle.std.proofs.Common.{true, ap, sym, ◌∙◌}
use Rattle.control_flow_theory.specs.semantics.Graph.{tree}
use Rattle.branch_tree.specs.Tree.{seen_tree, seen_body, seen_end}
use Rattle.branch_tree.proofs.TreeRows.{seen_tree_is, seen_dead}
use Rattle.tree_rules.specs.Targets.{seen_targets}
use Rattle.loop_rules.specs.declared.forms.LoopForm.TheVariants as form
use Rattle.loop_rules.specs.Forms.{form_for, formed_if}
use Rattle.loop_rules.proofs.FormRows.{turning, node_row, ways_from, after_row, looped_same}
use Rattle.loop_rules.proofs.forms.close_after.Goals as goal

pub returns-in-If-clause-ok : goal.returns-in-If-clause-ok
returns-in-If-clause-ok c =
    let old = c.args.tree.now in
    let targets = seen_targets c.args.live.now in
    let label = c.args.label in
    let turned = c.args.turned in
    let test = c.in-If.test in
    let arms = c.in-Pick.arms in
    let body = seen_body old.body.items in
    let row = node_row old c.in-Pick.by arms test c.in-Pick.ensures.value c.in-If.is in
    let ways = ways_from label targets old test arms (form.After turned) row c.requires in
    c.looped.ensures
    ∙ looped_same (turning true turned test) _ _ _ _ _ _ (ap seen_body c.in_ok-room.ensures.items)
    (seen_tree_is _ ∙ ap (λ e. tree body (seen_end e)) c.in-Pick.ensures.after ∙ ap (tree body) seen_dead) c.end_of.ensures
    ∙ after_row targets label turned old.body.items test arms (seen_tree old) ways
    ∙ ap (λ x. formed_if targets (form_for label targets x) (seen_tree old)) (sym row)
