use Rattle.std.proofs.Common.{◌≡◌, ap, sym, ◌∙◌}
use Rattle.control_flow_theory.specs.semantics.Graph.{tree, Pick}
use Rattle.control_flow_theory.specs.language.Language.{If}
use Rattle.branch_tree.specs.Choosers.{seen_test, seen_picker}
use Rattle.branch_tree.specs.Tree.{seen_tree, seen_trees, seen_body, seen_end}
use Rattle.branch_tree.proofs.TreeRows.{seen_tree_is, seen_pick}
use Rattle.tree_rules.specs.Targets.{seen_targets}
use Rattle.loop_rules.specs.Forms.{is_nothing, ways, form_at, form_for}
use Rattle.loop_rules.proofs.FormRows.{ways_are}
use Rattle.loop_rules.proofs.forms.form_of.Goals as goal

pub returns-in-If : goal.returns-in-If
returns-in-If c =
    let t = c.args.tree.now in
    let targets = seen_targets c.args.live.now in
    let label = c.args.label in
    let body = seen_body t.body.items in
    let arms = seen_trees c.in-Pick.arms in
    let row : seen_tree t ≡ tree body (Pick (If (seen_test c.in-If.field-0)) arms) =
    seen_tree_is t ∙ ap (λ e. tree body (seen_end e)) c.in-Pick.is
    ∙ ap (tree body) (seen_pick c.in-Pick.by c.in-Pick.arms)
    ∙ ap (λ p. tree body (Pick (seen_picker p) arms)) c.in-If.is in
    c.form_arms.ensures
    ∙ ap (λ a. ways targets label (is_nothing body) (seen_trees a)) c.as_slice.ensures
    ∙ ways_are label targets body (seen_test c.in-If.field-0) arms
    ∙ ap (λ x. form_at (form_for label targets x)) (sym row)
