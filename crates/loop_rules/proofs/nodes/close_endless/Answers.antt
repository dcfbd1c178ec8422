use Rattle.std.proofs.Common.{false, ap, sym, ◌∙◌, refl}
use Rattle.control_flow_theory.specs.semantics.Graph.{tree, Dead}
use Rattle.control_flow_theory.specs.language.Language.{also, none, Loop, Until, Is, Nested}
use Rattle.branch_tree.specs.declared.chooser.Test.TheVariants as test
use Rattle.branch_tree.specs.declared.tree.Leaves.TheVariants as leaves
use Rattle.branch_tree.specs.Tree.{seen_tree, seen_body}
use Rattle.loop_rules.proofs.FormRows.{endless, looped_same}
use Rattle.loop_rules.proofs.nodes.close_endless.Goals as goal

pub returns-clause-ok : goal.returns-clause-ok
returns-clause-ok c =
    c.looped.ensures
    ∙ looped_same (record { after = false; turned = false; test = test.Is c.args.cell 1; leaves = leaves.Silent }) _ _ (seen_tree c.args.tree.now) _ _ _ (ap seen_body c.in_ok-room.ensures.items) refl c.end_of.ensures
    ∙ ap (λ s. tree (also (Loop (Until false (Is c.args.cell 1)) (Nested s)) none) Dead)
    (sym (endless c.args.cell c.args.label (seen_tree c.args.tree.now)))
