use Rattle.std.proofs.Common.{false, ap, sym, ◌∙◌, ◌++◌, ◌∷◌, [], refl}
use Rattle.control_flow_theory.specs.semantics.Graph.{tree}
use Rattle.control_flow_theory.specs.language.Language.{also, none, Do, Set, Loop, Until, Is, Nested}
use Rattle.control_flow_theory.specs.graph_rules.Shapes.{alone}
use Rattle.branch_tree.specs.declared.tree.Piece.TheVariants as piece
use Rattle.branch_tree.specs.declared.chooser.Test.TheVariants as test
use Rattle.branch_tree.specs.declared.tree.Leaves.TheVariants as leaves
use Rattle.branch_tree.specs.Tree.{seen_tree, seen_body}
use Rattle.branch_tree.proofs.TreeRows.{seen_set}
use Rattle.tree_rules.specs.Targets.{seen_targets}
use Rattle.loop_rules.specs.Forms.{end_by}
use Rattle.loop_rules.proofs.FormRows.{flagged, looped_same}
use Rattle.loop_rules.proofs.nodes.close_flag.Goals as goal

pub returns-clause-ok : goal.returns-clause-ok
returns-clause-ok c =
    let cell = c.args.cell in
    c.looped.ensures
    ∙ looped_same (record { after = false; turned = false; test = test.Is cell 1; leaves = leaves.Flag cell c.args.label }) _ _ (seen_tree c.args.tree.now) _ _ _
    (ap seen_body (c.push_reserved.ensures.items ∙ ap (λ l. l ++ piece.Set cell 0 ∷ []) c.in_ok-room.ensures.items) ∙ ap alone (seen_set cell 0))
    refl c.end_of.ensures
    ∙ ap (λ s. tree (also (Do (Set cell 0)) (also (Loop (Until false (Is cell 1)) (Nested s)) none)) (end_by (seen_targets c.args.live.now)))
    (sym (flagged cell c.args.label (seen_tree c.args.tree.now)))
