use Rattle.std.proofs.Common.{◌++◌, ◌∷◌, [], ap, ◌∙◌, refl}
use Rattle.control_flow_theory.specs.structuring.Dispatches.{bare}
use Rattle.branch_tree.specs.declared.chooser.Picker.TheVariants as picker
use Rattle.branch_tree.specs.declared.tree.End.TheVariants as end
use Rattle.branch_tree.specs.declared.tree.Piece.TheVariants as piece
use Rattle.branch_tree.specs.Tree.{seen_tree, seen_end}
use Rattle.region_rewrite.proofs.exit_rule_lemmas.ExitRows.{exits_row}
use Rattle.region_rewrite.proofs.exit_rule.exits.exit_tree.Goals as goal

pub returns-clause-ok : goal.returns-clause-ok
returns-clause-ok c =
    let cell = c.args.cell in
    let returns = c.tree_returns.result in
    exits_row cell c.args.label (seen_tree c.args.tree.now) (seen_tree c.looped.new.tree) c.in_ok-targets.targets
    c.push_reserved.new.self.items (seen_end (end.Pick (picker.ByCell cell) c.bare-arms.result)) c.bare-arms.result returns
    c.looped.ensures
    (c.push_reserved.ensures.items ∙ ap (λ l. l ++ piece.Set cell 0 ∷ []) c.in_ok-before.ensures.items)
    refl (c.bare-arms.ensures ∙ ap (λ l. bare l returns) c.as_slice.ensures) c.in_ok-targets.ensures c.tree_returns.ensures
