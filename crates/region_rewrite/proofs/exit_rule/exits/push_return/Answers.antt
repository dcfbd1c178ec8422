use Rattle.std.proofs.Common.{◌++◌, ◌∷◌, [], map, refl, ap, sym, ◌∙◌}
use Rattle.std.proofs.lemmas.List.{map-append}
use Rattle.branch_tree.specs.declared.tree.End.TheVariants as end
use Rattle.branch_tree.specs.declared.tree.Tree.{Tree}
use Rattle.branch_tree.specs.Tree.{seen_tree}
use Rattle.region_rewrite.specs.exit_rule.Exits.{return_trees}
use Rattle.region_rewrite.proofs.exit_rule_lemmas.ExitRows.{bare_return}
use Rattle.region_rewrite.proofs.exit_rule.exits.push_return.Goals as goal

pub returns-then-returns : goal.returns-then-returns
returns-then-returns c =
    let trees = c.args.trees.now.items in
    let made : Tree = record { body = c.new.result; end = end.Return } in
    ap (map seen_tree) c.push_reserved.ensures.items
    ∙ map-append seen_tree trees (made ∷ [])
    ∙ ap (λ t. map seen_tree trees ++ t ∷ []) (bare_return made c.new.ensures.items refl)
    ∙ ap (λ r. map seen_tree trees ++ return_trees r) (sym c.if-returns.true)
