use Rattle.std.proofs.Common.{◌∷◌, [], ap, ◌∙◌}
use Rattle.control_flow_theory.specs.graph_rules.Shapes.{followed, alone}
use Rattle.branch_tree.specs.declared.tree.Piece.TheVariants as piece
use Rattle.branch_tree.specs.Tree.{seen_body}
use Rattle.branch_tree.proofs.TreeRows.{seen_body-append, seen_loop}
use Rattle.loop_rules.proofs.forms.put_loop.Goals as goal

pub returns : goal.returns
returns c =
    let old = c.args.pieces.now.items in
    let t = c.args.turning in
    let p = piece.Loop t.after t.turned t.test t.leaves c.args.body in
    ap seen_body c.push_back_reserved.ensures.items
    ∙ seen_body-append old (p ∷ [])
    ∙ ap (λ s. followed (seen_body old) (alone s)) (seen_loop t.after t.turned t.test t.leaves c.args.body)
