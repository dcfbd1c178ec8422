use Rattle.std.proofs.Common.{◌∙◌, [], ◌∷◌, ◌++◌, ap}
use Rattle.branch_tree.specs.declared.tree.Piece.TheVariants as piece
use Rattle.statement_lowering.specs.LowerList.{flow_facts_by}
use Rattle.statement_lowering.proofs.EscapeFreeRows.{adds_cut}
use Rattle.statement_lowering.proofs.escape_free.push_cut.Goals as goal

pub returns : goal.returns
returns c = λ last.
    let cut = c.in_ok-cut.cut in
    let items = c.in_ok-push.ensures.items ∙ ap (λ it. it ++ piece.Own cut ∷ []) c.make_room.ensures in
    adds_cut (flow_facts_by c.args.telling.now) c.args.stmt.now cut c.args.body.now.items c.push.new.self.items last c.in_ok-cut.ensures c.requires items
