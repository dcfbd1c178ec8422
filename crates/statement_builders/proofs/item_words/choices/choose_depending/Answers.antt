use Rattle.std.proofs.Common.{map, subst}
use Rattle.std.proofs.lemmas.Result.{IfOk-weaker}
use Rattle.control_flow_theory.specs.language.Control.{seen_stmts}
use Rattle.statement_builders.specs.item_words.Lists.{IsNumberedAll}
use Rattle.statement_builders.proofs.item_words_lemmas.ChoiceRows.{depending_row}
use Rattle.statement_builders.proofs.item_words.choices.choose_depending.Goals as goal

pub returns : goal.returns
returns c =
    let lists = map (seen_stmts 0) c.args.arms.items in
    IfOk-weaker c.choose_numbered.result _ _
    (λ made h. depending_row c.args.on c.args.names c.args.arms.items made
    (subst (λ side. IsNumberedAll side c.args.names lists made) c.place_side.ensures h))
    c.choose_numbered.ensures
