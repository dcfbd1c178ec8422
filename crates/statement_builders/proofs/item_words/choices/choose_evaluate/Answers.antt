use Rattle.std.proofs.Common.{map, subst}
use Rattle.std.proofs.lemmas.Result.{IfOk-weaker}
use Rattle.control_flow_theory.specs.language.Control.{seen_stmts}
use Rattle.statement_builders.specs.item_words.Lists.{IsAmongAll}
use Rattle.statement_builders.proofs.item_words_lemmas.ChoiceRows.{evaluate_row}
use Rattle.statement_builders.proofs.item_words.choices.choose_evaluate.Goals as goal

pub returns : goal.returns
returns c =
    let lists = map (seen_stmts 0) c.args.arms.items in
    let had = c.args.has_other in
    IfOk-weaker c.among_all-made.result _ _
    (λ made h. evaluate_row c.args.subject c.args.tests had c.args.arms.items made
    (subst (λ ts. IsAmongAll c.args.subject ts lists had made) c.as_slice.ensures h))
    c.among_all-made.ensures
