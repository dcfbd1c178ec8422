use Rattle.std.proofs.Common.{map}
use Rattle.std.proofs.lemmas.Result.{IfOk-weaker}
use Rattle.control_flow_theory.specs.language.Control.{seen_stmts}
use Rattle.statement_builders.proofs.item_words_lemmas.ListRows.{among_row}
use Rattle.statement_builders.proofs.item_words.whens.among.Goals as goal

pub returns-in-Ok : goal.returns-in-Ok
returns-in-Ok c =
    IfOk-weaker c.by_subject.result _ _
    (λ made h. among_row c.args.subject c.args.tests.now (map (seen_stmts 0) c.args.arms.items) (seen_stmts 0 c.args.other) c.args.has_other c.in-Ok.whens made c.in-Ok.ensures h.0 h.1)
    c.by_subject.ensures
