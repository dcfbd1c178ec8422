use Rattle.std.proofs.Common.{ap, inr, ◌∙◌}
use Rattle.parser_combinators.specs.Reading.{start_at}
use Rattle.parser_combinators.proofs.Reader.{spelled, the_only, stops, none}
use Rattle.cobol_grammar.specs.expr_forms.Side.{expr_of}
use Rattle.cobol_grammar.specs.expr_forms.Levels as expressions
use Rattle.cobol_grammar.proofs.expr_forms_lemmas.ExpressionLaws as laws
use Rattle.parser_combinators.specs.faults.Fault.{stop_error}
use Rattle.cond_parse.specs.from_tokens.Answer.{noted_fault}
use Rattle.cond_parse.proofs.from_tokens.expr.parse_expr.Goals as goal

pub returns-in-Err-Stop-clause-only : goal.returns-in-Err-Stop-clause-only
returns-in-Err-Stop-clause-only c = λ side behind s.
    let h = stops (expressions.whole_expr c.args.names.now) (laws.whole_expr c.args.names.now).lawful (start_at c.args.from c.args.tokens.now) c.in-Err-Stop.field-0 c.in-Err-Stop.why c.whole_expr.new.cursor _ c.from_index-cursor.ensures c.in-Err-Stop.field-0-is c.in-Err-Stop.ensures in
    absurd (none (expressions.whole_expr c.args.names.now) (laws.whole_expr c.args.names.now).lawful (start_at c.args.from c.args.tokens.now) c.in-Err-Stop.why c.whole_expr.new.cursor.rest side behind h s)

pub returns-in-Err-Stop-clause-fault : goal.returns-in-Err-Stop-clause-fault
returns-in-Err-Stop-clause-fault c = inr (
  c.in-Err-Stop.why,
  c.whole_expr.new.cursor.rest,
  stops (expressions.whole_expr c.args.names.now) (laws.whole_expr c.args.names.now).lawful (start_at c.args.from c.args.tokens.now) c.in-Err-Stop.field-0 c.in-Err-Stop.why c.whole_expr.new.cursor _ c.from_index-cursor.ensures c.in-Err-Stop.field-0-is c.in-Err-Stop.ensures,
  c.stop_error.ensures ∙ ap (λ line. stop_error c.in-Err-Stop.why line) c.fault_line.ensures,
)

pub returns-in-Ok-clause-found : goal.returns-in-Ok-clause-found
returns-in-Ok-clause-found c = (
  c.in-Ok.side,
  c.whole_expr.new.cursor,
  spelled (expressions.whole_expr c.args.names.now) (laws.whole_expr c.args.names.now).lawful (start_at c.args.from c.args.tokens.now) c.in-Ok.side c.whole_expr.new.cursor _ c.from_index-cursor.ensures c.in-Ok.ensures,
  (
    c.expr_of.ensures,
    c.index-next.ensures,
    c.noted_fault-fault.ensures ∙ ap noted_fault c.fault.ensures,
  ),
)

pub returns-in-Ok-clause-only : goal.returns-in-Ok-clause-only
returns-in-Ok-clause-only c = λ side behind s.
    let same = the_only (expressions.whole_expr c.args.names.now) (laws.whole_expr c.args.names.now).lawful (start_at c.args.from c.args.tokens.now) c.in-Ok.side side c.whole_expr.new.cursor behind _ c.from_index-cursor.ensures c.in-Ok.ensures s in (
      c.expr_of.ensures ∙ ap (λ a. expr_of a.what) same.0,
      c.index-next.ensures ∙ ap (λ q. q.taken) same.1,
      c.noted_fault-fault.ensures ∙ ap noted_fault c.fault.ensures ∙ ap (λ q. noted_fault q.fault) same.1,
    )
