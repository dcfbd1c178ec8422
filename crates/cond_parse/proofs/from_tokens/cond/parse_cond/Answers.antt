use Rattle.std.proofs.Common.{◌≡◌, ◌-◌, ap, inr, refl, ◌∙◌}
use Rattle.parser_combinators.specs.Reading.{start_at}
use Rattle.parser_combinators.proofs.Reader.{spelled, the_only, stops, none}
use Rattle.cobol_grammar.specs.cond_forms.Condition as conditions
use Rattle.cobol_grammar.proofs.cond_forms_lemmas.ConditionLaws as laws
use Rattle.parser_combinators.specs.faults.Fault.{stop_error}
use Rattle.cond_parse.specs.from_tokens.Answer.{noted_fault, unread}
use Rattle.cond_parse.proofs.from_tokens.cond.parse_cond.Goals as goal

pub returns-in-Err-Stop-clause-only : goal.returns-in-Err-Stop-clause-only
returns-in-Err-Stop-clause-only c = λ part behind s.
    let h = stops (conditions.whole_cond c.args.names.now) (laws.whole_cond c.args.names.now).lawful (start_at c.args.from c.args.tokens.now) c.in-Err-Stop.field-0 c.in-Err-Stop.why c.whole_cond.new.cursor _ c.from_index-cursor.ensures c.in-Err-Stop.field-0-is c.in-Err-Stop.ensures in
    absurd (none (conditions.whole_cond c.args.names.now) (laws.whole_cond c.args.names.now).lawful (start_at c.args.from c.args.tokens.now) c.in-Err-Stop.why c.whole_cond.new.cursor.rest part behind h s)

pub returns-in-Err-Stop-clause-fault : goal.returns-in-Err-Stop-clause-fault
returns-in-Err-Stop-clause-fault c = inr (
  c.in-Err-Stop.why,
  c.whole_cond.new.cursor.rest,
  stops (conditions.whole_cond c.args.names.now) (laws.whole_cond c.args.names.now).lawful (start_at c.args.from c.args.tokens.now) c.in-Err-Stop.field-0 c.in-Err-Stop.why c.whole_cond.new.cursor _ c.from_index-cursor.ensures c.in-Err-Stop.field-0-is c.in-Err-Stop.ensures,
  c.stop_error.ensures ∙ ap (λ line. stop_error c.in-Err-Stop.why line) c.fault_line.ensures,
)

-- what is answered, as the function that reads gives it
next : (c : goal.After-noted_fault-fault) → c.saturating_sub-next.result ≡ c.whole_cond.new.cursor.taken - unread c.in-Ok.pending_not
next c =
    c.saturating_sub-next.ensures ∙ ap (λ index. index - c.unread.result) c.index.ensures
    ∙ ap (λ behind. c.whole_cond.new.cursor.taken - behind) c.unread.ensures

pub returns-in-Ok-clause-found : goal.returns-in-Ok-clause-found
returns-in-Ok-clause-found c = (
  (c.in-Ok.cond, c.in-Ok.pending_not),
  c.whole_cond.new.cursor,
  spelled (conditions.whole_cond c.args.names.now) (laws.whole_cond c.args.names.now).lawful (start_at c.args.from c.args.tokens.now) (c.in-Ok.cond, c.in-Ok.pending_not) c.whole_cond.new.cursor _ c.from_index-cursor.ensures c.in-Ok.ensures,
  (refl, next c, c.noted_fault-fault.ensures ∙ ap noted_fault c.fault.ensures),
)

pub returns-in-Ok-clause-only : goal.returns-in-Ok-clause-only
returns-in-Ok-clause-only c = λ part behind s.
    let same = the_only (conditions.whole_cond c.args.names.now) (laws.whole_cond c.args.names.now).lawful (start_at c.args.from c.args.tokens.now) (c.in-Ok.cond, c.in-Ok.pending_not) part c.whole_cond.new.cursor behind _ c.from_index-cursor.ensures c.in-Ok.ensures s in (
      ap (λ a. a.0) same.0,
      next c ∙ ap (λ q. q.taken - unread c.in-Ok.pending_not) same.1 ∙ ap (λ a. behind.taken - unread a.1) same.0,
      c.noted_fault-fault.ensures ∙ ap noted_fault c.fault.ensures ∙ ap (λ q. noted_fault q.fault) same.1,
    )
