use Rattle.std.proofs.Common.{◌≡◌, ℕ, List, Option, Some, None, refl, sym, ap, subst, ◌∙◌}
use Rattle.cobol_lex.specs.declared.token.Token.{Token}
use Rattle.cob_tree.specs.declared.fault.NameFault.{NameFault}
use Rattle.parser_combinators.specs.declared.note.Note.{Note}
use Rattle.parser_combinators.specs.declared.why.Why.{Why}
use Rattle.parser_combinators.specs.declared.why.Why.TheVariants as whys
use Rattle.parser_combinators.specs.Form.{Form}
use Rattle.parser_combinators.specs.Reading.{start_at}
use Rattle.parser_combinators.proofs.Reader.{spelled, the_only, stops, none}
use Rattle.cobol_grammar.specs.stmt_forms.Paragraph as forms
use Rattle.cobol_grammar.proofs.stmt_forms_lemmas.ParagraphLaws as laws
use Rattle.parser_combinators.specs.faults.Fault.{stop_error}
use Rattle.procedure_parse.specs.Answer.{first_fault, IsStop, IsFault}
use Rattle.procedure_parse.proofs.DivisionEnds.{division_ends}
use Rattle.procedure_parse.proofs.answer.parse_procedure.Goals as goal

no_fault : (earlier : Option NameFault) (noted : Option Note) → first_fault earlier noted ≡ None → noted ≡ None
no_fault (Some fault) noted h = absurd cc
no_fault None (Some note) h = absurd cc
no_fault None None h = refl

pub returns-in-None-clause-found : goal.returns-in-None-clause-found
returns-in-None-clause-found g c = (
  c.division.new.cursor,
  spelled (forms.division (g.P.Parts.parts c.args.parts.now)) (laws.division (g.met.P.Parts.lawful c.args.parts.now)).lawful (start_at c.args.from c.args.tokens.now) c.in-Ok.found c.division.new.cursor _ c.from_index-cursor.ensures c.in-Ok.ensures,
  division_ends (g.P.Parts.parts c.args.parts.now) _ c.in-Ok.found c.division.new.cursor c.in-Ok.ensures,
  sym c.fault.ensures ∙ no_fault c.args.earlier c.fault.result (sym c.in-None.ensures),
)

pub returns-in-None-clause-only : goal.returns-in-None-clause-only
returns-in-None-clause-only g c = λ found noted s.
    let same = the_only (forms.division (g.P.Parts.parts c.args.parts.now)) (laws.division (g.met.P.Parts.lawful c.args.parts.now)).lawful (start_at c.args.from c.args.tokens.now) c.in-Ok.found found c.division.new.cursor s.0 _ c.from_index-cursor.ensures c.in-Ok.ensures s.1 in
    (same.0, ap (λ n. first_fault c.args.earlier n) (sym (c.fault.ensures ∙ ap (λ q. q.fault) same.1 ∙ s.3)) ∙ sym c.in-None.ensures)

pub returns-in-Some-clause-only : goal.returns-in-Some-clause-only
returns-in-Some-clause-only g c = λ found noted s.
    let same = the_only (forms.division (g.P.Parts.parts c.args.parts.now)) (laws.division (g.met.P.Parts.lawful c.args.parts.now)).lawful (start_at c.args.from c.args.tokens.now) c.in-Ok.found found c.division.new.cursor s.0 _ c.from_index-cursor.ensures c.in-Ok.ensures s.1 in
    ap (λ n. first_fault c.args.earlier n) (sym (c.fault.ensures ∙ ap (λ q. q.fault) same.1 ∙ s.3)) ∙ sym c.in-Some.ensures

pub returns-in-Some-clause-fault : goal.returns-in-Some-clause-fault
returns-in-Some-clause-fault g c = (
  c.in-Ok.found,
  c.division.new.cursor.fault,
  (
    c.division.new.cursor,
    spelled (forms.division (g.P.Parts.parts c.args.parts.now)) (laws.division (g.met.P.Parts.lawful c.args.parts.now)).lawful (start_at c.args.from c.args.tokens.now) c.in-Ok.found c.division.new.cursor _ c.from_index-cursor.ensures c.in-Ok.ensures,
    division_ends (g.P.Parts.parts c.args.parts.now) _ c.in-Ok.found c.division.new.cursor c.in-Ok.ensures,
    refl,
  ),
  ap (λ n. first_fault c.args.earlier n) (sym c.fault.ensures) ∙ sym c.in-Some.ensures,
)

-- a stop is a fault of syntax or a limit, and of no name
stop_is_fault : {A : Type 0} (form : Form A) (tokens : List Token) (from : ℕ) (earlier : Option NameFault) (why : Why) (line : ℕ) →
    IsStop form tokens from (stop_error why line) → IsFault form tokens from earlier (stop_error why line)
stop_is_fault form tokens from earlier whys.Syntax line h = h
stop_is_fault form tokens from earlier whys.Terms line h = h
stop_is_fault form tokens from earlier whys.Parens line h = h
stop_is_fault form tokens from earlier whys.Nesting line h = h

pub returns-in-Err-Stop-clause-only : goal.returns-in-Err-Stop-clause-only
returns-in-Err-Stop-clause-only g c = λ found noted s.
    let h = stops (forms.division (g.P.Parts.parts c.args.parts.now)) (laws.division (g.met.P.Parts.lawful c.args.parts.now)).lawful (start_at c.args.from c.args.tokens.now) c.in-Err-Stop.field-0 c.in-Err-Stop.why c.division.new.cursor _ c.from_index-cursor.ensures c.in-Err-Stop.field-0-is c.in-Err-Stop.ensures in
    absurd (none (forms.division (g.P.Parts.parts c.args.parts.now)) (laws.division (g.met.P.Parts.lawful c.args.parts.now)).lawful (start_at c.args.from c.args.tokens.now) c.in-Err-Stop.why c.division.new.cursor.rest found s.0 h s.1)

pub returns-in-Err-Stop-clause-fault : goal.returns-in-Err-Stop-clause-fault
returns-in-Err-Stop-clause-fault g c =
    let told = rw c.in-Err-Stop.field-0-is at c.stop_error.ensures in
    subst (IsFault (forms.division (g.P.Parts.parts c.args.parts.now)) c.args.tokens.now c.args.from c.args.earlier) (sym told)
    (stop_is_fault (forms.division (g.P.Parts.parts c.args.parts.now)) c.args.tokens.now c.args.from c.args.earlier c.in-Err-Stop.why c.fault_line.result (
      c.in-Err-Stop.why,
      c.division.new.cursor.rest,
      stops (forms.division (g.P.Parts.parts c.args.parts.now)) (laws.division (g.met.P.Parts.lawful c.args.parts.now)).lawful (start_at c.args.from c.args.tokens.now) c.in-Err-Stop.field-0 c.in-Err-Stop.why c.division.new.cursor _ c.from_index-cursor.ensures c.in-Err-Stop.field-0-is c.in-Err-Stop.ensures,
      ap (stop_error c.in-Err-Stop.why) c.fault_line.ensures,
    ))
