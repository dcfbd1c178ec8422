-- A program is read over the names of its own files and entries.
use Rattle.std.proofs.Common.{◌≡◌, List, [], refl, ap, ◌∙◌, subst}
use Rattle.cobol_lex.specs.declared.token.Token.{Token}
use Rattle.parser_combinators.specs.Form.{Input, Outcome, Got, Stop}
use Rattle.parser_combinators.specs.Reading.{start}
use Rattle.parser_combinators.proofs.Lawful.{got_is, then_got}
use Rattle.cobol_grammar.specs.declared.data_forms.draft.Divisions.{Divisions}
use Rattle.symbol_tables.specs.data_names.Names.{names_of}
use Rattle.declaration_checks.specs.Declaring.{declared_of}
use Rattle.cobol_read.specs.declared.program.Declarations.{Declarations}
use Rattle.cobol_read.specs.declared.program.ProgramDraft.{ProgramDraft}
use Rattle.cobol_read.specs.Program as forms
use Rattle.cobol_read.specs.Program.{nameless, statements_at, declared_by, declarations_from, declarations_of, before_procedures}
use Rattle.grammar_laws.specs.whole_counts.status_readings.Alike.{AlikeOutcomes}
use Rattle.end_to_end_laws.specs.read_programs.division_readings.Same.{SameDivisions}
use Rattle.end_to_end_laws.proofs.read_programs_lemmas.division_readings_lemmas.Divisions.{read-same}
use Rattle.end_to_end_laws.specs.read_programs.own_names.Laws.{AreItsOwn}
use Rattle.end_to_end_laws.proofs.read_programs_lemmas.own_names_lemmas.Declared.{declare-alike}

-- the divisions of what is read
divisions-of : (known : Declarations) (p : Input) (draft : ProgramDraft) (q : Input) → (forms.program known).reads p ≡ Got draft q → (mid : Input) × ((before_procedures known).reads p ≡ Got draft.divisions mid)
unfolding forms.program
divisions-of known p draft q e =
    let s = then_got ((before_procedures known).reads p) _ draft q e in
    let t = then_got ((forms.procedure_division known).reads s.1) _ draft q s.3 in
    let same : s.0 ≡ draft.divisions = ap (λ d. d.divisions) (got_is _ draft t.1 q t.3).0 in
    (s.1, s.2 ∙ ap (λ d. Got d s.1) same)

-- both readings of the divisions
pub alike-readings : (tokens : List Token) (known : Declarations) (before : Divisions) (mid : Input) → (before_procedures known).reads (start tokens) ≡ Got before mid →
    AlikeOutcomes SameDivisions (nameless tokens) (Got before mid)
alike-readings tokens known before mid e =
    subst (λ o. AlikeOutcomes SameDivisions (nameless tokens) o) e
    ((read-same (names_of [] []) known.names [] known.entries).alike (start tokens) (start tokens) (record { rest = refl; taken = refl }))

module _ (tokens : List Token) (draft : ProgramDraft) where
  abbrev known_by : Outcome Divisions → Declarations
  known_by o = declarations_from tokens (declared_by o) (statements_at tokens o)

  own-by : (o : Outcome Divisions) (mid : Input) → nameless tokens ≡ o → AlikeOutcomes SameDivisions o (Got draft.divisions mid) → AreItsOwn tokens (declared_of draft.divisions)
  own-by (Got found behind) mid read alike =
      let A = declare-alike found draft.divisions alike.0 in
      let is : declarations_of tokens ≡ known_by (Got found behind) = ap known_by read in
      record {
        names = ap (λ (known : Declarations). known.names) is ∙ A.names;
        entries = ap (λ (known : Declarations). known.entries) is ∙ A.entries;
        fault = ap (λ (known : Declarations). known.fault) is ∙ A.fault;
      }
  own-by (Stop why rest) mid read alike = absurd alike

pub read-own : (tokens : List Token) (draft : ProgramDraft) (end : Input) → (forms.program (declarations_of tokens)).reads (start tokens) ≡ Got draft end → AreItsOwn tokens (declared_of draft.divisions)
read-own tokens draft end e =
    let d = divisions-of (declarations_of tokens) (start tokens) draft end e in
    own-by tokens draft (nameless tokens) d.0 refl (alike-readings tokens (declarations_of tokens) draft.divisions d.0 d.1)
