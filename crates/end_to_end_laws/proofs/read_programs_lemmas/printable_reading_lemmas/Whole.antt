-- What a whole program gives, over what its own tokens declare.
use Rattle.std.proofs.Common.{◌≡◌, ℕ, Bool, true, false, if◌then◌else◌, List, [], Option, Some, None, refl, ap, sym, ◌∙◌, subst}
use Rattle.std.specs.Prelude.{codes}
use Rattle.cob_tree.specs.declared.entry.Entry.{Entry}
use Rattle.cob_tree.specs.declared.program.Program.{Program}
use Rattle.cobol_lex.specs.declared.token.Token.{Token}
use Rattle.parser_combinators.specs.declared.note.Note.{Note}
use Rattle.parser_combinators.specs.Note.{precedes, earliest}
use Rattle.parser_combinators.specs.Form.{Input, Outcome, Got, Stop}
use Rattle.parser_combinators.specs.Reading.{start}
use Rattle.parser_combinators.proofs.Lawful.{got_is, then_got}
use Rattle.parser_combinators.proofs.MakerLaws as makers
use Rattle.cobol_grammar.specs.declared.data_forms.draft.Divisions.{Divisions}
use Rattle.symbol_tables.specs.data_names.Names.{Names, names_of}
use Rattle.cobol_read.specs.declared.program.Declarations.{Declarations}
use Rattle.cobol_read.specs.declared.program.ProgramDraft.{ProgramDraft}
use Rattle.cobol_read.specs.Program as forms
use Rattle.cobol_read.specs.Program.{nameless, statements_at, declared_by, declarations_from, declarations_of, before_procedures, program_of}
use Rattle.cobol_read.specs.Reading.{HasSyntax, Reads}
use Rattle.cobol_read.specs.Status as statuses
use Rattle.cobol_read.proofs.ProgramLaws as program_laws
use Rattle.grammar_laws.specs.form_results.Giving.{Gives, AreOf, Each}
use Rattle.grammar_laws.proofs.form_results_lemmas.Giving.{any, still, pure, note, ◌>>=◌, ◌>>◌}
use Rattle.grammar_laws.specs.whole_counts.status_readings.Alike.{AlikeOutcomes}
use Rattle.end_to_end_laws.specs.read_programs.division_readings.Same.{SameDivisions}
use Rattle.end_to_end_laws.proofs.read_programs_lemmas.division_readings_lemmas.Divisions.{read-same}
use Rattle.round_trip.specs.printable.printable_tokens.Printable.{IsPrintable}
use Rattle.round_trip.proofs.printable_lemmas.printable_tokens_lemmas.Tokens.{printable}
use Rattle.round_trip.specs.printable.Part.{is_printable_place}
use Rattle.round_trip.specs.printable.Whole.{IsPrintableParagraph, IsPrintableProgram}
use Rattle.round_trip.proofs.printable_lemmas.printable_exprs_lemmas.Expressions as exprs
use Rattle.round_trip.proofs.printable_lemmas.printable_division_lemmas.Parts.{place-fine, divisions_print}
use Rattle.round_trip.specs.printable.printable_data.Drafts.{data_printable, ArePrintable}
use Rattle.round_trip.proofs.printable_lemmas.printable_data_lemmas.Data as data_forms
use Rattle.round_trip.proofs.printable_lemmas.printable_data_lemmas.Declared.{files-fine, entries-fine}

none_of : (early late : Option Note) → earliest early late ≡ None → (early ≡ None) × (late ≡ None)
none_of None late e = (refl, e)
none_of (Some early) None e = absurd cc
none_of (Some early) (Some late) e = go (precedes late early) e
  where
    go : (b : Bool) → (if b then Some late else Some early) ≡ None → (Some early ≡ None) × (Some late ≡ None)
    go true e = absurd cc
    go false e = absurd cc

-- ---- what the forms of a program give

status : (names : Names) (entries : List Entry) → Gives IsPrintable (statuses.status names entries) (λ place. is_printable_place place ≡ true)
unfolding statuses.status
status names entries = exprs.data_reference names >>= (λ side. note >> pure (λ _ s. place-fine side.what s))

header_law : makers.Law true forms.header
unfolding forms.header
header_law = makers.◌>>◌ (makers.key (codes "PROCEDURE")) (makers.◌>>◌ (makers.key (codes "DIVISION")) (makers.◌>>◌ makers.period makers.pure))

module _ (known : Declarations) where
  procedure_division : Gives IsPrintable (forms.procedure_division known) (λ found. Each IsPrintableParagraph found)
  unfolding forms.procedure_division
  procedure_division = any header_law >> still (divisions_print known.names known.entries known.procedures)

  program : Gives IsPrintable (forms.program known) (λ draft. ArePrintable draft.divisions × Each IsPrintableParagraph draft.paragraphs)
  unfolding forms.program
  program = data_forms.divisions (status known.names known.entries) >>= (λ before. procedure_division >>= (λ found. pure (λ p d. (d, p))))

  -- the divisions of what is read
  divisions-of : (p : Input) (draft : ProgramDraft) (q : Input) → (forms.program known).reads p ≡ Got draft q → (mid : Input) × ((before_procedures known).reads p ≡ Got draft.divisions mid)
  unfolding forms.program
  divisions-of p draft q e =
      let s = then_got ((before_procedures known).reads p) _ draft q e in
      let t = then_got ((forms.procedure_division known).reads s.1) _ draft q s.3 in
      let same : s.0 ≡ draft.divisions = ap (λ d. d.divisions) (got_is _ draft t.1 q t.3).0 in
      (s.1, s.2 ∙ ap (λ d. Got d s.1) same)

-- ---- over what its own tokens declare

module _ (tokens : List Token) (are : AreOf IsPrintable tokens) (draft : ProgramDraft) (q : Input) (none : q.fault ≡ None) where
  abbrev known_by : Outcome Divisions → Declarations
  known_by o = declarations_from tokens (declared_by o) (statements_at tokens o)

  -- the divisions are the same but for status items, which no entry has
  same-divisions : (o : Outcome Divisions) → nameless tokens ≡ o → (forms.program (known_by o)).reads (start tokens) ≡ Got draft q → (mid : Input) × AlikeOutcomes SameDivisions o (Got draft.divisions mid)
  same-divisions o read e =
      let k = known_by o in
      let d = divisions-of k (start tokens) draft q e in
      let alike = (read-same (names_of [] []) k.names [] k.entries).alike (start tokens) (start tokens) (record { rest = refl; taken = refl }) in
      (d.0, subst (λ u. AlikeOutcomes SameDivisions o u) d.1 (subst (λ u. AlikeOutcomes SameDivisions u ((before_procedures k).reads (start tokens))) read alike))

  printable-by : (o : Outcome Divisions) → nameless tokens ≡ o → (forms.program (known_by o)).reads (start tokens) ≡ Got draft q →
      IsPrintableProgram (program_of (known_by o) draft)
  printable-by (Got found behind) read e =
      let same = (same-divisions (Got found behind) read e).1.0 in
      let known = known_by (Got found behind) in
      let g = ((program known).gives (start tokens) draft q e are none).1 in
      record {
        name = g.0.name;
        files = files-fine draft.divisions.selects g.0.selects;
        entries = entries-fine found (ap data_printable same.data_part ∙ g.0.items);
        paragraphs = g.1;
      }
  printable-by (Stop why rest) read e = absurd (same-divisions (Stop why rest) read e).1

syntax-printable : (bytes : List ℕ) (found : Program) → HasSyntax bytes found None → IsPrintableProgram found
syntax-printable bytes found h =
    let words = h.has_words.has_few in
    let known = declarations_of h.tokens in
    let none = none_of known.fault h.noted (sym h.fault_is) in
    let read = (program_laws.program known).lawful.complete (start h.tokens) h.draft h.spelled.0 h.spelled.1 in
    let are = printable bytes words.has_tokens.text h.tokens words.has_tokens.has_text.formatted words.has_tokens.lexed in
    subst (λ program. IsPrintableProgram program) (sym h.is)
    (printable-by h.tokens are h.draft h.spelled.0 (h.spelled.3 ∙ none.1) (nameless h.tokens) refl read)

pub read-printable : (bytes : List ℕ) (program : Program) → Reads bytes program → IsPrintableProgram program
read-printable bytes program reads = syntax-printable bytes program reads.has_room.has_syntax
