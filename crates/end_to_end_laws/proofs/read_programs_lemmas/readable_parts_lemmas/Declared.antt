-- What the divisions of a program that is read declare, over what its own tokens declare.
use Rattle.std.proofs.Common.{◌≡◌, ℕ, Bool, true, false, List, [], length, map, Option, Some, None, refl, ap, sym, ◌∙◌, subst, arith}
use Rattle.std.specs.Prelude.{codes, if◌then◌else◌}
use Rattle.cob_tree.specs.declared.entry.Entry.{Entry}
use Rattle.cob_tree.specs.declared.place.Place.{Place}
use Rattle.cob_tree.specs.declared.program.Program.{Program}
use Rattle.cobol_lex.specs.declared.token.Token.{Token}
use Rattle.cobol_lex.specs.declared.token.TokenKind.{TokenKind}
use Rattle.cobol_read.specs.declared.program.Declarations.{Declarations}
use Rattle.cobol_read.specs.declared.program.ProgramDraft.{ProgramDraft}
use Rattle.cobol_read.specs.Program as forms
use Rattle.cobol_read.specs.Program.{nameless, statements_at, declared_by, declarations_from, declarations_of, before_procedures, program_of}
use Rattle.cobol_read.specs.Reading.{HasSyntax, Reads}
use Rattle.cobol_read.specs.Status as statuses
use Rattle.cobol_read.proofs.ProgramLaws as program_laws
use Rattle.cobol_grammar.specs.declared.data_forms.draft.Divisions.{Divisions}
use Rattle.cobol_grammar.specs.declared.data_forms.draft.SelectDraft.{SelectDraft}
use Rattle.cobol_grammar.specs.declared.data_forms.draft.StatusDraft.{StatusDraft}
use Rattle.cobol_grammar.specs.data_forms.Divisions as all_forms
use Rattle.symbol_tables.specs.data_names.Names.{Names, names_of}
use Rattle.declaration_checks.specs.Declaring.{entries_of, fault_of}
use Rattle.declaration_checks.specs.File.{file_of}
use Rattle.end_to_end_laws.specs.read_programs.division_readings.Same.{SameDivisions}
use Rattle.end_to_end_laws.proofs.read_programs_lemmas.division_readings_lemmas.Divisions.{read-same}
use Rattle.cobol_grammar.specs.declared.expr_forms.side.ParsedExpr.{ParsedExpr}
use Rattle.cobol_grammar.specs.declared.expr_forms.side.ParsedExpr.TheVariants as whats
use Rattle.parser_combinators.specs.declared.note.Note.{Note}
use Rattle.parser_combinators.specs.Note.{precedes, earliest}
use Rattle.parser_combinators.specs.Form.{Input, Outcome, Got, Stop}
use Rattle.parser_combinators.specs.Reading.{start}
use Rattle.parser_combinators.proofs.Lawful.{got_is, then_got}
use Rattle.parser_combinators.proofs.MakerLaws as makers
use Rattle.round_trip.specs.declarations.Laws.{Declares}
use Rattle.grammar_laws.specs.well_scoped.named_data.Drafts.{data_literal}
use Rattle.grammar_laws.proofs.well_scoped_lemmas.named_data_lemmas.Data as data_forms
use Rattle.grammar_laws.specs.well_scoped.named_exprs.Sides.{is_reference, what_named}
use Rattle.grammar_laws.proofs.well_scoped_lemmas.named_exprs_lemmas.Expressions as exprs
use Rattle.grammar_laws.specs.form_results.Giving.{Each, Gives}
use Rattle.grammar_laws.specs.form_results.Numbered.{IsNumbered}
use Rattle.grammar_laws.proofs.form_results_lemmas.Giving.{any, hence, pure, note, ◌>>=◌, ◌>>◌}
use Rattle.program_facts.specs.well_scoped.Part.{Counts, place_named}
use Rattle.grammar_laws.proofs.well_scoped_lemmas.named_tokens_lemmas.Tokens.{numbered}
use Rattle.end_to_end_laws.proofs.read_programs_lemmas.own_names_lemmas.Declared.{declare-alike}
use Rattle.round_trip.specs.printable.printable_tokens.Printable.{IsPrintable}
use Rattle.round_trip.proofs.printable_lemmas.printable_tokens_lemmas.Tokens.{printable}
use Rattle.cobol_grammar.specs.Use as uses
use Rattle.cobol_grammar.proofs.PartLaws.{parts}
use Rattle.grammar_laws.specs.whole_counts.status_readings.Alike.{AlikeOutcomes}
use Rattle.cobol_grammar.proofs.stmt_forms_lemmas.ParagraphLaws.{division}
use Rattle.round_trip.specs.fitting_statements.own_fits.Own.{own_names}
use Rattle.end_to_end_laws.specs.read_programs.readable_parts.Laws.{HasFitStatuses}
use Rattle.end_to_end_laws.specs.read_programs.readable_parts.Read.{IsFitStatus, ReferencesAreFit}
use Rattle.end_to_end_laws.proofs.read_programs_lemmas.readable_parts_lemmas.Selects.{divisions, each-status}
use Rattle.end_to_end_laws.proofs.read_programs_lemmas.readable_parts_lemmas.Status.{fit-status}

none_of : (early late : Option Note) → earliest early late ≡ None → (early ≡ None) × (late ≡ None)
none_of None late e = (refl, e)
none_of (Some early) None e = absurd cc
none_of (Some early) (Some late) e = go (precedes late early) e
  where
    go : (b : Bool) → (if b then Some late else Some early) ≡ None → (Some early ≡ None) × (Some late ≡ None)
    go true e = absurd cc
    go false e = absurd cc

-- ---- what the divisions give, a program has

header_law : makers.Law true forms.header
unfolding forms.header
header_law = makers.◌>>◌ (makers.key (codes "PROCEDURE")) (makers.◌>>◌ (makers.key (codes "DIVISION")) (makers.◌>>◌ makers.period makers.pure))

module _ (known : Declarations) where
  procedure_law : makers.Law true (forms.procedure_division known)
  unfolding forms.procedure_division
  procedure_law = makers.◌>>◌ header_law (division (parts known.names known.entries known.procedures))

  program-gives : {Kind : TokenKind → Type 0} {P : Divisions → Type 0} → Gives Kind (before_procedures known) P → Gives Kind (forms.program known) (λ draft. P draft.divisions)
  unfolding forms.program
  program-gives B = B >>= (λ before. any procedure_law >>= (λ found. pure (λ _ b. b)))

  divisions-of : (p : Input) (draft : ProgramDraft) (q : Input) → (forms.program known).reads p ≡ Got draft q → (mid : Input) × ((before_procedures known).reads p ≡ Got draft.divisions mid)
  unfolding forms.program
  divisions-of p draft q e =
      let s = then_got ((before_procedures known).reads p) _ draft q e in
      let t = then_got ((forms.procedure_division known).reads s.1) _ draft q s.3 in
      let same : s.0 ≡ draft.divisions = ap (λ d. d.divisions) (got_is _ draft t.1 q t.3).0 in
      (s.1, s.2 ∙ ap (λ d. Got d s.1) same)

-- ---- values are literals

-- as many as there are names
abbrev as_many : Names → Counts
as_many names = record { items = length names.items; files = length names.files; paragraphs = 0 }

place-named : (counts : Counts) (what : ParsedExpr) → what_named counts what ≡ true → is_reference what ≡ true → place_named counts (uses.place_of what) ≡ true
place-named counts (whats.Ref place) h r = h
place-named counts (whats.Literal operand) h r = absurd (apart r)
  where
    apart : false ≡ true → ⊥
    apart e = cc
place-named counts (whats.Enclosed place) h r = h
place-named counts (whats.Sum expr) h r = absurd (apart r)
  where
    apart : false ≡ true → ⊥
    apart e = cc

status-named : (names : Names) (entries : List Entry) → Gives IsNumbered (statuses.status names entries) (λ place. place_named (as_many names) place ≡ true)
unfolding statuses.status
status-named names entries =
    exprs.data_reference (as_many names) names (record { items = omega arith; files = omega arith })
    >>= (λ side. note >> pure (λ _ s. place-named (as_many names) side.what s.0 s.1))

literal-gives : (known : Declarations) → Gives IsNumbered (before_procedures known) (λ draft. data_literal draft.data_part ≡ true)
literal-gives known = hence (λ draft h. h.values) (data_forms.divisions (as_many known.names) (status-named known.names known.entries))

-- ---- what is known is what the divisions declare

record IsDeclaredBy (known : Declarations) (draft : Divisions) : Type 0 where
  pub entries : known.entries ≡ entries_of draft
  pub fault : known.fault ≡ fault_of draft
  pub names : known.names ≡ names_of (map file_of draft.selects) known.entries

module _ (tokens : List Token) (draft : ProgramDraft) (q : Input) where
  abbrev known_by : Outcome Divisions → Declarations
  known_by o = declarations_from tokens (declared_by o) (statements_at tokens o)

  same-divisions : (o : Outcome Divisions) → nameless tokens ≡ o → (forms.program (known_by o)).reads (start tokens) ≡ Got draft q → (mid : Input) × AlikeOutcomes SameDivisions o (Got draft.divisions mid)
  same-divisions o read e =
      let k = known_by o in
      let d = divisions-of k (start tokens) draft q e in
      let alike = (read-same (names_of [] []) k.names [] k.entries).alike (start tokens) (start tokens) (record { rest = refl; taken = refl }) in
      (d.0, subst (λ u. AlikeOutcomes SameDivisions o u) d.1 (subst (λ u. AlikeOutcomes SameDivisions u ((before_procedures k).reads (start tokens))) read alike))

  declared-by : (o : Outcome Divisions) → nameless tokens ≡ o → (forms.program (known_by o)).reads (start tokens) ≡ Got draft q → IsDeclaredBy (known_by o) draft.divisions
  declared-by (Got found behind) read e =
      let alike = declare-alike found draft.divisions (same-divisions (Got found behind) read e).1.0 in
      record {
        entries = alike.entries;
        fault = alike.fault;
        names = alike.names ∙ ap (λ entries. names_of (map file_of draft.divisions.selects) entries) (sym alike.entries);
      }
  declared-by (Stop why rest) read e = absurd (same-divisions (Stop why rest) read e).1

-- ---- of a program that is read

-- its divisions, which declare it
pub record IsRead (program : Program) (draft : Divisions) : Type 0 where
  pub declares : Declares program draft
  pub literal : data_literal draft.data_part ≡ true
  pub fit : ReferencesAreFit (own_names program) program → HasFitStatuses program

module _ (bytes : List ℕ) (program : Program) (h : HasSyntax bytes program None) where
  abbrev draft : ProgramDraft
  draft = h.draft

  abbrev known : Declarations
  known = declarations_of h.tokens

  none : (known.fault ≡ None) × (h.noted ≡ None)
  none = none_of known.fault h.noted (sym h.fault_is)

  read : (forms.program known).reads (start h.tokens) ≡ Got draft h.spelled.0
  read = (program_laws.program known).lawful.complete (start h.tokens) draft h.spelled.0 h.spelled.1

  clear : h.spelled.0.fault ≡ None
  clear = h.spelled.3 ∙ none.1

  declared : IsDeclaredBy known draft.divisions
  declared = declared-by h.tokens draft h.spelled.0 (nameless h.tokens) refl read

  abbrev made : Program
  made = program_of known draft

  abbrev Fit : Place → Type 0
  Fit = IsFitStatus (own_names made) made

  abbrev Stated : Divisions → Type 0
  Stated found = Each (λ (select : SelectDraft). Each (λ (item : StatusDraft). Fit item.place) select.statuses) found.selects

  fit : ReferencesAreFit (own_names made) made → HasFitStatuses made
  fit references =
      let tokens = h.has_words.has_few.has_tokens in
      let given : Gives IsPrintable (before_procedures known) Stated = subst (λ names. Gives IsPrintable (all_forms.divisions (statuses.status names known.entries)) Stated) (sym declared.names)
      (divisions Fit (fit-status (own_names made) made references)) in
      each-status Fit draft.divisions.selects
      ((program-gives known given).gives (start h.tokens) draft h.spelled.0 read (printable bytes tokens.text h.tokens tokens.has_text.formatted tokens.lexed) clear).1

  is-read : IsRead made draft.divisions
  is-read =
      let tokens = h.has_words.has_few.has_tokens in
      record {
        declares = (
          refl,
          ap (λ entries. record { files = map file_of draft.divisions.selects; entries = entries; fault = fault_of draft.divisions }) (sym declared.entries)
              ∙ ap (λ fault. record { files = map file_of draft.divisions.selects; entries = known.entries; fault = fault }) (sym declared.fault ∙ none.0),
        );
        literal = ((program-gives known (literal-gives known)).gives (start h.tokens) draft h.spelled.0 read (numbered tokens.text h.tokens tokens.lexed) clear).1;
        fit = fit;
      }

  syntax-divisions : (found : Divisions) × IsRead program found
  syntax-divisions = (draft.divisions, subst (λ p. IsRead p draft.divisions) (sym h.is) is-read)

pub read-divisions : (bytes : List ℕ) (program : Program) → Reads bytes program → (draft : Divisions) × IsRead program draft
read-divisions bytes program reads = syntax-divisions bytes program reads.has_room.has_syntax
