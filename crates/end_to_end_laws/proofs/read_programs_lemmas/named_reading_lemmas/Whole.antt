-- What a whole program gives, over what its own tokens declare.
use Rattle.std.proofs.Common.{◌≡◌, ℕ, suc, ◌≤◌, ◌^◌, Bool, true, false, if◌then◌else◌, List, [], ◌∷◌, length, map, drop, Option, Some, None, refl, ap, sym, ◌∙◌, subst, arith}
use Rattle.std.specs.Prelude.{codes}
use Rattle.cob_tree.specs.declared.entry.Entry.{Entry}
use Rattle.cob_tree.specs.declared.file.FileEntry.{FileEntry}
use Rattle.cob_tree.specs.declared.program.Program.{Program}
use Rattle.cobol_lex.specs.declared.token.Token.{Token}
use Rattle.parser_combinators.specs.declared.note.Note.{Note}
use Rattle.parser_combinators.specs.Note.{precedes, earliest}
use Rattle.parser_combinators.specs.Form.{Input, Outcome, Got, Stop}
use Rattle.parser_combinators.specs.Reading.{start}
use Rattle.parser_combinators.proofs.Lawful.{got_is, then_got}
use Rattle.parser_combinators.proofs.MakerLaws as makers
use Rattle.cobol_grammar.specs.declared.data_forms.draft.Divisions.{Divisions}
use Rattle.cobol_grammar.specs.declared.data_forms.draft.SelectDraft.{SelectDraft}
use Rattle.symbol_tables.specs.data_names.Names.{Names, names_from, names_of}
use Rattle.declaration_checks.specs.Declaring.{declared_of, entries_of, fault_of}
use Rattle.declaration_checks.specs.File.{file_of}
use Rattle.cobol_grammar.specs.declared.expr_forms.side.ParsedExpr.{ParsedExpr}
use Rattle.cobol_grammar.specs.declared.expr_forms.side.ParsedExpr.TheVariants as whats
use Rattle.symbol_tables.specs.procedure_names.Procedures.{procedures_of}
use Rattle.cobol_grammar.specs.Use as uses
use Rattle.cobol_grammar.proofs.PartLaws as part_laws
use Rattle.cobol_read.specs.declared.program.Declarations.{Declarations}
use Rattle.cobol_read.specs.declared.program.ProgramDraft.{ProgramDraft}
use Rattle.cob_base.specs.Limit.{max_tokens}
use Rattle.cobol_read.specs.Program as forms
use Rattle.cobol_read.specs.Program.{nameless, statements_at, declared_by, declarations_from, declarations_of, before_procedures, program_of}
use Rattle.cobol_read.specs.Reading.{HasSyntax, Reads}
use Rattle.cobol_read.specs.Status as statuses
use Rattle.cobol_read.specs.StatusLaws as status_laws
use Rattle.cobol_read.proofs.ProgramLaws as program_laws
use Rattle.program_facts.specs.well_scoped.Part.{Counts, is_filled, place_named}
use Rattle.program_facts.specs.well_scoped.Named.{counts_of, paragraphs_named}
use Rattle.program_facts.proofs.well_scoped_lemmas.OwnItems.{paragraphs-own}
use Rattle.control_flow_theory.specs.language.OwnItems.{NamesOwnItems}
use Rattle.grammar_laws.specs.form_results.Giving.{Gives, AreOf}
use Rattle.grammar_laws.specs.form_results.Numbered.{IsNumbered}
use Rattle.grammar_laws.proofs.form_results_lemmas.Giving.{any, still, pure, note, ◌>>=◌, ◌>>◌}
use Rattle.grammar_laws.proofs.well_scoped_lemmas.named_tokens_lemmas.Tokens.{numbered}
use Rattle.grammar_laws.specs.well_scoped.named_exprs.Sides.{AreDeclared, is_reference, what_named}
use Rattle.grammar_laws.proofs.well_scoped_lemmas.named_exprs_lemmas.Expressions as exprs
use Rattle.grammar_laws.specs.well_scoped.named_data.Drafts.{DivisionsNamed, data_literal}
use Rattle.grammar_laws.proofs.well_scoped_lemmas.named_data_lemmas.Data as data_forms
use Rattle.grammar_laws.proofs.well_scoped_lemmas.named_entries_lemmas.Declared as declared
use Rattle.grammar_laws.specs.whole_counts.entry_bounds.Bounds.{EntriesBound}
use Rattle.grammar_laws.proofs.whole_counts_lemmas.entry_bounds_lemmas.Bound.{bound}
use Rattle.grammar_laws.proofs.well_scoped_lemmas.named_stmts_lemmas.Paragraphs as paragraph_forms
use Rattle.grammar_laws.specs.well_scoped.named_division.Laws.{AreCounted}
use Rattle.grammar_laws.proofs.well_scoped_lemmas.named_division_lemmas.Parts as division_parts
use Rattle.grammar_laws.specs.whole_counts.status_readings.Alike.{AlikeOutcomes}
use Rattle.end_to_end_laws.specs.read_programs.division_readings.Same.{selected_of, SameDivisions}
use Rattle.end_to_end_laws.proofs.read_programs_lemmas.division_readings_lemmas.Begin.{read-where-counted}
use Rattle.end_to_end_laws.proofs.read_programs_lemmas.division_readings_lemmas.Divisions.{read-same}
use Rattle.grammar_laws.proofs.whole_counts_lemmas.header_counts_lemmas.Division.{counted-are-read}
use Rattle.end_to_end_laws.specs.read_programs.named_reading.Named.{IsNamed}
use Rattle.end_to_end_laws.proofs.read_programs_lemmas.named_reading_lemmas.Few.{few}

none_of : (early late : Option Note) → earliest early late ≡ None → (early ≡ None) × (late ≡ None)
none_of None late e = (refl, e)
none_of (Some early) None e = absurd cc
none_of (Some early) (Some late) e = go (precedes late early) e
  where
    go : (b : Bool) → (if b then Some late else Some early) ≡ None → (Some early ≡ None) × (Some late ≡ None)
    go true e = absurd cc
    go false e = absurd cc

-- ---- as many names as entries and files

names-length : (files : List FileEntry) (before entries : List Entry) → length (names_from files before entries) ≡ length entries
unfolding names_from
names-length files before [] = refl
names-length files before (entry ∷ behind) = ap suc (names-length files (entry ∷ before) behind)

map-length : {A B : Type 0} (f : A → B) (list : List A) → length (map f list) ≡ length list
map-length f [] = refl
map-length f (x ∷ list) = ap suc (map-length f list)

same-length : (list others : List SelectDraft) → map selected_of list ≡ map selected_of others → length list ≡ length others
same-length list others e = sym (map-length selected_of list) ∙ (ap length e ∙ map-length selected_of others)

-- ---- what the forms of a program give

place-named : (counts : Counts) (what : ParsedExpr) → what_named counts what ≡ true → is_reference what ≡ true → place_named counts (uses.place_of what) ≡ true
place-named counts (whats.Ref place) h r = h
place-named counts (whats.Literal operand) h r = absurd (apart r)
  where
    apart : false ≡ true → ⊥
    apart e = cc
place-named counts (whats.Enclosed place) h r = h
place-named counts (whats.Sum expr) h r = absurd (apart r)
  where
    apart : false ≡ true → ⊥
    apart e = cc

status : (names : Names) (entries : List Entry) (counts : Counts) → AreDeclared names counts → Gives IsNumbered (statuses.status names entries) (λ place. place_named counts place ≡ true)
unfolding statuses.status
status names entries counts declared =
    exprs.data_reference counts names declared >>= (λ side. note >> pure (λ _ s. place-named counts side.what s.0 s.1))

header_law : makers.Law true forms.header
unfolding forms.header
header_law = makers.◌>>◌ (makers.key (codes "PROCEDURE")) (makers.◌>>◌ (makers.key (codes "DIVISION")) (makers.◌>>◌ makers.period makers.pure))

abbrev IsDrafted : Counts → ProgramDraft → Type 0
IsDrafted counts draft =
    DivisionsNamed counts draft.divisions × ((is_filled draft.paragraphs ≡ true) × (paragraphs_named counts draft.paragraphs ≡ true))

module _ (names : Names) (entries : List Entry) (fault : Option Note) (tokens : List Token) (from : ℕ) where
  -- what is declared before these tokens
  abbrev known : Declarations
  known = record { names = names; entries = entries; fault = fault; procedures = procedures_of tokens from }

  module _ (counts : Counts) (counted : AreCounted names entries (procedures_of tokens from) counts) where
    procedure_division : Gives IsNumbered (forms.procedure_division known) (λ found. (is_filled found ≡ true) × (paragraphs_named counts found ≡ true))
    unfolding forms.procedure_division
    procedure_division =
        any header_law >> still (paragraph_forms.division counts (part_laws.parts names entries (procedures_of tokens from)) (division_parts.parts names entries tokens from counts counted))

    program : Gives IsNumbered (forms.program known) (IsDrafted counts)
    unfolding forms.program
    program =
        data_forms.divisions counts (status names entries counts counted.declared) >>= (λ before. procedure_division >>= (λ found. pure (λ p d. (d, p))))

  -- the divisions of what is read
  divisions-of : (p : Input) (draft : ProgramDraft) (q : Input) → (forms.program known).reads p ≡ Got draft q → (mid : Input) × ((before_procedures known).reads p ≡ Got draft.divisions mid)
  unfolding forms.program
  divisions-of p draft q e =
      let s = then_got ((before_procedures known).reads p) _ draft q e in
      let t = then_got ((forms.procedure_division known).reads s.1) _ draft q s.3 in
      let same : s.0 ≡ draft.divisions = ap (λ d. d.divisions) (got_is _ draft t.1 q t.3).0 in
      (s.1, s.2 ∙ ap (λ d. Got d s.1) same)

-- ---- over what its own tokens declare

-- headers tell as many paragraphs as are read
all-told : (tokens : List Token) (draft : ProgramDraft) (q : Input) → (forms.program (declarations_of tokens)).reads (start tokens) ≡ Got draft q →
    (declarations_of tokens).procedures.count ≡ length draft.paragraphs
all-told tokens draft q e =
    let here = read-where-counted tokens draft q e in
    let known = declarations_of tokens in
    let from = statements_at tokens (nameless tokens) in
    ap (λ ts. (procedures_of ts from).count) (sym (here.rest ∙ ap (λ n. drop n tokens) here.taken))
    ∙ counted-are-read known.names known.entries known.procedures here.input draft.paragraphs q from here.reads

module _ (tokens : List Token) (few_tokens : length tokens ≤ max_tokens) (are : AreOf IsNumbered tokens) (draft : ProgramDraft) (q : Input) (none : q.fault ≡ None) where
  module _ (found : Divisions) (behind : Input) (from : ℕ) (read : nameless tokens ≡ Got found behind) (fine : fault_of found ≡ None) (same : SameDivisions found draft.divisions) where
    abbrev here : Declarations
    here = declarations_from tokens (declared_of found) from

    abbrev counts : Counts
    counts = counts_of (program_of here draft)

    -- as many files are declared as are read
    as_many : length (map file_of found.selects) ≡ length (map file_of draft.divisions.selects)
    as_many = map-length file_of found.selects ∙ (same-length found.selects draft.divisions.selects same.selects ∙ sym (map-length file_of draft.divisions.selects))

    counted : here.procedures.count ≡ length draft.paragraphs → AreCounted here.names here.entries here.procedures counts
    counted told =
        let items : length here.names.items ≡ length here.entries = names-length (declared_of found).files [] (entries_of found) in
        let names : length here.names.files ≡ length (map file_of found.selects) = map-length (λ file. file.name) (map file_of found.selects) in
        record {
          declared = record { items = omega (arith, items); files = omega (arith, names, as_many) };
          items = omega (arith);
          told = omega (arith, told);
        }

    named-here : here.procedures.count ≡ length draft.paragraphs → (forms.program here).reads (start tokens) ≡ Got draft q → IsNamed (program_of here draft)
    named-here told e =
        let g = ((program here.names here.entries here.fault (drop from tokens) from counts (counted told)).gives (start tokens) draft q e are none).1 in
        record {
          own = record { some = g.1.0; statements = g.1.1 };
          files = declared.files counts draft.divisions.selects g.0.statuses;
          entries = declared.entries found (ap data_literal same.data_part ∙ g.0.values) fine;
          bound = subst (λ count. EntriesBound count here.entries) as_many (bound found (ap data_literal same.data_part ∙ g.0.values) fine);
          few =
              let k = few (status_laws.status (names_of [] []) []) (start tokens) found behind read in
              omega (arith, k, few_tokens);
        }

  abbrev known_by : Outcome Divisions → Declarations
  known_by o = declarations_from tokens (declared_by o) (statements_at tokens o)

  same-divisions : (o : Outcome Divisions) → nameless tokens ≡ o → (forms.program (known_by o)).reads (start tokens) ≡ Got draft q → (mid : Input) × AlikeOutcomes SameDivisions o (Got draft.divisions mid)
  same-divisions o read e =
      let k = known_by o in
      let d = divisions-of k.names k.entries k.fault (drop (statements_at tokens o) tokens) (statements_at tokens o) (start tokens) draft q e in
      let alike = (read-same (names_of [] []) k.names [] k.entries).alike (start tokens) (start tokens) (record { rest = refl; taken = refl }) in
      (d.0, subst (λ u. AlikeOutcomes SameDivisions o u) d.1 (subst (λ u. AlikeOutcomes SameDivisions u ((before_procedures k).reads (start tokens))) read alike))

  named-by : (o : Outcome Divisions) → nameless tokens ≡ o → (known_by o).fault ≡ None → (known_by o).procedures.count ≡ length draft.paragraphs →
      (forms.program (known_by o)).reads (start tokens) ≡ Got draft q → IsNamed (program_of (known_by o) draft)
  named-by (Got found behind) read fine told e =
      let h = same-divisions (Got found behind) read e in
      named-here found behind (statements_at tokens (Got found behind)) read fine h.1.0 told e
  named-by (Stop why rest) read fine told e = absurd (same-divisions (Stop why rest) read e).1

  named-program : (declarations_of tokens).fault ≡ None → (forms.program (declarations_of tokens)).reads (start tokens) ≡ Got draft q → IsNamed (program_of (declarations_of tokens) draft)
  named-program fine e = named-by (nameless tokens) refl fine (all-told tokens draft q e) e

named-read : (bytes : List ℕ) (found : Program) → HasSyntax bytes found None → IsNamed found
named-read bytes found h =
    let words = h.has_words.has_few in
    let q = h.spelled.0 in
    let none = none_of (declarations_of h.tokens).fault h.noted (sym h.fault_is) in
    let read = (program_laws.program (declarations_of h.tokens)).lawful.complete (start h.tokens) h.draft q h.spelled.1 in
    subst (λ program. IsNamed program) (sym h.is)
    (named-program h.tokens words.few (numbered words.has_tokens.text h.tokens words.has_tokens.lexed) h.draft q (h.spelled.3 ∙ none.1) none.0 read)

few-below : (n : ℕ) → n ≤ max_tokens → n ≤ 2 ^ 31
few-below n h = omega (arith, h)

pub read-named : (bytes : List ℕ) (program : Program) → Reads bytes program → IsNamed program × NamesOwnItems program
read-named bytes program reads =
    let named = named-read bytes program reads.has_room.has_syntax in
    (named, paragraphs-own (counts_of program) (few-below (length program.entries) named.few) program.paragraphs named.own.statements)
