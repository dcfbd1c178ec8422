-- The tokens that a readable program is printed with declare what it has, and spell it over that.
use Rattle.std.proofs.Common.{◌≡◌, ℕ, ◌+◌, ◌≤◌, List, [], ◌∷◌, ◌++◌, length, drop, None, refl, ap, sym, ◌∙◌, subst, arith, append-nil, length-append}
use Rattle.std.specs.Prelude.{codes, min}
use Rattle.std.proofs.Math.Nat.{min-eq_left}
use Rattle.cob_tree.specs.declared.program.Program.{Program}
use Rattle.cobol_lex.specs.declared.token.Token.{Token}
use Rattle.cobol_lex.specs.declared.token.TokenKind.{TokenKind}
use Rattle.cobol_print.specs.Unit.{all_tokens}
use Rattle.cobol_print.specs.units.Division.{paragraphs_units, program_units}
use Rattle.parser_combinators.specs.Form.{Input, Outcome, Got, Stop, next}
use Rattle.parser_combinators.specs.Reading.{AllSpell, start}
use Rattle.cobol_grammar.specs.declared.data_forms.draft.Divisions.{Divisions}
use Rattle.cobol_grammar.specs.data_forms.Divisions as division_forms
use Rattle.cobol_grammar.proofs.data_forms_lemmas.DivisionLaws as division_laws
use Rattle.declaration_checks.specs.declared.declaring.Declared.{Declared}
use Rattle.declaration_checks.specs.Declaring.{declared_of}
use Rattle.symbol_tables.specs.data_names.Names.{names_of}
use Rattle.cobol_grammar.specs.declared.expr_forms.side.Side.{Side}
use Rattle.symbol_tables.specs.procedure_names.Procedures.{procedures_of}
use Rattle.cobol_grammar.specs.stmt_forms.Part.{Parts}
use Rattle.cobol_grammar.specs.declared.subject_kind.SubjectKind.{SubjectKind}
use Rattle.cobol_grammar.specs.Whole.{parts_of}
use Rattle.cobol_read.specs.declared.program.Declarations.{Declarations}
use Rattle.cobol_read.specs.declared.program.ProgramDraft.{ProgramDraft}
use Rattle.cobol_read.specs.Program as forms
use Rattle.cobol_read.specs.Program.{nameless, statements_at, declared_by, declarations_from, declarations_of, fault_in, program_of}
use Rattle.cobol_read.specs.Status.{status}
use Rattle.cobol_read.specs.StatusLaws as status_laws
use Rattle.grammar_laws.specs.whole_counts.status_readings.Alike.{AlikeOutcomes}
use Rattle.end_to_end_laws.specs.read_programs.division_readings.Same.{SameDivisions}
use Rattle.end_to_end_laws.proofs.read_programs_lemmas.own_names_lemmas.Declared.{declare-alike}
use Rattle.end_to_end_laws.proofs.read_programs_lemmas.own_names_lemmas.Own.{alike-readings}
use Rattle.round_trip.specs.spelled_forms.Spelling.{kinds_of, here, first_of, Any, Spelled}
use Rattle.round_trip.proofs.spelled_forms_lemmas.Makers.{parts, hence, pure, bind, then, ending}
use Rattle.round_trip.proofs.spelled_forms_lemmas.Tokens.{key, period}
use Rattle.round_trip.specs.spelling.data_spelling.Kinds.{header_kinds, divisions_kinds}
use Rattle.round_trip.specs.spelling.data_spelling.Printable.{BeforeProcedures}
use Rattle.round_trip.proofs.spelling_lemmas.data_spelling_lemmas.Divisions as divisions
use Rattle.round_trip.proofs.declarations_lemmas.printed_declarations_lemmas.Declared.{printed_divisions_declare}
use Rattle.round_trip.specs.declarations.Laws.{Declares}
use Rattle.round_trip.proofs.declarations_lemmas.Printable.{titled-printable}
use Rattle.round_trip.specs.spelling.stmt_spelling.Division.{AtEnd, SpellsDivision}
use Rattle.round_trip.specs.spelling.stmt_spelling.Part.{Kept}
use Rattle.round_trip.proofs.spelling_lemmas.stmt_spelling_lemmas.Paragraphs as paragraphs
use Rattle.round_trip.specs.spelling.Kept.{kept_of}
use Rattle.round_trip.proofs.spelling_lemmas.Told.{parts_are_told}
use Rattle.round_trip.specs.fitting_statements.own_fits.Own.{own_names}
use Rattle.end_to_end_laws.specs.read_programs.readable_programs.Readable.{tokens_before, IsFit}
use Rattle.end_to_end_laws.proofs.read_programs_lemmas.readable_programs_lemmas.Units.{kinds-count, procedure_kinds, all-kinds, before-is}

next-kind : (tokens : List Token) → next tokens ≡ first_of (kinds_of tokens) None
next-kind [] = refl
next-kind (t ∷ tokens) = refl

-- the header of the PROCEDURE DIVISION
header : {n : ℕ} → Spelled forms.header n (header_kinds (codes "PROCEDURE") (codes "DIVISION")) Any (λ _. Unit {0})
unfolding forms.header
header = then (key (codes "PROCEDURE")) (λ _ _. then (key (codes "DIVISION")) (λ _ _. ending period (λ _ _. pure tt)))

module _ (program : Program) (fit : IsFit program) (tokens : List Token) (are : kinds_of tokens ≡ all_tokens (program_units program)) where
  abbrev before_kinds : List TokenKind
  before_kinds = divisions_kinds program fit.fds fit.storage

  abbrev before_count : ℕ
  before_count = length before_kinds

  split-kinds : kinds_of tokens ≡ before_kinds ++ procedure_kinds program
  split-kinds = are ∙ all-kinds program fit.fds fit.storage fit.keeps.sorted

  long : before_count + 3 ≤ length tokens
  long =
      let count : length tokens ≡ length (before_kinds ++ procedure_kinds program) = sym (kinds-count tokens) ∙ ap length split-kinds in
      let two = length-append before_kinds (procedure_kinds program) in
      let three : length (procedure_kinds program) ≡ 3 + length (all_tokens (paragraphs_units program program.paragraphs)) =
      length-append (header_kinds (codes "PROCEDURE") (codes "DIVISION")) (all_tokens (paragraphs_units program program.paragraphs)) in
      omega (arith, count, two, three)

  -- ---- what they declare

  divisions_spelled : Spelled (division_forms.divisions (status (own_names program) program.entries)) 0 before_kinds BeforeProcedures (Declares program)
  divisions_spelled =
      let stated = status (own_names program) program.entries in
      hence (λ found D. (D.name, printed_divisions_declare program fit.fds fit.storage found fit.keeps D))
      (divisions.divisions stated program fit.fds fit.storage (titled-printable stated program fit.fds fit.storage fit.titled fit.keeps fit.stated))

  -- with names
  abbrev named : Declarations
  named = record { names = own_names program; entries = program.entries; fault = None; procedures = procedures_of [] 0 }

  divisions-read : (found : Divisions) × (behind : List Token) × ((forms.before_procedures named).reads (start tokens) ≡ Got found (here behind (0 + before_count))) × Declares program found
  divisions-read =
      let s = parts before_kinds (procedure_kinds program) tokens split-kinds in
      let d = divisions_spelled.spells s.0 s.1 s.3 (next-kind s.1 ∙ ap (λ kinds. first_of kinds None) s.4) in
      let behind : Input = here s.1 (0 + before_count) in (
        d.0,
        s.1,
        ap (λ list. (forms.before_procedures named).reads (start list)) s.2
            ∙ (division_laws.divisions (status_laws.status (own_names program) program.entries)).lawful.complete (start (s.0 ++ s.1)) d.0 behind d.1,
        d.2,
      )

  -- what the tokens declare
  abbrev known : Declarations
  known = record {
    names = own_names program;
    entries = program.entries;
    fault = None;
    procedures = procedures_of (drop (tokens_before program) tokens) (tokens_before program);
  }

  abbrev known_by : Outcome Divisions → Declarations
  known_by o = declarations_from tokens (declared_by o) (statements_at tokens o)

  -- by the divisions that are read without names
  declared-by : (o : Outcome Divisions) (found : Divisions) (behind : List Token) → AlikeOutcomes SameDivisions o (Got found (here behind (0 + before_count))) → Declares program found →
      known_by o ≡ known
  declared-by (Got one after) found behind alike D =
      let A = declare-alike one found alike.0 in
      let declared : declared_of found ≡ record { files = program.files; entries = program.entries; fault = None } = D.1 in
      let entries = A.entries ∙ ap (λ (d : Declared). d.entries) declared in
      let fault = A.fault ∙ ap (λ (d : Declared). d.fault) declared in
      let names = A.names ∙ ap (λ (d : Declared). names_of d.files d.entries) declared in
      let zero_more : 0 + before_count ≡ before_count = omega arith in
      let taken : after.taken ≡ before_count = alike.1.taken ∙ zero_more in
      let at = before-is program fit.fds fit.storage fit.keeps.sorted in
      let from : statements_at tokens (Got one after) ≡ tokens_before program =
      ap (λ n. min (n + 3) (length tokens)) taken ∙ min-eq_left long ∙ sym at in
      ap (λ n. declarations_from tokens (declared_of one) n) from
      ∙ ap (λ names. record { names = names; entries = (declared_of one).entries; fault = (declared_of one).fault; procedures = known.procedures }) names
      ∙ ap (λ entries. record { names = own_names program; entries = entries; fault = (declared_of one).fault; procedures = known.procedures }) entries
      ∙ ap (λ fault. record { names = own_names program; entries = program.entries; fault = fault; procedures = known.procedures }) fault
  declared-by (Stop why rest) found behind alike D = absurd alike

  known-is : declarations_of tokens ≡ known
  known-is =
      let d = divisions-read in
      declared-by (nameless tokens) d.0 d.1 (alike-readings tokens named d.0 (here d.1 (0 + before_count)) d.2) d.3

  -- ---- what they spell

  -- the parts by which the tokens are read
  abbrev own : Parts Side SubjectKind
  own = parts_of known.names known.entries known.procedures

  abbrev kept : Kept Side
  kept = kept_of (own_names program) program

  abbrev IsDrafted : ProgramDraft → Type 0
  IsDrafted draft = Declares program draft.divisions × (draft.paragraphs ≡ program.paragraphs)

  program-spelled : SpellsDivision own kept program (tokens_before program) program.paragraphs → Spelled (forms.program known) 0 (before_kinds ++ procedure_kinds program) AtEnd IsDrafted
  unfolding forms.program forms.procedure_division
  program-spelled spelled =
      let told = parts_are_told known.names known.entries known.procedures program in
      let at = before-is program fit.fds fit.storage fit.keeps.sorted in
      let place : tokens_before program ≡ (0 + before_count) + 3 = omega (arith, at) in
      bind divisions_spelled (λ o b. refl) (λ before d. ending
      (then header (λ _ _. paragraphs.division told program ((0 + before_count) + 3) program.paragraphs (subst (λ n. SpellsDivision own kept program n program.paragraphs) place spelled)))
      (λ found p. pure (d, p)))

  -- ---- the program that it is

  pub record IsDraftOf (draft : ProgramDraft) : Type 0 where
    pub spelled : AllSpell (forms.program (declarations_of tokens)) tokens draft None
    pub is : program ≡ program_of (declarations_of tokens) draft
    pub faultless : None ≡ fault_in (declarations_of tokens) None

  made-is : (draft : ProgramDraft) → IsDrafted draft → program ≡ program_of known draft
  made-is draft d =
      sym (ap (λ name. record { name = name; files = (declared_of draft.divisions).files; entries = program.entries; paragraphs = draft.paragraphs }) d.0.0
      ∙ ap (λ (declared : Declared). record { name = program.name; files = declared.files; entries = program.entries; paragraphs = draft.paragraphs }) d.0.1
      ∙ ap (λ list. record { name = program.name; files = program.files; entries = program.entries; paragraphs = list }) d.1)

  draft-of : (draft : ProgramDraft) → IsDrafted draft → AllSpell (forms.program known) tokens draft None → IsDraftOf draft
  draft-of draft d all = record {
    spelled = subst (λ k. AllSpell (forms.program k) tokens draft None) (sym known-is) all;
    is = subst (λ k. program ≡ program_of k draft) (sym known-is) (made-is draft d);
    faultless = subst (λ k. None ≡ fault_in k None) (sym known-is) refl;
  }

  pub drafted : SpellsDivision own kept program (tokens_before program) program.paragraphs → (draft : ProgramDraft) × IsDraftOf draft
  drafted spelled =
      let s = (program-spelled spelled).spells tokens [] split-kinds refl in
      let behind : Input = here [] (0 + length (before_kinds ++ procedure_kinds program)) in
      (s.0, draft-of s.0 s.2 (behind, subst (λ list. (forms.program known).spells (start list) s.0 behind) (append-nil tokens) s.1, refl, refl))
