-- A program that is read is readable, where what is printed of it is short enough.
use Rattle.std.proofs.Common.{◌≡◌, ℕ, zero, suc, List, [], ◌∷◌, drop, None, refl, ap, sym, ◌∙◌, subst}
use Rattle.cob_tree.specs.declared.program.Program.{Program}
use Rattle.cobol_lex.specs.declared.token.Token.{Token}
use Rattle.parser_combinators.specs.Form.{Input, Got}
use Rattle.parser_combinators.specs.Reading.{start}
use Rattle.symbol_tables.specs.data_names.Names.{names_of}
use Rattle.declaration_checks.specs.Declaring.{declared_of}
use Rattle.symbol_tables.specs.declared.procedure_names.table.ProcedureTable.{ProcedureTable}
use Rattle.symbol_tables.specs.procedure_names.Procedures.{procedures_of}
use Rattle.cobol_grammar.specs.stmt_forms.Paragraph.{division}
use Rattle.cobol_grammar.specs.Whole.{parts_of}
use Rattle.cobol_grammar.proofs.PartLaws as part_laws
use Rattle.cobol_read.specs.declared.program.Declarations.{Declarations}
use Rattle.cobol_read.specs.declared.program.ProgramDraft.{ProgramDraft}
use Rattle.cobol_read.specs.Program as forms
use Rattle.cobol_read.specs.Program.{declarations_of, program_of}
use Rattle.cobol_read.proofs.ProgramLaws as program_laws
use Rattle.grammar_laws.specs.form_results.Giving.{AreOf}
use Rattle.grammar_laws.proofs.form_results_lemmas.Giving.{hence}
use Rattle.round_trip.specs.printable.printable_tokens.Printable.{IsPrintable}
use Rattle.round_trip.proofs.printable_lemmas.printable_tokens_lemmas.Tokens.{printable}
use Rattle.end_to_end_laws.proofs.read_programs_lemmas.printable_reading_lemmas.Whole.{read-printable}
use Rattle.round_trip.specs.printable.Whole.{IsPrintableProgram}
use Rattle.end_to_end_laws.proofs.read_programs_lemmas.division_readings_lemmas.Begin.{read-where-counted}
use Rattle.end_to_end_laws.proofs.read_programs_lemmas.own_names_lemmas.Own.{read-own}
use Rattle.round_trip.proofs.declarations_lemmas.Entries.{none_of}
use Rattle.round_trip.specs.spelling.stmt_spelling.Division.{SpellsDivision}
use Rattle.round_trip.specs.spelling.Kept.{kept_of}
use Rattle.round_trip.specs.procedures.readable_exprs.Laws.{SidesAreReadable}
use Rattle.round_trip.proofs.procedures_lemmas.readable_exprs_lemmas.Named.{finds_by}
use Rattle.round_trip.proofs.procedures_lemmas.readable_exprs_lemmas.Ends as ends
use Rattle.round_trip.proofs.procedures_lemmas.readable_exprs_lemmas.Expressions as expressions
use Rattle.round_trip.proofs.procedures_lemmas.readable_exprs_lemmas.Conditions as conditions
use Rattle.end_to_end_laws.proofs.read_programs_lemmas.readable_parts_lemmas.Read.{names_are_readable, read-stated, read-keeps}
use Rattle.end_to_end_laws.proofs.read_programs_lemmas.readable_parts_lemmas.Titled.{read-titled}
use Rattle.end_to_end_laws.proofs.read_programs_lemmas.printed_words_lemmas.Programs.{no_printed_word_is_left_out}
use Rattle.round_trip.specs.procedures.Outline.{HasProcedures}
use Rattle.round_trip.specs.procedures.Own.{AreLabelled}
use Rattle.round_trip.specs.procedures.Told as told_procedures
use Rattle.round_trip.proofs.procedures_lemmas.Division.{division-is-told}
use Rattle.round_trip.proofs.procedures_lemmas.Labels as labels
use Rattle.round_trip.proofs.procedures_lemmas.Titles.{titled}
use Rattle.round_trip.proofs.procedures_lemmas.readable_stmts_lemmas.Headed as headed
use Rattle.round_trip.proofs.procedures_lemmas.readable_stmts_lemmas.Paragraphs as read_paragraphs
use Rattle.round_trip.specs.fitting_statements.own_fits.Own.{own_names}
use Rattle.end_to_end_laws.specs.read_programs.readable_programs.Readable.{tokens_before, own_tokens, own_procedures, IsSpelled}
use Rattle.end_to_end_laws.specs.read_programs.readable_division.Laws.{ReadPartsFit, ProgramsThatAreReadAreReadable}
use Rattle.end_to_end_laws.proofs.read_programs_lemmas.readable_division_lemmas.Fit.{parts-fit}
use Rattle.end_to_end_laws.proofs.read_programs_lemmas.readable_division_lemmas.Told as told

sides : (program : Program) → SidesAreReadable (own_names program) program
sides program =
    let names = own_names program in
    let finds = finds_by names program refl in
    record {
      reference = expressions.data_reference IsPrintable names program finds;
      reference_behind = λ first position. expressions.data_reference_behind IsPrintable names program finds first position;
      digits_side = λ digits position. ends.readable-digits names program digits position;
      operand = expressions.data_operand IsPrintable names program finds;
      expr = expressions.whole_expr IsPrintable names program finds;
      cond = conditions.whole_cond IsPrintable names program finds;
    }

pub read-fit : ReadPartsFit
read-fit program source table labelled = parts-fit program source table (sides program) (names_are_readable program) labelled

-- what is left of tokens of a kind
each-drop : (n : ℕ) (tokens : List Token) → AreOf IsPrintable tokens → AreOf IsPrintable (drop n tokens)
each-drop zero tokens are = are
each-drop (suc n) [] are = tt
each-drop (suc n) (t ∷ tokens) are = each-drop n tokens are.1

-- ---- its paragraphs, over what its tokens declare

module _ (tokens : List Token) (are : AreOf IsPrintable tokens) (draft : ProgramDraft) (q : Input) (read : (forms.program (declarations_of tokens)).reads (start tokens) ≡ Got draft q) (clean : q.fault ≡ None) where
  abbrev pub known : Declarations
  known = declarations_of tokens

  abbrev pub program : Program
  program = program_of known draft

  abbrev pub there : Input
  there = (read-where-counted tokens draft q read).input

  abbrev pub source : ProcedureTable
  source = procedures_of there.rest there.taken

  names-are : known.names ≡ own_names program
  names-are =
      let own = read-own tokens draft q read in
      own.names ∙ ap (λ entries. names_of (declared_of draft.divisions).files entries) (sym own.entries)

  procedures-are : known.procedures ≡ source
  procedures-are =
      let r = read-where-counted tokens draft q read in
      sym (ap (λ list. procedures_of list there.taken) r.rest ∙ ap (λ n. procedures_of (drop n tokens) n) r.taken)

  pub reads-own : (division (parts_of (own_names program) program.entries source)).reads there ≡ Got draft.paragraphs q
  reads-own =
      let r = read-where-counted tokens draft q read in
      sym (ap (λ names. (division (parts_of names known.entries known.procedures)).reads there) names-are
      ∙ ap (λ table. (division (parts_of (own_names program) known.entries table)).reads there) procedures-are)
      ∙ r.reads

  pub are-there : AreOf IsPrintable there.rest
  are-there =
      let r = read-where-counted tokens draft q read in
      subst (λ list. AreOf IsPrintable list) (sym r.rest) (each-drop there.taken tokens are)

  abbrev taken : ℕ
  taken = tokens_before program

  abbrev table : ProcedureTable
  table = told_procedures.own_procedures program taken

  module _ (printable_program : IsPrintableProgram program) where
    pub has-procedures : HasProcedures program
    has-procedures =
        let r = division-is-told (own_names program) program.entries there draft.paragraphs q reads-own clean in
        record { outlined = r.outlined; titled = titled program.paragraphs printable_program.paragraphs; different = r.different }

    labelled : AreLabelled source table program
    labelled =
        let r = division-is-told (own_names program) program.entries there draft.paragraphs q reads-own clean in
        labels.labelled-by program taken has-procedures source (r.same program taken refl)

    spelled : SpellsDivision (parts_of (own_names program) program.entries table) (kept_of (own_names program) program) program taken program.paragraphs
    spelled =
        let names = own_names program in
        let fit = read-fit program source table labelled in
        let bodies = ((read_paragraphs.division (part_laws.parts names program.entries source) fit).gives there draft.paragraphs q reads-own are-there clean).1 in
        headed.division (parts_of names program.entries table) (kept_of names program) program taken program.paragraphs bodies
        (told.headers names program.entries table program taken program.paragraphs (labels.headers program taken has-procedures))

    pub own-spelled : IsSpelled program
    own-spelled =
        let same : own_procedures program ≡ table =
        told.own-told (own_names program) program.entries table program taken spelled (drop taken (own_tokens program)) (told.own-kinds program) in
        subst (λ t. SpellsDivision (parts_of (own_names program) program.entries t) (kept_of (own_names program) program) program taken program.paragraphs) (sym same) spelled

-- ---- all of it

pub read-readable : ProgramsThatAreReadAreReadable
read-readable bytes program reads short =
    let h = reads.has_room.has_syntax in
    let words = h.has_words.has_few in
    let known = declarations_of h.tokens in
    let none = none_of known.fault h.noted (sym h.fault_is) in
    let read = (program_laws.program known).lawful.complete (start h.tokens) h.draft h.spelled.0 h.spelled.1 in
    let are = printable bytes words.has_tokens.text h.tokens words.has_tokens.has_text.formatted words.has_tokens.lexed in
    let can = read-printable bytes program reads in
    let keeps = read-keeps bytes program reads in
    record {
      fit = record {
        printable = can;
        titled = read-titled bytes program reads;
        fds = keeps.0;
        storage = keeps.1;
        keeps = keeps.2;
        stated = read-stated bytes program reads (hence (λ side s. record { fit = s.fit; room = s.room; kept = s.kept }) (sides program).reference);
        none_left_out = no_printed_word_is_left_out program can;
        stored = reads.has_room.stored;
        few = reads.few;
      };
      spelled = subst (λ p. IsSpelled p) (sym h.is) (own-spelled h.tokens are h.draft h.spelled.0 read (h.spelled.3 ∙ none.1) (subst (λ p. IsPrintableProgram p) h.is can));
      short = short;
    }
