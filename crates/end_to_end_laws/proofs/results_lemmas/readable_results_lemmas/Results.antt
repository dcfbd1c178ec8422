-- What a program that is read is split into is readable.
use Rattle.std.proofs.Common.{◌≡◌, ◌+◌, ◌^◌, ◌≤◌, ◌<◌, ℕ, true, false, nat_le, List, length, refl, subst, arith, eq-eqb, lt-ltb}
use Rattle.cob_tree.specs.Depth.{program_depth}
use Rattle.cob_tree.specs.declared.program.Program.{Program}
use Rattle.control_flow_theory.specs.language.Control.{control_of}
use Rattle.control_flow_theory.specs.language.Language.{Range}
use Rattle.program_facts.specs.completion.FlowFacts.{flow_facts_of}
use Rattle.program_facts.proofs.well_scoped_lemmas.Made.{both}
use Rattle.control_flow_theory.specs.rendering.Rendering.{Naming, Procedure}
use Rattle.control_flow_theory.specs.rendering.Procedures.{Writable}
use Rattle.control_flow_theory.specs.main_theorem.Chain.{EachStands}
use Rattle.control_flow_theory.specs.main_theorem.MainTheorem.{Plan, procedures_by}
use Rattle.control_flow_theory.specs.expressible_graphs.Served.{ProgramIsServed}
use Rattle.struct_form.specs.Structured.{IsStructured}
use Rattle.out_names.specs.Naming.{names_of}
use Rattle.out_names.specs.Words.{program_words}
use Rattle.pending_returns.specs.declared.facts.Summary.{Summary}
use Rattle.added_items.specs.item_table.Owners.{item_kinds}
use Rattle.added_items.specs.item_table.Row.{CellRange}
use Rattle.cobol_theory.specs.cobol_headline.Alike.{Writing, naming_of, writable_of, IsWrittenOf}
use Rattle.procedure_split.specs.shaped_ranges.Laws.{HasFlow}
use Rattle.procedure_split.specs.Splitting.{IsSplit}
use Rattle.procedure_split.specs.split_behaviour.Alike.{IsWellMade}
use Rattle.pending_returns.specs.FaultFree.{IsFaultFree}
use Rattle.procedure_split.proofs.split_behaviour_lemmas.Joined as split_program
use Rattle.procedure_split.proofs.lowered_arms_lemmas.Graphs.{split-nests}
use Rattle.cobol_read.specs.Reading.{Reads}
use Rattle.end_to_end_laws.proofs.read_programs_lemmas.named_reading_lemmas.Whole.{read-named}
use Rattle.end_to_end_laws.proofs.read_programs_lemmas.fit_reading_lemmas.Read.{read-items}
use Rattle.end_to_end_laws.proofs.results_lemmas.read_headline_lemmas.WellMade.{well-made, read-structured}
use Rattle.end_to_end_laws.proofs.read_programs_lemmas.printable_reading_lemmas.Whole.{read-printable}
use Rattle.grammar_laws.specs.form_results.Giving.{Each}
use Rattle.round_trip.specs.printable.printable_tokens.Header.{IsHeaderName}
use Rattle.round_trip.specs.printable.Whole.{IsPrintableProgram}
use Rattle.end_to_end_laws.proofs.read_programs_lemmas.printed_words_lemmas.Programs.{no_printed_word_is_left_out}
use Rattle.round_trip.specs.fitting_statements.Fits.{Fits}
use Rattle.round_trip.specs.fitting_statements.Statement.{are_fit_paragraphs}
use Rattle.round_trip.specs.fitting_statements.fit_control.Fit.{moves_number}
use Rattle.round_trip.proofs.fitting_statements_lemmas.fit_control_lemmas.Served as served_sources
use Rattle.round_trip.proofs.fitting_statements_lemmas.fit_control_lemmas.Sound as sound_sources
use Rattle.round_trip.proofs.fitting_statements_lemmas.sound_bodies_lemmas.Procedures.{procedures-sound}
use Rattle.round_trip.specs.fitting_statements.own_fits.Laws.{OwnFitsSpell}
use Rattle.round_trip.specs.fitting_statements.own_fits.Own.{source_fits}
use Rattle.round_trip.proofs.fitting_statements_lemmas.Passing.{paragraphs-pass}
use Rattle.end_to_end_laws.specs.results.fit_sources.Laws.{ProgramsThatAreReadFit}
use Rattle.end_to_end_laws.specs.results.added_reading.Declaring.{DeclaresReadably}
use Rattle.end_to_end_laws.proofs.results_lemmas.added_reading_lemmas.Read.{declare-readably}
use Rattle.end_to_end_laws.proofs.results_lemmas.added_reading_lemmas.Words.{few-words}
use Rattle.end_to_end_laws.specs.results.result_entries.Items.{DeclaresItems, ServesCells, items_for}
use Rattle.end_to_end_laws.proofs.results_lemmas.result_entries_lemmas.Serve.{cell_items_serve, few-kinds, split_programs_declare_items}
use Rattle.end_to_end_laws.specs.results.result_words.Words.{fit_kinds, HasWords}
use Rattle.end_to_end_laws.proofs.results_lemmas.result_words_lemmas.Names as result_names
use Rattle.end_to_end_laws.specs.results.result_bodies.Bodies.{split_rows, writing_by, TakesBoth}
use Rattle.end_to_end_laws.specs.results.result_bodies.Laws.{ProceduresStand}
use Rattle.end_to_end_laws.proofs.results_lemmas.result_bodies_lemmas.Standing.{split-stands}
use Rattle.end_to_end_laws.proofs.results_lemmas.result_bodies_lemmas.Printing.{split-prints}
use Rattle.end_to_end_laws.specs.results.result_procedures.Laws.{is_alone, result_fits, AreFew}
use Rattle.end_to_end_laws.proofs.results_lemmas.result_procedures_lemmas.Named.{names-printable}
use Rattle.end_to_end_laws.proofs.results_lemmas.result_procedures_lemmas.Read.{read-have}
use Rattle.end_to_end_laws.proofs.results_lemmas.result_procedures_lemmas.Filled.{filled}
use Rattle.end_to_end_laws.proofs.results_lemmas.result_procedures_lemmas.Result.{result-spelled}
use Rattle.end_to_end_laws.specs.read_programs.readable_programs.Readable.{IsFit, IsSpelled}
use Rattle.end_to_end_laws.specs.results.readable_results.Laws.{IsWithinLimits, SplitProgramsAreReadable}
use Rattle.end_to_end_laws.proofs.results_lemmas.readable_results_lemmas.Passing.{as-many, paragraphs-fit}

takes : (own kinds : Writable) →
    ((range : Range) (cell value : ℕ) → own.sets range cell value ≡ true → kinds.sets range cell value ≡ true) →
    ((range : Range) (cell value : ℕ) → own.compares range cell value ≡ true → kinds.compares range cell value ≡ true) →
    ((range : Range) (cell : ℕ) → own.counts range cell ≡ true → kinds.counts range cell ≡ true) →
    ((range : Range) (cell : ℕ) → own.aboves range cell ≡ true → kinds.aboves range cell ≡ true) →
    ((range : Range) (cell arms : ℕ) → own.chooses range cell arms ≡ true → kinds.chooses range cell arms ≡ true) →
    TakesBoth own kinds kinds
takes own kinds sets compares counts aboves chooses = record {
  simples = λ simple here there. there;
  conds = λ cond here there. there;
  choosers = λ chooser arms here there. there;
  amounts = λ amount here there. there;
  sets = sets;
  compares = compares;
  counts = counts;
  aboves = aboves;
  chooses = chooses;
}

alone : (count place : ℕ) → place < count → is_alone count place place ≡ true
alone count place within = both (eq-eqb place place refl) (lt-ltb place count within)

module _ (own_spell : OwnFitsSpell) (read_fit : ProgramsThatAreReadFit) (bytes : List ℕ) (program made : Program) (summary : Summary) (reads : Reads bytes program)
    (flows : IsFaultFree program summary) (split : IsSplit program summary made)
    (limits : IsWithinLimits made) where
  well : IsWellMade program
  well = well-made bytes program reads

  flow : HasFlow program summary
  flow = split_program.flow program made summary well flows split

  structured : IsStructured made
  structured = read-structured bytes program made summary reads flows split

  shallow : program_depth made ≤ 500
  shallow = split-nests program made summary flow (read-named bytes program reads).0.own.statements split

  -- ---- what it declares

  abbrev rows : List CellRange
  rows = split_rows program made summary split

  few : length (program_words program) < 2 ^ 30
  few = few-words bytes program reads

  declares : DeclaresItems program made rows
  declares = split_programs_declare_items program made summary split

  serves : ServesCells program made rows
  serves = cell_items_serve program made rows declares (less (length (program_words program)) few) limits.stored
    where
      less : (n : ℕ) → n < 2 ^ 30 → n < 2 ^ 57
      less n h = omega (arith, h)

  readably : DeclaresReadably made
  readably = declare-readably bytes program made (items_for program rows) reads declares.added declares.name serves.may

  few-paragraphs : AreFew program (length made.paragraphs)
  few-paragraphs = sum (length (program_words program)) (length made.paragraphs) few limits.few
    where
      sum : (words paragraphs : ℕ) → words < 2 ^ 30 → paragraphs ≤ 5000 → words + paragraphs < 2 ^ 31
      sum words paragraphs h g = omega (arith, h, g)

  -- ---- its paragraphs

  stands : (plan : Plan) × IsWrittenOf program made (writing_by program made summary split plan)
      × ProceduresStand program (writing_by program made summary split plan)
  stands = split-stands program made summary well flows split

  abbrev plan : Plan
  plan = stands.0

  abbrev writing : Writing
  writing = writing_by program made summary split plan

  abbrev naming : Naming
  naming = naming_of program writing

  abbrev kinds : Writable
  kinds = fit_kinds program writing

  abbrev procedures : List Procedure
  procedures = procedures_by plan (control_of program)

  abbrev fits : Fits
  fits = result_fits made

  source-passes : are_fit_paragraphs (source_fits program) program.paragraphs ≡ true
  source-passes = paragraphs-pass (source_fits program) false program.paragraphs (read_fit bytes program reads)

  served : (range : Range) → ProgramIsServed naming kinds (flow_facts_of program.files split.plan.returning) range (control_of program)
  served range =
      served_sources.paragraphs-are (source_fits program) naming kinds (result_names.parts-served program writing)
      (flow_facts_of program.files split.plan.returning) range 0 program.paragraphs (source-passes)

  each-stands : EachStands naming kinds procedures
  each-stands =
      stands.2 kinds kinds
      (takes (writable_of program writing) kinds (λ range cell value h. h) (λ range cell value h. h)
      (λ range cell h. h) (λ range cell h. h) (λ range cell arms h. h)) served

  words : HasWords program made writing.table
  words = record {
    added_items = items_for program rows;
    added = declares.added;
    new = serves.may.new;
    many = read-items bytes program reads;
    cells = serves.cells;
  }

  pass : are_fit_paragraphs (result_fits made) made.paragraphs ≡ true
  pass =
      paragraphs-fit made naming kinds (moves_number (source_fits program)) (λ range cell arms. nat_le 2 arms) fits procedures
      (result_names.names-fit program made writing words (λ number. false) (λ entry exit. is_alone (length made.paragraphs) entry exit)
      (length procedures)
      (λ place within. alone (length made.paragraphs) place
      (subst (λ n. place < n) (as-many made naming procedures stands.1.control) within)))
      (result_names.conds-fit made (λ number. false) (λ entry exit. is_alone (length made.paragraphs) entry exit))
      each-stands
      (λ number procedure is.
      procedures-sound (moves_number (source_fits program)) plan (control_of program)
      (sound_sources.paragraphs-are (source_fits program) 0 program.paragraphs (source-passes)) number procedure is)
      limits.terms stands.1.control

  spelled : IsSpelled made
  spelled =
      result-spelled own_spell program made summary (read-have bytes program reads) few-paragraphs split structured shallow
      (filled made naming procedures stands.1.control) pass

  -- ---- all of it

  few-items : length (program_words program) + length (item_kinds rows) < 2 ^ 31
  few-items = sum (length (program_words program)) (length (item_kinds rows)) few (few-kinds program made rows declares limits.stored)
    where
      sum : (words items : ℕ) → words < 2 ^ 30 → items < 2 ^ 30 → words + items < 2 ^ 31
      sum words items h g = omega (arith, h, g)

  names-print : Each IsHeaderName (names_of program split.plan.order)
  names-print =
      names-printable program split.plan.order (read-printable bytes program reads)
      (subst (λ n. AreFew program n) split.written.paragraphs.count few-paragraphs)

  printable : IsPrintableProgram made
  printable =
      split-prints program made summary well flows split few-items names-print (read-printable bytes program reads)

  fit : IsFit made
  fit = record {
    printable = printable;
    titled = readably.titled;
    fds = readably.fds;
    storage = readably.storage;
    keeps = readably.keeps;
    stated = readably.stated;
    none_left_out = no_printed_word_is_left_out made printable;
    stored = limits.stored;
    few = limits.few;
  }

pub split-readable : OwnFitsSpell → ProgramsThatAreReadFit → SplitProgramsAreReadable
split-readable own_spell read_fit bytes program made summary reads flows split limits = record {
  fit = fit own_spell read_fit bytes program made summary reads flows split limits;
  spelled = spelled own_spell read_fit bytes program made summary reads flows split limits;
  short = limits.short;
}
