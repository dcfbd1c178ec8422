-- What parts and words on cells are called in a result passes its tests.
use Rattle.std.proofs.Common.{arith, ◌≡◌, ℕ, ◌+◌, ◌<◌, Bool, true, false, ◌&&◌, not, nat_le, nat_lt, List, [], ◌∷◌, length, ap, sym, ◌∙◌, subst}
use Rattle.std.specs.Prelude.{◌^◌, ◌==◌}
use Rattle.std.proofs.lemmas.Bool.{and_parts, le-leb}
use Rattle.cob_tree.specs.declared.cond.Rel.TheVariants as rels
use Rattle.cob_tree.specs.declared.place.Operand.{Operand}
use Rattle.cob_tree.specs.declared.place.Place.{Place}
use Rattle.cob_tree.specs.declared.program.Program.{Program}
use Rattle.cob_tree.specs.declared.stmt.Arms.{Arms}
use Rattle.cob_tree.specs.declared.stmt.Stmt.{Stmt, out-Stmt}
use Rattle.cob_tree.specs.declared.stmt.Stmt.TheOpen.{Stmt-F}
use Rattle.cob_tree.specs.declared.stmt.When.{When}
use Rattle.control_flow_theory.specs.language.Language.{Chooser, Evaluate, Arith, Depending, Range, Simple}
use Rattle.control_flow_theory.specs.language.Language as language
use Rattle.program_facts.proofs.well_scoped_lemmas.Made.{both}
use Rattle.round_trip.specs.spelling.expr_spelling.Printable.{is_number, is_counting}
use Rattle.meanings.specs.statements.Does.{declared_in}
use Rattle.cobol_theory.specs.added_items.Own.{items}
use Rattle.cobol_theory.specs.cell_items.Cell.{cell_place}
use Rattle.cobol_theory.specs.cell_serving.Choosing.{written_chooser}
use Rattle.cobol_theory.specs.cell_serving.Entries.{whole_literal}
use Rattle.cobol_theory.specs.cell_serving.Naming.{last_stands, whens_of, other_stands}
use Rattle.cobol_theory.specs.cell_serving.Table.{CellTable}
use Rattle.cobol_theory.specs.cobol_headline.Alike.{Writing, naming_of}
use Rattle.round_trip.specs.fitting_statements.Fits.{Fits}
use Rattle.round_trip.specs.fitting_statements.Statement.{some_pass, fit_subject, fit_test}
use Rattle.round_trip.specs.fitting_statements.own_fits.Room.{operand_has_room, place_has_room}
use Rattle.round_trip.specs.fitting_statements.own_fits.Own.{has_value, is_fit_as, own_operand, own_place, operand_fits, place_fits, moves, own_fits, source_fits}
use Rattle.round_trip.specs.fitting_statements.fit_control.Fit.{without_jumps, fit_tests, fit_chooser, moves_number}
use Rattle.round_trip.specs.fitting_statements.fit_control.Written.{CondsFit, PartsServed, NamesFit}
use Rattle.end_to_end_laws.specs.results.result_words.Carried.{PartsArePassed}
use Rattle.end_to_end_laws.specs.results.result_words.Words.{fit_kinds, whole_item, HasWords}
use Rattle.end_to_end_laws.proofs.results_lemmas.result_words_lemmas.Carried.{some-passed, calc-passed, subject-passed, test-passed, read-passed, stmt-passed}
use Rattle.end_to_end_laws.proofs.results_lemmas.result_words_lemmas.Own.{operand-passed, place-passed, cond-passed, parts-passed, own-passed}
use Rattle.end_to_end_laws.proofs.results_lemmas.result_words_lemmas.Words.{number-value, number-moves, fit-as, move-fits, nothing-fits, depending-fits, set-fits, take-fits, lower-fits, relation-fits, by-cell-fits, always-fails, not-fits, inner-fits}

-- ---- what VARYING begins with

abbrev begun : Fits → Stmt-F Stmt Arms When → Bool
begun fits y = elim y [ Stmt-F.Move from to ↦ fits.number from | _ ↦ false ]

begun-passed : (fits others : Fits) → PartsArePassed fits others → (y : Stmt-F Stmt Arms When) → begun fits y ≡ true → begun others y ≡ true
begun-passed fits others passed (Stmt-F.Move from to) h = passed.number from h
begun-passed fits others passed (Stmt-F.Display items advance) h = cc
begun-passed fits others passed (Stmt-F.Arith calc into arms) h = cc
begun-passed fits others passed (Stmt-F.SetTrue place) h = cc
begun-passed fits others passed (Stmt-F.Opens openings) h = cc
begun-passed fits others passed (Stmt-F.Closes files) h = cc
begun-passed fits others passed (Stmt-F.Read file into arms) h = cc
begun-passed fits others passed (Stmt-F.Write entry from) h = cc
begun-passed fits others passed (Stmt-F.Rewrite entry from) h = cc
begun-passed fits others passed (Stmt-F.If cond met unmet) h = cc
begun-passed fits others passed (Stmt-F.Evaluate subject whens other) h = cc
begun-passed fits others passed (Stmt-F.Loop control body) h = cc
begun-passed fits others passed (Stmt-F.Perform entry exit control) h = cc
begun-passed fits others passed (Stmt-F.Go to) h = cc
begun-passed fits others passed (Stmt-F.GoDepending to on) h = cc
begun-passed fits others passed Stmt-F.NextSentence h = cc
begun-passed fits others passed Stmt-F.StopRun h = cc
begun-passed fits others passed Stmt-F.Exit h = cc
begun-passed fits others passed Stmt-F.ExitParagraph h = cc
begun-passed fits others passed Stmt-F.ExitSection h = cc
begun-passed fits others passed (Stmt-F.ExitPerform cycle) h = cc
begun-passed fits others passed Stmt-F.Continue h = cc

number-fits : (program : Program) (operand : Operand) → operand_fits program is_number operand ≡ true → operand_fits program has_value operand ≡ true
number-fits program operand h =
    let parts = and_parts (is_fit_as is_number (own_operand program operand)) (operand_has_room operand) h in
    both (fit-as is_number has_value number-value (own_operand program operand) parts.0) parts.1

number-place-fits : (program : Program) (place : Place) → place_fits program is_number place ≡ true → place_fits program has_value place ≡ true
number-place-fits program place h =
    let parts = and_parts (is_fit_as is_number (own_place program place)) (place_has_room 0 place) h in
    both (fit-as is_number has_value number-value (own_place program place) parts.0) parts.1

numbers-move : (program : Program) (from : Operand) (place : Place) → operand_fits program is_number from ≡ true → place_fits program is_number place ≡ true → moves program from place ≡ true
numbers-move program from place f p =
    let one = own_operand program from in
    let other = own_place program place in
    number-moves one.make one.kind other.kind
    (and_parts one.fit (is_number one.kind) (and_parts (is_fit_as is_number one) (operand_has_room from) f).0).1
    (and_parts other.fit (is_number other.kind) (and_parts (is_fit_as is_number other) (place_has_room 0 place) p).0).1

pub parts-served : (program : Program) (writing : Writing) → PartsServed (source_fits program) (fit_kinds program writing)
parts-served program writing = record {
  simples = λ simple h. h;
  conds = λ cond h. h;
  nots = inner-fits program;
  choosers = λ chooser arms h. h;
  amounts = λ amount h. h;
  settings = λ item from p f.
      move-fits (without_jumps (source_fits program)) from item (number-fits program from f) (number-place-fits program item p) (numbers-move program from item f p);
}

pub conds-fit : (program : Program) (label : ℕ → Bool) (range : ℕ → ℕ → Bool) → CondsFit (own_fits program label range)
conds-fit program label range = record { always = always-fails program; nots = not-fits program }

-- ---- the arms of a choice

-- two arms at least make a WHEN
some-whens : (in_other : Bool) (arms : List Bool) → nat_le 2 (length arms) ≡ true → nat_le 1 (whens_of in_other arms) ≡ true
some-whens in_other [] h = cc
some-whens in_other (arm ∷ []) h = cc
some-whens false (arm ∷ next ∷ arms) h = le-leb 1 (length (arm ∷ next ∷ arms)) (omega arith)
some-whens true (arm ∷ next ∷ arms) h = le-leb 1 (length (next ∷ arms)) (omega arith)

module _ (program made : Program) (writing : Writing) (words : HasWords program made writing.table)
    (label : ℕ → Bool) (range : ℕ → ℕ → Bool) where
  abbrev fits : Fits
  fits = own_fits made label range

  passed : PartsArePassed (source_fits program) fits
  passed = parts-passed program made words.added_items words.added words.new (λ number. true) label (λ entry exit. true) range

  begins-fit : (simple : Simple) → moves_number (source_fits program) simple ≡ true → moves_number fits simple ≡ true
  begins-fit simple h = begun-passed (source_fits program) fits passed (out-Stmt simple) h

  chooser-fits : (chooser : Chooser) (arms : List Bool) → fit_chooser (source_fits program) chooser ≡ true → fit_chooser fits (written_chooser whole_literal chooser arms) ≡ true
  chooser-fits (Evaluate subject tests has_other) arms h =
      let parts = and_parts (fit_subject (source_fits program) subject) (some_pass (fit_tests (source_fits program) subject) tests) h in
      both (subject-passed (source_fits program) fits passed subject parts.0)
      (some-passed (fit_tests (source_fits program) subject) (fit_tests fits subject)
      (λ list. some-passed (fit_test (source_fits program) subject) (fit_test fits subject) (test-passed (source_fits program) fits passed subject parts.0) list) tests parts.1)
  chooser-fits (language.Read file into has_end) arms h =
      let parts = and_parts ((source_fits program).file file) _ h in
      both (passed.file file parts.0) (read-passed (source_fits program) fits passed file into parts.1)
  chooser-fits (Arith calc into) arms h = calc-passed (source_fits program) fits passed calc into h
  chooser-fits (Depending place names) arms h =
      let parts = and_parts (nat_le 1 names) (place_fits program is_counting place) h in
      depending-fits made label range place (place-passed program made words.added_items words.added words.new is_counting place parts.1) names parts.0 (last_stands arms)

  -- ---- the words on a cell that stands

  abbrev table : CellTable
  table = writing.table

  abbrev item : Range → ℕ → ℕ
  item of cell = items (declared_in program) + table.item of cell

  stands-for : (of : Range) (cell : ℕ) → table.stands of cell ≡ true → own_place made (cell_place (item of cell)) ≡ whole_item
  stands-for of cell h = ap (λ n. own_place made (cell_place (n + table.item of cell))) words.many ∙ words.cells of cell h

  plain-stands : (of : Range) (cell : ℕ) → (table.stands of cell && not (table.signed of cell)) ≡ true → table.stands of cell ≡ true
  plain-stands of cell h = (and_parts (table.stands of cell) (not (table.signed of cell)) h).0

  sets-stand : (of : Range) (cell value : ℕ) → (fit_kinds program writing).sets of cell value ≡ true → table.stands of cell ≡ true
  sets-stand of cell value h =
      plain-stands of cell (and_parts (table.stands of cell && not (table.signed of cell)) (table.changes of cell)
      (and_parts ((table.stands of cell && not (table.signed of cell)) && table.changes of cell) (nat_le value (table.most of cell)) h).0).0

  counts-stand : (of : Range) (cell : ℕ) → (fit_kinds program writing).counts of cell ≡ true → table.stands of cell ≡ true
  counts-stand of cell h =
      (and_parts (table.stands of cell) (table.changes of cell)
      (and_parts (table.stands of cell && table.changes of cell) (table.signed of cell)
      (and_parts ((table.stands of cell && table.changes of cell) && table.signed of cell) (table.digits of cell == 18) h).0).0).0

  compares-stand : (of : Range) (cell value : ℕ) → (fit_kinds program writing).compares of cell value ≡ true → table.stands of cell ≡ true
  compares-stand of cell value h =
      plain-stands of cell (and_parts (table.stands of cell && not (table.signed of cell)) (nat_le value (table.most of cell)) h).0

  chooses-stand : (of : Range) (cell arms : ℕ) → (fit_kinds program writing).chooses of cell arms ≡ true → table.stands of cell ≡ true
  chooses-stand of cell arms h =
      plain-stands of cell (and_parts (table.stands of cell && not (table.signed of cell)) (nat_le (table.most of cell) arms)
      (and_parts ((table.stands of cell && not (table.signed of cell)) && nat_le (table.most of cell) arms) (nat_lt arms (10 ^ table.digits of cell)) h).0).0

  amount-fits : (amount : Operand) → operand_fits program is_counting amount ≡ true → operand_fits made is_counting amount ≡ true
  amount-fits amount h = operand-passed program made words.added_items words.added words.new is_counting amount h

  pub names-fit : (procedures : ℕ) → ((place : ℕ) → place < procedures → range place place ≡ true) →
      NamesFit (naming_of program writing) (fit_kinds program writing) (moves_number (source_fits program)) (λ each cell arms. nat_le 2 arms) fits procedures
  names-fit procedures ranges = record {
    nothing = nothing-fits fits;
    simples = stmt-passed (without_jumps (source_fits program)) fits (own-passed program made words.added_items words.added words.new label range);
    begins = begins-fit;
    conds = cond-passed program made words.added_items words.added words.new;
    choosers = chooser-fits;
    amounts = λ amount h. (amount-fits amount h, amount-fits amount h);
    set = λ of cell value h. set-fits made label range (item of cell) (stands-for of cell (sets-stand of cell value h)) value;
    take = λ of cell amount h a. take-fits made label range (item of cell) (stands-for of cell (counts-stand of cell h)) amount (amount-fits amount a);
    lower = λ of cell h. lower-fits made label range (item of cell) (stands-for of cell (counts-stand of cell h));
    is = λ of cell value h. relation-fits made label range (item of cell) (stands-for of cell (compares-stand of cell value h)) rels.Equal value;
    above = λ of cell h. relation-fits made label range (item of cell) (stands-for of cell h) rels.Greater 0;
    by_cell = λ of cell arms count e h enough.
        by-cell-fits made label range (item of cell) (stands-for of cell (chooses-stand of cell count h))
        (whens_of (table.ends_in_other of cell) arms)
        (some-whens (table.ends_in_other of cell) arms (subst (λ n. nat_le 2 n ≡ true) (sym e) enough))
        (other_stands (table.ends_in_other of cell) arms);
    ranges = ranges;
  }
