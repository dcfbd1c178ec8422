-- What parts are called in what a program is split into can be printed, where the parts can.
use Rattle.std.proofs.Common.{◌≡◌, ℕ, ◌<◌, ◌≤◌, ◌^◌, nat_le, nat_lt, Bool, true, false, ◌&&◌, List, [], ◌∷◌, length, Option, arith, ltb-true}
use Rattle.std.proofs.lemmas.Bool.{and_parts, leb-true}
use Rattle.cob_tree.specs.declared.program.Program.{Program}
use Rattle.cob_tree.specs.declared.cond.Rel.TheVariants as rels
use Rattle.cob_tree.specs.declared.place.Place.{Place}
use Rattle.control_flow_theory.specs.language.Language.{Range, Chooser, Evaluate, Read, Arith, Depending}
use Rattle.control_flow_theory.specs.graph_rules.Families.{Added, Never, Flag, Count, State, Exit}
use Rattle.control_flow_theory.specs.rendering.Rendering.{Naming}
use Rattle.control_flow_theory.specs.rendering.Procedures.{Writable}
use Rattle.control_flow_theory.specs.main_theorem.Chain.{stmts_arms}
use Rattle.control_flow_theory.specs.main_theorem.MainTheorem.{Plan}
use Rattle.meanings.specs.statements.Does.{declared_in}
use Rattle.meanings.specs.statements.Filing.{Declared}
use Rattle.cobol_theory.specs.added_items.Own.{items, chooser_own}
use Rattle.cobol_theory.specs.added_items.Widened.{AddedItems}
use Rattle.pending_returns.specs.declared.facts.Summary.{Summary}
use Rattle.program_facts.proofs.well_scoped_lemmas.Made.{both}
use Rattle.cobol_theory.specs.cell_items.Cell.{number_operand}
use Rattle.cobol_theory.specs.cell_serving.Choosing.{written_chooser}
use Rattle.cobol_theory.specs.cell_serving.Entries.{whole_literal, added_to}
use Rattle.cobol_theory.specs.cell_serving.Naming.{item_of, whens_of}
use Rattle.cobol_theory.specs.cell_serving.Table.{CellTable}
use Rattle.cobol_theory.specs.cell_serving.Tested.{is_plain, is_whole_place, suits, wide}
use Rattle.added_items.specs.item_table.Naming.{digits_of}
use Rattle.added_items.specs.item_table.Row.{CellRange, of_range}
use Rattle.added_items.specs.item_table.Tables.{most_by, table_of_cells, kind_of}
use Rattle.cobol_theory.specs.cobol_headline.Alike.{Writing, naming_of, writable_of}
use Rattle.procedure_split.specs.Splitting.{IsSplit}
use Rattle.round_trip.specs.printable.Part.{is_printable_operand}
use Rattle.round_trip.specs.printable.Beside.{is_printable_cond}
use Rattle.round_trip.specs.printable.Statement.{is_printable_stmt}
use Rattle.round_trip.proofs.printable_lemmas.Made.{made-Continue}
use Rattle.round_trip.specs.printable.printable_control.Prints.{chooser_prints}
use Rattle.round_trip.specs.printable.printable_control.Written.{PartsServed, NamesPrint}
use Rattle.end_to_end_laws.specs.results.result_bodies.Bodies.{split_rows, writing_by, TakesBoth}
use Rattle.end_to_end_laws.proofs.results_lemmas.result_bodies_lemmas.Literals.{literal-prints, place-prints, item-expr-prints, move-prints, subtract-prints, relation-prints, numbers-print}

-- what can be printed
abbrev pub printing : Writable
printing = record {
  simples = is_printable_stmt;
  conds = is_printable_cond;
  choosers = λ chooser arms. chooser_prints chooser;
  amounts = is_printable_operand;
  sets = λ range cell value. false;
  compares = λ range cell value. false;
  counts = λ range cell. false;
  aboves = λ range cell. false;
  chooses = λ range cell arms. false;
}

pub printing-served : PartsServed printing
printing-served = record {
  simples = λ simple h. h;
  conds = λ cond h. h;
  choosers = λ chooser arms h. h;
  amounts = λ amount h. h;
}

-- ---- the table

most-few : (arms : Option ℕ) (kind : Added) → most_by arms kind < 10 ^ 18
most-few arms Never = omega arith
most-few arms Flag = omega arith
most-few arms Count = omega arith
most-few arms State = omega arith
most-few arms Exit = omega arith

digits-few : (kind : Added) (n : ℕ) → n < 10 ^ digits_of kind → n < 10 ^ 18
digits-few Never n h = omega (arith, h)
digits-few Flag n h = omega (arith, h)
digits-few Count n h = h
digits-few State n h = omega (arith, h)
digits-few Exit n h = omega (arith, h)

whens-few : (in_other : Bool) (arms : List Bool) → whens_of in_other arms ≤ length arms
whens-few false arms = omega arith
whens-few true [] = omega arith
whens-few true (arm ∷ arms) = omega arith

-- ---- the naming

module _ (program made : Program) (summary : Summary) (split : IsSplit program summary made)
    (plan : Plan) where
  abbrev rows : List CellRange
  rows = split_rows program made summary split

  abbrev writing : Writing
  writing = writing_by program made summary split plan

  abbrev table : CellTable
  table = table_of_cells rows

  abbrev declared : Declared
  declared = declared_in program

  abbrev added : AddedItems
  added = added_to program writing.cells

  abbrev own : Writable
  own = writable_of program writing

  abbrev naming : Naming
  naming = naming_of program writing

  -- of the program's own kinds, and can be printed
  abbrev pub own_printing : Writable
  own_printing = record own {
    simples = λ simple. own.simples simple && is_printable_stmt simple;
    conds = λ cond. own.conds cond && is_printable_cond cond;
    choosers = λ chooser arms. own.choosers chooser arms && chooser_prints chooser;
    amounts = λ amount. own.amounts amount && is_printable_operand amount;
  }

  pub takes-both : TakesBoth own printing own_printing
  takes-both = record {
    simples = λ simple h k. both h k;
    conds = λ cond h k. both h k;
    choosers = λ chooser arms h k. both h k;
    amounts = λ amount h k. both h k;
    sets = λ range cell value h. h;
    compares = λ range cell value h. h;
    counts = λ range cell h. h;
    aboves = λ range cell h. h;
    chooses = λ range cell arms h. h;
  }

  abbrev item : Range → ℕ → ℕ
  item range cell =
      item_of whole_literal (items declared) table (written_chooser whole_literal) writing.empty
      range cell

  value-few : (range : Range) (cell value : ℕ) → nat_le value (table.most range cell) ≡ true →
      value < 10 ^ 18
  value-few range cell value h =
      let few = most-few (stmts_arms cell (of_range rows range).body) (kind_of rows range cell) in
      let within = leb-true value (table.most range cell) h in
      omega (arith, few, within)

  set-few : (range : Range) (cell value : ℕ) → own.sets range cell value ≡ true →
      value < 10 ^ 18
  set-few range cell value h =
      value-few range cell value
      (and_parts (is_plain declared added table range cell && table.changes range cell)
      (nat_le value (table.most range cell)) h).1

  compare-few : (range : Range) (cell value : ℕ) → own.compares range cell value ≡ true →
      value < 10 ^ 18
  compare-few range cell value h =
      value-few range cell value
      (and_parts (is_plain declared added table range cell)
      (nat_le value (table.most range cell)) h).1

  choose-few : (range : Range) (cell arms : ℕ) → own.chooses range cell arms ≡ true →
      arms < 10 ^ 18
  choose-few range cell arms h =
      digits-few (kind_of rows range cell) arms
      (ltb-true arms (10 ^ table.digits range cell)
      (and_parts (is_plain declared added table range cell && nat_le (table.most range cell) arms)
      (nat_lt arms (10 ^ table.digits range cell)) h).1)

  jump-few : (place : Place) (names : ℕ) (arms : List Bool) →
      own.choosers (Depending place names) arms ≡ true → names < 10 ^ 18
  jump-few place names arms h =
      let suited = (and_parts (chooser_own declared (Depending place names))
      (suits (wide declared added table) (Depending place names) arms) h).1 in
      ltb-true names (10 ^ 18)
      (and_parts (is_whole_place (wide declared added table).areas.items place && nat_le 1 names)
      (nat_lt names (10 ^ 18)) suited).1

  chooser-written : (chooser : Chooser) (arms : List Bool) →
      own.choosers chooser arms ≡ true → chooser_prints chooser ≡ true →
      chooser_prints (written_chooser whole_literal chooser arms) ≡ true
  chooser-written (Evaluate subject tests has_other) arms h k = k
  chooser-written (Read file into has_end) arms h k = k
  chooser-written (Arith calc into) arms h k = k
  chooser-written (Depending place names) arms h k =
      let few = jump-few place names arms h in
      both (place-prints place k) (numbers-print 1 names (omega (arith, few)))

  pub names-print : NamesPrint naming own_printing
  names-print = record {
    nothing = made-Continue;
    simples = λ simple h. (and_parts (own.simples simple) (is_printable_stmt simple) h).1;
    conds = λ cond h. (and_parts (own.conds cond) (is_printable_cond cond) h).1;
    choosers = λ chooser arms h.
        let k = and_parts (own.choosers chooser arms) (chooser_prints chooser) h in
        chooser-written chooser arms k.0 k.1;
    amounts = λ amount h. (and_parts (own.amounts amount) (is_printable_operand amount) h).1;
    set = λ range cell value h.
        move-prints (item range cell) (number_operand (whole_literal value))
        (literal-prints value (set-few range cell value h));
    take = λ range cell amount h.
        move-prints (item range cell) amount
        (and_parts (own.amounts amount) (is_printable_operand amount) h).1;
    lower = λ range cell. subtract-prints (item range cell) 1 (omega arith);
    is = λ range cell value h.
        relation-prints (item range cell) rels.Equal value (compare-few range cell value h);
    above = λ range cell. relation-prints (item range cell) rels.Greater 0 (omega arith);
    by_cell = λ range cell arms count same h.
        let few = choose-few range cell count h in
        let whens = whens-few (table.ends_in_other range cell) arms in
        both (item-expr-prints (item range cell))
        (numbers-print 1 (whens_of (table.ends_in_other range cell) arms)
        (omega (arith, few, same, whens)));
  }
