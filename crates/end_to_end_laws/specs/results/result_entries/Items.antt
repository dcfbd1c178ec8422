-- The items that a split program declares for the cells of its ranges.
use Rattle.std.specs.Prelude.{ℕ, ◌≡◌, ◌+◌, true, List, length}
use Rattle.cob_tree.specs.declared.program.Program.{Program}
use Rattle.control_flow_theory.specs.language.Language.{Range}
use Rattle.out_names.specs.Words.{program_words, table_of}
use Rattle.cobol_grammar.specs.declared.expr_forms.side.ExprContent.TheVariants as makes
use Rattle.cobol_grammar.specs.declared.expr_forms.side.ValueKind.TheVariants as kinds
use Rattle.round_trip.specs.spelling.expr_spelling.Printable.{Judged, judged_place}
use Rattle.cobol_theory.specs.cell_items.Cell.{cell_place}
use Rattle.added_items.specs.item_table.Owners.{item_kinds}
use Rattle.added_items.specs.item_table.Row.{CellRange}
use Rattle.added_items.specs.item_table.Tables.{table_of_cells}
use Rattle.round_trip.specs.declarations.added_entries.Items.{WholeItem, HasAdded}
use Rattle.round_trip.specs.declarations.added_entries.References.{AreJudgedAlike, known_by}
use Rattle.round_trip.specs.declarations.fresh_items.Fresh.{fresh_items}
use Rattle.round_trip.specs.declarations.fresh_items.Laws.{MayBeAdded}

-- the items for the cells of these ranges, in their order, with names that are no words of the
-- program
abbrev pub items_for : Program → List CellRange → List WholeItem
items_for program ranges = fresh_items (table_of (program_words program)) (item_kinds ranges)

-- the program's own name, files and entries, and these items after them
pub record DeclaresItems (program made : Program) (ranges : List CellRange) : Type 0 where
  pub name : made.name ≡ program.name
  pub added : HasAdded program (items_for program ranges) made

-- what is known of the name of a whole number, alone
abbrev pub whole_number : Judged
whole_number = record { fit = true; kind = kinds.Number true; make = makes.Item; bare = true }

-- the number of the entry whose item the cell has
abbrev pub cell_number : Program → List CellRange → Range → (cell : ℕ) → ℕ
cell_number program ranges range cell =
    length program.entries + (table_of_cells ranges).item range cell

-- the items may be added: the same is known of the program's own parts, and each cell has an item
-- whose name stands for it
pub record ServesCells (program made : Program) (ranges : List CellRange) : Type 0 where
  -- the items may be added
  pub may : MayBeAdded program (items_for program ranges)
  -- the same is known of the program's own parts
  pub alike : AreJudgedAlike program made
  -- the name of a cell's item stands for it
  pub cells : (range : Range) (cell : ℕ) →
      (table_of_cells ranges).stands range cell ≡ true →
      judged_place (known_by made) made (cell_place (cell_number program ranges range cell))
      ≡ whole_number
