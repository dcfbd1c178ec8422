-- The entries of the items that stand for cells, and what they declare.
use Rattle.std.specs.Prelude.{ℕ, ◌≡◌, ◌^◌, ◌<◌, ◌≤◌, Bool, true, false, List, [], ◌∷◌, ◌++◌, length, map, Some, None, IsTrue, slice_get}
use Rattle.std.specs.Fmt.{decimal}
use Rattle.cob_tree.specs.declared.entry.Entry.{Entry}
use Rattle.cob_tree.specs.declared.number.Number.{Number}
use Rattle.cob_tree.specs.declared.picture.Picture.TheVariants as pictures
use Rattle.cob_tree.specs.declared.picture.Sign.TheVariants.{Within}
use Rattle.cob_tree.specs.declared.picture.Usage.TheVariants.{Display}
use Rattle.cob_tree.specs.declared.program.Program.{Program}
use Rattle.cob_store.specs.Laying.{layout_of}
use Rattle.control_flow_theory.specs.language.Language.{Range}
use Rattle.meanings.specs.statements.Does.{declared_in}
use Rattle.cobol_theory.specs.added_items.Laying.{begins_with_item, have_levels, areas_alone, size_alone}
use Rattle.cobol_theory.specs.added_items.Widened.{AddedItems, declared_beside, AreApart}
use Rattle.cobol_theory.specs.cell_items.Cell.{number_operand}
use Rattle.cobol_theory.specs.cell_serving.Table.{CellTable, AreCells}
use Rattle.cobol_theory.specs.cell_serving.Laws.{AreLiterals, StartsCarried}

-- a number as a literal
abbrev pub whole_literal : ℕ → Number
whole_literal number = record { negative = false; digits = decimal number; scale = 0 }

-- 01 name PIC 9(digits) VALUE 0, or PIC S9(digits)
abbrev pub cell_entry : (name : List ℕ) → (digits : ℕ) → (signed : Bool) → Entry
cell_entry name digits signed = record {
  level = 1;
  name = Some name;
  file = None;
  redefines = None;
  picture = Some (pictures.Number signed digits 0);
  sign = Within;
  usage = Display;
  occurs = None;
  value = Some (number_operand (whole_literal 0));
  ranges = [];
}

-- an item for a cell: its name, how many digits it has, and whether it has a sign
pub record CellEntry : Type 0 where
  pub name : List ℕ
  pub digits : ℕ
  pub signed : Bool

-- the entries of these items
abbrev pub entries_of : List CellEntry → List Entry
entries_of = map (λ cell. cell_entry cell.name cell.digits cell.signed)

-- items that stand alone after so many roots
abbrev pub added_behind : (roots : ℕ) → List Entry → AddedItems
added_behind roots entries = record {
  entries = entries;
  areas = areas_alone roots entries;
  roots = map size_alone entries;
}

-- the items that a program with these entries has for cells
abbrev pub added_to : Program → List CellEntry → AddedItems
added_to program cells =
    added_behind (length (layout_of program.entries).roots) (entries_of cells)

-- each has 1 to 18 digits
abbrev pub AreSized : List CellEntry → Type 0
AreSized [] = Unit {0}
AreSized (cell ∷ cells) = (1 ≤ cell.digits) × (cell.digits ≤ 18) × AreSized cells

-- each cell that has an item has one of these entries, with room for its values, and what changes
-- shares its entry with no other
pub record AreEntries (cells : List CellEntry) (table : CellTable) : Type 0 where
  -- each entry has 1 to 18 digits
  pub sized : AreSized cells
  -- the cell's item is one of these entries, with its digits and sign
  pub entry : (range : Range) (cell : ℕ) → table.stands range cell ≡ true →
      (name : List ℕ) × (slice_get cells (table.item range cell)
      ≡ Some (record {
        name = name;
        digits = table.digits range cell;
        signed = table.signed range cell;
      }))
  -- the largest value of a cell has so few digits
  pub room : (range : Range) (cell : ℕ) → table.stands range cell ≡ true →
      table.most range cell < 10 ^ table.digits range cell
  -- no other cell has the item of one that changes
  pub apart : (range other : Range) (cell other_cell : ℕ) → table.changes range cell ≡ true →
      table.stands other other_cell ≡ true →
      table.item other other_cell ≡ table.item range cell →
      (other ≡ range) × (other_cell ≡ cell)

-- numbers as literals are worth what they spell
abbrev pub WholeLiteralsAreWorth : Type 0
WholeLiteralsAreWorth = AreLiterals whole_literal

-- what is declared with such entries after a program's own
pub record AreDeclared (program result : Program) (cells : List CellEntry) (table : CellTable)
    : Type 0 where
  -- the program's own, and the items of its cells
  pub declared : declared_in result ≡ declared_beside (added_to program cells) (declared_in program)
  -- the items are of no file
  pub apart : AreApart (added_to program cells)
  -- the table gives each cell its item
  pub items : AreCells (declared_in program) (added_to program cells) table
  -- each item starts with zero
  pub starts : StartsCarried (declared_in program) (added_to program cells) table

-- a program with such entries after its own declares what it declared, and the items of its cells
abbrev pub CellEntriesAreDeclared : Type 0
CellEntriesAreDeclared =
    (program result : Program) (cells : List CellEntry) (table : CellTable) →
    IsTrue (begins_with_item program.entries) → IsTrue (have_levels program.entries) →
    result.files ≡ program.files → result.entries ≡ program.entries ++ entries_of cells →
    AreEntries cells table → AreDeclared program result cells table
