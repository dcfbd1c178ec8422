-- Words on cells, by the items that stand for them.
use Rattle.std.specs.Prelude.{ℕ, ◌≡◌, ◌+◌, ◌^◌, ◌<◌, Bool, List, ◌∷◌, [], Some, slice_get}
use Rattle.cob_tree.specs.declared.calc.Calc.TheVariants as calcs
use Rattle.cob_tree.specs.declared.cond.Cond.{Cond}
use Rattle.cob_tree.specs.declared.cond.Rel.{Rel}
use Rattle.cob_tree.specs.declared.place.Operand.{Operand}
use Rattle.cob_tree.specs.declared.stmt.Stmt.{Stmt}
use Rattle.cob_tree.specs.declared.stmt.Stmt.TheVariants as stmts
use Rattle.cob_tree.specs.declared.stmt.Stmt.TheVariants.{Continue}
use Rattle.control_flow_theory.specs.language.Control.{bare, seen, test_of}
use Rattle.control_flow_theory.specs.language.Language as language
use Rattle.control_flow_theory.specs.rendering.Rendering.{required, written_test}
use Rattle.control_flow_theory.specs.graph_rules.Loops.{turned_test}
use Rattle.branch_tree.specs.Choosers.{seen_test}
use Rattle.branch_tree.specs.declared.chooser.Test.{Test}
use Rattle.cobol_theory.specs.cell_items.Laws.{cell_relation, target_of}
use Rattle.cobol_theory.specs.cell_serving.Entries.{whole_literal}
use Rattle.statement_builders.specs.arms.Written.{Way, naming_in, written}
use Rattle.statement_builders.specs.declared.item_words.cells.CellItem.{CellItem}

-- each cell of the range in the list has this item, and the choice by it so many arms
pub record AreItems (way : Way) (cells : List CellItem) : Type 0 where
  -- the cell has this item
  pub item : (cell : ℕ) (found : CellItem) → slice_get cells cell ≡ Some found →
      way.first + way.table.item way.range cell ≡ found.item
  -- whether the last arm of a choice by it is WHEN OTHER
  pub ends : (cell : ℕ) (found : CellItem) → slice_get cells cell ≡ Some found →
      way.table.ends_in_other way.range cell ≡ found.ends_in_other
  -- the largest number that is put into it
  pub most : (cell : ℕ) (found : CellItem) → slice_get cells cell ≡ Some found →
      way.table.most way.range cell ≡ found.most

-- the cell's item is one of a program's entries
abbrev pub IsItemOf : List CellItem → (cell : ℕ) → CellItem → Type 0
IsItemOf cells cell found = (slice_get cells cell ≡ Some found) × (found.item < 2 ^ 31)

-- it holds of each way with these items
abbrev pub EachWay : List CellItem → (Way → Type 0) → Type 0
EachWay cells Holds = (way : Way) → AreItems way cells → Holds way

-- the statement for an act on a cell
abbrev pub IsAct : List CellItem → language.Act → Stmt → Type 0
IsAct cells act made = EachWay cells (λ way. seen 0 made ≡ written way (language.Do act))

-- SUBTRACT of these from the item
abbrev pub subtract : ℕ → List Operand → Stmt
subtract item parts = stmts.Arith (calcs.Subtract parts) (target_of item ∷ []) bare

-- the condition compares the item of the cell with a number
abbrev pub IsCellTest : List CellItem → (cell : ℕ) → Rel → (value : ℕ) → Cond → Type 0
IsCellTest cells cell rel value made = (found : CellItem) × IsItemOf cells cell found
    × (made ≡ cell_relation found.item rel (whole_literal value))

-- the condition is this test, or its negation, by such items
abbrev pub IsTest : List CellItem → Bool → Test → Cond → Type 0
IsTest cells turned test made = EachWay cells (λ way. test_of made
    ≡ written_test (naming_in way) way.place way.range (turned_test turned (seen_test test)))

-- the loop UNTIL the test, over these statements or CONTINUE
abbrev pub IsLoop : List CellItem → Bool → Test → (after : Bool) → language.Stmts → Stmt → Type 0
IsLoop cells turned test after body made = EachWay cells (λ way. seen 0 made
    ≡ language.Loop (language.Until after
    (written_test (naming_in way) way.place way.range (turned_test turned (seen_test test))))
    (language.Nested (required Continue body)))
