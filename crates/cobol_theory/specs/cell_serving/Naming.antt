-- What the parts are called in the written program: the program's own keep their names, and a word
-- on a cell is a statement, condition or choice by its item.
use Rattle.std.specs.Prelude.{ℕ, zero, suc, ◌+◌, Bool, true, false, not, List, [], ◌∷◌, length, map}
use Rattle.cob_tree.specs.declared.number.Number.{Number}
use Rattle.cob_tree.specs.declared.calc.Calc.TheVariants as calcs
use Rattle.cob_tree.specs.declared.choice.Subject.TheVariants as subjects
use Rattle.cob_tree.specs.declared.cond.Rel.TheVariants as rels
use Rattle.cob_tree.specs.declared.place.Operand.{Operand}
use Rattle.cob_tree.specs.declared.stmt.Stmt.{Stmt}
use Rattle.cob_tree.specs.declared.stmt.Stmt.TheVariants as stmts
use Rattle.control_flow_theory.specs.language.Language.{Range, Chooser, Evaluate, Picker}
use Rattle.control_flow_theory.specs.language.Control.{bare}
use Rattle.control_flow_theory.specs.rendering.Rendering.{Empty, Naming}
use Rattle.cobol_theory.specs.cell_items.Cell.{cell_place, cell_operand, number_operand, operand_expr}
use Rattle.cobol_theory.specs.cell_items.Laws.{cell_relation, target_of, number_tests}
use Rattle.cobol_theory.specs.cell_serving.Table.{CellTable}

-- MOVE to the item
abbrev pub move_to : ℕ → Operand → Stmt
move_to item from = stmts.Move from (cell_place item ∷ [])

-- SUBTRACT of a number from an item, without arms
abbrev pub subtract_from : ℕ → Number → Stmt
subtract_from item number =
    stmts.Arith (calcs.Subtract (number_operand number ∷ [])) (target_of item ∷ []) bare

-- the numbers from this one on, as many as that
abbrev pub numbers_from : (literal : ℕ → Number) → ℕ → ℕ → List Number
numbers_from literal first zero = []
numbers_from literal first (suc more) = literal first ∷ numbers_from literal (suc first) more

-- the first arm is written
abbrev pub first_stands : List Bool → Bool
first_stands [] = false
first_stands (arm ∷ arms) = arm

-- the last arm is written
abbrev pub last_stands : List Bool → Bool
last_stands [] = false
last_stands (arm ∷ []) = arm
last_stands (arm ∷ arms) = last_stands arms

-- how many WHENs a choice has: one less than its arms, where the last arm is WHEN OTHER
abbrev pub whens_of : Bool → List Bool → ℕ
whens_of false arms = length arms
whens_of true [] = 0
whens_of true (arm ∷ arms) = length arms

-- the last arm is WHEN OTHER, and is written
abbrev pub other_stands : Bool → List Bool → Bool
other_stands false arms = false
other_stands true arms = last_stands arms

-- the literal of a number, the first added item, and what becomes of empty arms
module _ (literal : ℕ → Number) (first : ℕ) (table : CellTable)
    (chooser : Chooser → List Bool → Chooser) (empty : Range → Picker → ℕ → Empty) where
  -- the item of a cell
  abbrev pub item_of : Range → ℕ → ℕ
  item_of range cell = first + table.item range cell

  -- what the parts are called, with these items for the cells
  abbrev pub cell_naming : Naming
  cell_naming = record {
    nothing = stmts.Continue;
    simple = λ simple. simple;
    cond = λ cond. cond;
    chooser = chooser;
    amount = λ amount. amount;
    set = λ range cell value. move_to (item_of range cell) (number_operand (literal value));
    take = λ range cell amount. move_to (item_of range cell) amount;
    lower = λ range cell. subtract_from (item_of range cell) (literal 1);
    is = λ range cell value. cell_relation (item_of range cell) rels.Equal (literal value);
    above = λ range cell. cell_relation (item_of range cell) rels.Greater (literal 0);
    by_cell = λ range cell arms.
        Evaluate (subjects.Value (operand_expr (cell_operand (item_of range cell))))
        (map number_tests (numbers_from literal 1 (whens_of (table.ends_in_other range cell) arms)))
        (other_stands (table.ends_in_other range cell) arms);
    lacks_other = λ range cell. not (table.ends_in_other range cell);
    empty = empty;
  }
