-- Words on cells, row by row.
use Rattle.std.proofs.Common.{◌≡◌, ℕ, ◌+◌, ◌-◌, ◌^◌, ◌<◌, ◌≤◌, Bool, true, false, if◌then◌else◌, List, [], ◌∷◌, Option, Some, None, refl, ap, sym, ◌∙◌, arith, leb-true}
use Rattle.std.specs.Prelude.{nat_le}
use Rattle.cob_tree.specs.declared.calc.Calc.TheVariants as calcs
use Rattle.cob_tree.specs.declared.cond.Cond.{Cond, fold-roll-Cond}
use Rattle.cob_tree.specs.declared.cond.Cond.TheOpen.{Cond-F}
use Rattle.cob_tree.specs.declared.cond.Cond.TheVariants.{Relation, rolls-Relation, Not, rolls-Not}
use Rattle.cob_tree.specs.declared.cond.Rel.{Rel}
use Rattle.cob_tree.specs.declared.cond.Rel.TheVariants.{Equal, Greater}
use Rattle.cob_tree.specs.declared.number.Number.{Number}
use Rattle.cob_tree.specs.declared.place.Expr.{Expr, out-roll-Expr}
use Rattle.cob_tree.specs.declared.place.Expr.TheOpen.{Expr-F, Operand-F}
use Rattle.cob_tree.specs.declared.place.Operand.{Operand, out-roll-Operand}
use Rattle.cob_tree.specs.declared.place.Place.{Place, out-roll-Place}
use Rattle.cob_tree.specs.declared.place.Sub.{Sub}
use Rattle.cob_tree.specs.declared.place.Window.{Window}
use Rattle.cob_tree.specs.declared.stmt.Arms.{out-roll-Arms}
use Rattle.cob_tree.specs.declared.stmt.Stmt.{Stmt}
use Rattle.cob_tree.specs.declared.control.Control.TheVariants.{Until}
use Rattle.cob_tree.specs.declared.stmt.Stmt.TheVariants.{Continue, Loop}
use Rattle.control_flow_theory.specs.language.Language as language
use Rattle.control_flow_theory.specs.language.Control as control
use Rattle.control_flow_theory.specs.language.Control.{Tested, tested_step, test_of, relation_of, cell_of, cell_named, cell_in, number_in, is_number, number_written, move_of, arith_act, arith_stmt, bare, seen, seen_both, seen_stmts}
use Rattle.control_flow_theory.specs.language.Own.{OwnTest}
use Rattle.control_flow_theory.proofs.language_lemmas.Rows.{seen_if_any, seen_loop, seen_move, seen_arith, seen_both_is}
use Rattle.control_flow_theory.specs.rendering.Rendering.{required, written_test}
use Rattle.control_flow_theory.specs.graph_rules.Loops.{turned_test}
use Rattle.branch_tree.specs.Choosers.{seen_test}
use Rattle.branch_tree.specs.declared.chooser.Test.{Test}
use Rattle.branch_tree.specs.declared.chooser.Test.TheVariants as tests
use Rattle.cobol_theory.specs.cell_items.Cell.{cell_place, cell_operand, number_operand, operand_expr}
use Rattle.cobol_theory.specs.cell_items.Laws.{cell_relation, target_of}
use Rattle.cobol_theory.specs.cell_serving.Entries.{whole_literal}
use Rattle.cobol_theory.specs.cell_serving.Naming.{move_to, subtract_from}
use Rattle.statement_builders.specs.arms.Written.{Way, naming_in}
use Rattle.statement_builders.specs.item_words.Words.{AreItems, IsItemOf, IsAct, IsCellTest, IsLoop, IsTest}
use Rattle.statement_builders.specs.declared.item_words.cells.CellItem.{CellItem}

-- An item that is one of the program's entries is no cell.

below-no_cell : (item : ℕ) → item < 2 ^ 31 → (if nat_le (2 ^ 31) item then Some (item - 2 ^ 31) else None) ≡ None
below-no_cell item below = by_case (nat_le (2 ^ 31) item) refl
  where
    by_case : (b : Bool) → b ≡ nat_le (2 ^ 31) item → (if b then Some (item - 2 ^ 31) else None) ≡ None
    by_case false e = refl
    by_case true e = let h : 2 ^ 31 ≤ item = leb-true (2 ^ 31) item (sym e) in absurd (omega arith)

own_place : (item : ℕ) → item < 2 ^ 31 → cell_of (cell_place item) ≡ None
own_place item below =
    ap (λ (n : ℕ). if nat_le (2 ^ 31) n then Some (n - 2 ^ 31) else None) (ap (λ p. p.item) (out-roll-Place (record { item = item; of = []; subs = []; window = None })))
    ∙ below-no_cell item below

abbrev cell_at : Operand-F Expr Operand Place Sub Window → Option ℕ
cell_at (Operand-F.Place place) = cell_of place
cell_at _ = None

own_operand : (item : ℕ) → item < 2 ^ 31 → cell_named (cell_operand item) ≡ None
own_operand item below = ap cell_at (out-roll-Operand (Operand-F.Place (cell_place item))) ∙ own_place item below

abbrev cell_of_expr : Expr-F Expr Operand Place Sub Window → Option ℕ
cell_of_expr (Expr-F.Leaf operand) = cell_named operand
cell_of_expr _ = None

own_side : (item : ℕ) → item < 2 ^ 31 → cell_in (operand_expr (cell_operand item)) ≡ None
own_side item below = ap cell_of_expr (out-roll-Expr (Expr-F.Leaf (cell_operand item))) ∙ own_operand item below

-- Statements.

moves : (item : ℕ) (from : Operand) → item < 2 ^ 31 → move_of from (cell_place item ∷ []) ≡ language.Own (move_to item from)
moves item from below = ap (λ cell. control.move_to cell from (cell_place item)) (own_place item below)

seen_bare : seen_both 0 bare ≡ record { first = None; second = None }
seen_bare =
    let any : (arms : Option (List Stmt)) → Option language.Stmts = seen_if_any 0 in
    seen_both_is 0 bare ∙ ap (λ arms. record { first = seen_if_any 0 arms.first; second = seen_if_any 0 arms.second }) (out-roll-Arms (record { first = None; second = None }))

unless-lowered : (rounded one : Bool) (cell : Option ℕ) → cell ≡ None → (if rounded then None else (if one then cell else None)) ≡ None
unless-lowered true one cell e = refl
unless-lowered false false cell e = refl
unless-lowered false true cell e = e

lowers : (item : ℕ) (number : Number) → item < 2 ^ 31 → seen 0 (subtract_from item number) ≡ language.Do (language.Own (subtract_from item number))
lowers item number below =
    let part = number_operand number in
    let calc = calcs.Subtract (part ∷ []) in
    let into = target_of item ∷ [] in
    seen_arith 0 calc into bare
    ∙ ap (arith_stmt calc into) seen_bare
    ∙ ap (λ cell. language.Do (arith_act cell calc into)) (unless-lowered false (is_number 1 (number_written part)) (cell_of (cell_place item)) (own_place item below))

module _ (cells : List CellItem) (cell : ℕ) (found : CellItem) (of : IsItemOf cells cell found) where
  move_row : (way : Way) → AreItems way cells → (from : Operand) →
      seen 0 (move_to found.item from) ≡ language.Do (language.Own (move_to (way.first + way.table.item way.range cell) from))
  move_row way are from =
      seen_move 0 from (cell_place found.item ∷ [])
      ∙ ap language.Do (moves found.item from of.1)
      ∙ ap (λ item. language.Do (language.Own (move_to item from))) (sym (are.item cell found of.0))

  pub set_row : (value : ℕ) (made : Stmt) → made ≡ move_to found.item (number_operand (whole_literal value)) → IsAct cells (language.Set cell value) made
  set_row value made e way are = ap (seen 0) e ∙ move_row way are (number_operand (whole_literal value))

  pub take_row : (amount : Operand) (made : Stmt) → made ≡ move_to found.item amount → IsAct cells (language.Take cell amount) made
  take_row amount made e way are = ap (seen 0) e ∙ move_row way are amount

  pub lower_row : (made : Stmt) → made ≡ subtract_from found.item (whole_literal 1) → IsAct cells (language.Lower cell) made
  lower_row made e way are =
      ap (seen 0) e ∙ lowers found.item (whole_literal 1) of.1
      ∙ ap (λ item. language.Do (language.Own (subtract_from item (whole_literal 1)))) (sym (are.item cell found of.0))

-- Tests.

compares : (item : ℕ) (rel : Rel) (number : Number) → item < 2 ^ 31 → test_of (cell_relation item rel number) ≡ language.Holds (cell_relation item rel number)
compares item rel number below =
    let left = operand_expr (cell_operand item) in
    let right = operand_expr (number_operand number) in
    ap (λ (t : Tested). t.test) (fold-roll-Cond Tested tested_step (Cond-F.Relation left rel right))
    ∙ ap (λ cell. relation_of cell rel (number_in right) (Relation left rel right)) (own_side item below)
    ∙ ap language.Holds (sym (rolls-Relation left rel right))

test_row : (cells : List CellItem) (cell value : ℕ) (rel : Rel) (made : Cond) → IsCellTest cells cell rel value made → (way : Way) → AreItems way cells →
    test_of made ≡ language.Holds (cell_relation (way.first + way.table.item way.range cell) rel (whole_literal value))
test_row cells cell value rel made h way are =
    ap test_of h.2 ∙ compares h.0.item rel (whole_literal value) h.1.1
    ∙ ap (λ item. language.Holds (cell_relation item rel (whole_literal value))) (sym (are.item cell h.0 h.1.0))

pub is_row : (cells : List CellItem) (cell value : ℕ) (made : Cond) → IsCellTest cells cell Equal value made → IsTest cells false (tests.Is cell value) made
is_row cells cell value made h = test_row cells cell value Equal made h

pub above_row : (cells : List CellItem) (cell : ℕ) (made : Cond) → IsCellTest cells cell Greater 0 made → IsTest cells false (tests.Above cell) made
above_row cells cell made h = test_row cells cell 0 Greater made h

own_test : (way : Way) (test : language.Test) → OwnTest test → written_test (naming_in way) way.place way.range test ≡ test
own_test way (language.Holds cond) h = refl
own_test way (language.Not test) h = ap language.Not (own_test way test h)
own_test way (language.Is cell value) h = absurd h
own_test way (language.Above cell) h = absurd h

pub holds_row : (cells : List CellItem) (cond made : Cond) → (made ≡ cond) × OwnTest (test_of cond) → IsTest cells false (tests.Holds cond) made
holds_row cells cond made h way are = ap test_of h.0 ∙ sym (own_test way (test_of cond) h.1)

pub turned_row : (cells : List CellItem) (test : Test) (cond : Cond) → IsTest cells false test cond → IsTest cells true test (Not cond)
turned_row cells test cond h way are =
    ap test_of (sym (rolls-Not cond)) ∙ ap (λ (t : Tested). t.test) (fold-roll-Cond Tested tested_step (Cond-F.Not cond)) ∙ ap language.Not (h way are)

pub loop_row : (cells : List CellItem) (turned : Bool) (test : Test) (after : Bool) (cond : Cond) (body stmts : List Stmt) → IsTest cells turned test cond →
    seen_stmts 0 stmts ≡ required Continue (seen_stmts 0 body) → IsLoop cells turned test after (seen_stmts 0 body) (Loop (Until after cond) stmts)
loop_row cells turned test after cond body stmts h e way are =
    seen_loop 0 (Until after cond) stmts
    ∙ ap (λ t. language.Loop (language.Until after t) (language.Nested (seen_stmts 0 stmts))) (h way are)
    ∙ ap (λ s. language.Loop (language.Until after (written_test (naming_in way) way.place way.range (turned_test turned (seen_test test)))) (language.Nested s)) e
