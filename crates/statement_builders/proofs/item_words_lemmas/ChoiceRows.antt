-- Choices of a tree, row by row.
use Rattle.std.proofs.Common.{◌≡◌, ℕ, zero, suc, ◌+◌, Bool, true, false, List, [], ◌∷◌, ◌++◌, length, map, Option, refl, ap, sym, ◌∙◌, arith}
use Rattle.cob_tree.specs.declared.calc.Calc.{Calc}
use Rattle.cob_tree.specs.declared.calc.Target.{Target}
use Rattle.cob_tree.specs.declared.choice.Subject.{Subject}
use Rattle.cob_tree.specs.declared.choice.Subject.TheVariants as subjects
use Rattle.cob_tree.specs.declared.choice.Test as choice
use Rattle.cob_tree.specs.declared.cond.Cond.{Cond}
use Rattle.cob_tree.specs.declared.place.Place.{Place}
use Rattle.cob_tree.specs.declared.stmt.Stmt.{Stmt}
use Rattle.control_flow_theory.specs.language.Language as language
use Rattle.control_flow_theory.specs.language.Language.{Stmts, none, Arms, done}
use Rattle.control_flow_theory.specs.language.Control.{seen, seen_stmts}
use Rattle.control_flow_theory.specs.rendering.Rendering.{Continues, Goes}
use Rattle.branch_tree.specs.Choosers.{seen_test}
use Rattle.branch_tree.specs.declared.chooser.Test.{Test}
use Rattle.branch_tree.specs.declared.chooser.Chooser.TheVariants as choosers
use Rattle.branch_tree.specs.declared.chooser.Picker.TheVariants as pickers
use Rattle.cobol_theory.specs.cell_items.Cell.{cell_operand, operand_expr}
use Rattle.cobol_theory.specs.cell_items.Laws.{number_tests}
use Rattle.cobol_theory.specs.cell_serving.Choosing.{place_expr}
use Rattle.cobol_theory.specs.cell_serving.Entries.{whole_literal}
use Rattle.cobol_theory.specs.cell_serving.Naming.{numbers_from, whens_of, last_stands}
use Rattle.statement_builders.specs.arms.Choosing.{IsIf, IsRead, IsArith}
use Rattle.statement_builders.specs.arms.EmptyArms.{if_had, of_whens, of_cell, put_arm}
use Rattle.statement_builders.proofs.arms_lemmas.ChoiceRows.{stays_is}
use Rattle.statement_builders.specs.item_words.Words.{IsItemOf, IsTest}
use Rattle.statement_builders.specs.item_words.Lists.{put_arms, stand_so, continued, chosen, IsChosen, IsOwnChoice, item_chosen, IsItemChoice, IsAmongAll, numbered, IsNumbered, IsNumberedAll}
use Rattle.statement_builders.specs.declared.item_words.cells.CellItem.{CellItem}
use Rattle.statement_builders.proofs.item_words_lemmas.ListRows.{all_row, missing_row, given_stands, within, past, cell_within, cell_past, stand_many, whens_many}

-- Choices of two arms.

module _ (lists : List (List Stmt)) (first second : List Stmt) (two : lists ≡ first ∷ second ∷ []) where
  pub if_row : (cells : List CellItem) (test : Test) (cond : Cond) (made : Stmt) → IsTest cells false test cond →
      IsIf cond (seen_stmts 0 first) (seen_stmts 0 second) made → IsChosen cells (pickers.If test) lists made
  if_row cells test cond made t is way are =
      is
      ∙ ap (λ test. language.Choose (language.If test) (put_arm Continues (seen_stmts 0 first) (put_arm Goes (seen_stmts 0 second) done))) (t way are)
      ∙ ap (λ l. chosen way (language.If (seen_test test)) (map (seen_stmts 0) l)) (sym two)

  pub read_row : (file : ℕ) (into : Option Place) (had : Bool) (made : Stmt) →
      IsRead file into had (seen_stmts 0 first) (seen_stmts 0 second) made → IsOwnChoice (choosers.Read file into had) lists made
  read_row file into had made is way =
      is
      ∙ ap (λ stands. language.Choose (language.By (language.Read file into stands)) (put_arm (if_had had) (seen_stmts 0 first) (put_arm Goes (seen_stmts 0 second) done))) (sym (given_stands had (seen_stmts 0 first)))
      ∙ ap (λ l. chosen way (language.By (language.Read file into had)) (map (seen_stmts 0) l)) (sym two)

  pub arith_row : (calc : Calc) (into : List Target) (made : Stmt) →
      IsArith calc into true (seen_stmts 0 first) (seen_stmts 0 second) made → IsOwnChoice (choosers.Arith calc into) lists made
  arith_row calc into made is way =
      is
      ∙ ap (language.Choose (language.By (language.Arith calc into))) (stays_is (seen_stmts 0 first) (put_arm Goes (seen_stmts 0 second) done))
      ∙ ap (λ l. chosen way (language.By (language.Arith calc into)) (map (seen_stmts 0) l)) (sym two)

-- EVALUATE.

pub evaluate_row : (subject : Subject) (tests : List (List choice.Test)) (had : Bool) (lists : List (List Stmt)) (made : Stmt) →
    IsAmongAll subject tests (map (seen_stmts 0) lists) had made → IsOwnChoice (choosers.Evaluate subject tests had) lists made
evaluate_row subject tests had lists made h way =
    all_row (of_whens (length tests) had) subject tests h.0 h.1 had made (within (length tests) had) (past (length tests) had) h.3
    ∙ ap (chosen way (language.By (language.Evaluate subject tests had))) (sym h.2)

numbers_many : (first whens : ℕ) → length (map number_tests (numbers_from whole_literal first whens)) ≡ whens
numbers_many first zero = refl
numbers_many first (suc whens) = ap suc (numbers_many (suc first) whens)

pub depending_row : (on : Place) (names : ℕ) (lists : List (List Stmt)) (made : Stmt) →
    IsNumberedAll (place_expr on) names (map (seen_stmts 0) lists) made → IsOwnChoice (choosers.Depending on names) lists made
depending_row on names lists made h way =
    let many = numbers_many 1 names in
    all_row (of_whens names false) (subjects.Value (place_expr on)) (numbered names) h.0 h.1 false made
    (λ n lt. within names false n (omega (arith, lt, many))) (ap (of_whens names false) many ∙ past names false) h.3
    ∙ ap (chosen way (language.By (language.Depending on names))) (sym h.2)

-- Choices by an item.

pub item_all_row : (item whens : ℕ) (lists : List Stmts) (made : Stmt) →
    IsNumberedAll (operand_expr (cell_operand item)) whens lists made → seen 0 made ≡ item_chosen item true (suc whens) lists
item_all_row item whens lists made h =
    let subject = subjects.Value (operand_expr (cell_operand item)) in
    let empty = of_cell true (suc whens) in
    let all = h.0 ++ h.1 ∷ [] in
    let many = numbers_many 1 whens in
    let so : whens ≡ whens_of true (stand_so empty 0 all) = sym many ∙ h.3.0 ∙ sym (whens_many empty h.0 h.1) in
    all_row empty subject (numbered whens) h.0 h.1 false made
    (λ n lt. cell_within whens n (omega (arith, lt, many))) (ap empty many ∙ cell_past whens) h.3
    ∙ ap (λ n. language.Choose (language.By (language.Evaluate subject (numbered n) (last_stands (stand_so empty 0 all)))) (put_arms empty 0 all)) so
    ∙ ap (item_chosen item true (suc whens)) (sym h.2)

pub item_tested_row : (item most : ℕ) (lists : List Stmts) (made : Stmt) →
    IsNumbered (operand_expr (cell_operand item)) lists made → seen 0 made ≡ item_chosen item false most lists
item_tested_row item most lists made h =
    let subject = subjects.Value (operand_expr (cell_operand item)) in
    let whole : ℕ → Arms → language.Stmt = λ n arms. language.Choose (language.By (language.Evaluate subject (numbered n) false)) arms in
    h.1
    ∙ ap (λ n. whole n (continued lists (put_arm Goes none done))) (sym (stand_many (of_cell false most) 0 lists))
    ∙ ap (whole (length (stand_so (of_cell false most) 0 lists))) (sym (missing_row most 0 lists))

pub cell_row : (cells : List CellItem) (cell : ℕ) (found : CellItem) (lists : List (List Stmt)) (made : Stmt) → IsItemOf cells cell found →
    IsItemChoice found lists made → IsChosen cells (pickers.ByCell cell) lists made
cell_row cells cell found lists made of is way are =
    let all = map (seen_stmts 0) lists in
    is
    ∙ ap (λ item. item_chosen item found.ends_in_other found.most all) (sym (are.item cell found of.0))
    ∙ ap (λ ends. item_chosen (way.first + way.table.item way.range cell) ends found.most all) (sym (are.ends cell found of.0))
    ∙ ap (λ most. item_chosen (way.first + way.table.item way.range cell) (way.table.ends_in_other way.range cell) most all) (sym (are.most cell found of.0))
