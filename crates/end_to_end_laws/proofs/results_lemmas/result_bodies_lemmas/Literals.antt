-- Literals of whole numbers, and words on added items, can be printed.
use Rattle.std.proofs.Common.{◌≡◌, ℕ, zero, suc, ◌+◌, ◌<◌, ◌≤◌, ◌^◌, true, List, [], ◌∷◌, length, map, None, refl, ap, ◌∙◌, arith}
use Rattle.std.specs.Prelude.{nat_le}
use Rattle.std.specs.Fmt.{decimal}
use Rattle.std.specs.List.{list_all}
use Rattle.std.proofs.lemmas.Bool.{and_from, le-leb}
use Rattle.std.proofs.lemmas.Fmt.{decimal_nonempty, length-decimal-le}
use Rattle.std.proofs.lemmas.List.Sums.{list_all-from_AllPass}
use Rattle.cob_tree.specs.declared.cond.Cond.TheVariants as conds
use Rattle.cob_tree.specs.declared.cond.Rel.{Rel}
use Rattle.cob_tree.specs.declared.calc.Calc.TheVariants as calcs
use Rattle.cob_tree.specs.declared.place.Expr.TheVariants as exprs
use Rattle.cob_tree.specs.declared.place.Operand.{Operand}
use Rattle.cob_tree.specs.declared.place.Operand.TheVariants as operands
use Rattle.cob_tree.specs.declared.place.Place.{Place}
use Rattle.control_flow_theory.specs.language.All.{all}
use Rattle.cob_words.proofs.numbered_lemmas.NumberedLemmas.{decimal_is_digits}
use Rattle.program_facts.specs.well_scoped.Part.{is_digit, are_digits, number_named}
use Rattle.program_facts.proofs.well_scoped_lemmas.Made.{both}
use Rattle.cobol_theory.specs.cell_items.Cell.{cell_place, cell_operand, number_operand, operand_expr}
use Rattle.cobol_theory.specs.cell_items.Laws.{cell_relation, target_of, number_tests}
use Rattle.cobol_theory.specs.cell_serving.Choosing.{place_expr}
use Rattle.cobol_theory.specs.cell_serving.Entries.{whole_literal}
use Rattle.cobol_theory.specs.cell_serving.Naming.{move_to, subtract_from, numbers_from}
use Rattle.round_trip.specs.printable.Part.{is_printable_place, is_printable_operand, is_printable_expr}
use Rattle.round_trip.specs.printable.Beside.{is_printable_cond}
use Rattle.round_trip.specs.printable.Statement.{is_printable_stmt}
use Rattle.round_trip.proofs.printable_lemmas.Made.{place-made, made-Place-operand, made-Number-operand, made-Leaf, made-Relation, made-Move, made-Arith, made-Arms}
use Rattle.round_trip.specs.printable.printable_control.Prints.{are_printable_tests}

-- ---- literals

digits-fit : (digits : List ℕ) → 0 < length digits → length digits ≤ 18 →
    list_all is_digit digits ≡ true → are_digits digits ≡ true
digits-fit [] some few all_digits = absurd (omega (arith, some))
digits-fit (byte ∷ digits) some few all_digits =
    and_from (nat_le (length (byte ∷ digits)) 18) (list_all is_digit (byte ∷ digits))
    (le-leb (length (byte ∷ digits)) 18 few) all_digits

literal-named : (n : ℕ) → n < 10 ^ 18 → number_named (whole_literal n) ≡ true
literal-named n small =
    let some = decimal_nonempty n (omega (arith, small)) in
    let few = length-decimal-le 18 n (omega arith) small (omega (arith, small)) in
    let digits = list_all-from_AllPass is_digit (decimal n)
    (decimal_is_digits n (omega (arith, small))) in
    and_from (are_digits (decimal n)) (nat_le 0 (length (decimal n)))
    (digits-fit (decimal n) some few digits) (le-leb 0 (length (decimal n)) (omega arith))

pub literal-prints : (n : ℕ) → n < 10 ^ 18 →
    is_printable_operand (number_operand (whole_literal n)) ≡ true
literal-prints n small =
    ap is_printable_operand (operands.rolls-Number (whole_literal n))
    ∙ made-Number-operand (whole_literal n) (literal-named n small)

-- ---- parts

expr-prints : (operand : Operand) → is_printable_operand operand ≡ true →
    is_printable_expr (operand_expr operand) ≡ true
expr-prints operand h =
    ap is_printable_expr (exprs.rolls-Leaf operand) ∙ made-Leaf operand h

pub place-prints : (place : Place) → is_printable_place place ≡ true →
    is_printable_expr (place_expr place) ≡ true
place-prints place h =
    expr-prints _ (ap is_printable_operand (operands.rolls-Place place) ∙ made-Place-operand place h)

item-prints : (item : ℕ) → is_printable_place (cell_place item) ≡ true
item-prints item = place-made item [] [] None refl refl refl

pub item-expr-prints : (item : ℕ) → is_printable_expr (operand_expr (cell_operand item)) ≡ true
item-expr-prints item = place-prints (cell_place item) (item-prints item)

number-expr-prints : (n : ℕ) → n < 10 ^ 18 →
    is_printable_expr (operand_expr (number_operand (whole_literal n))) ≡ true
number-expr-prints n small = expr-prints (number_operand (whole_literal n)) (literal-prints n small)

-- ---- words on an item

pub move-prints : (item : ℕ) (from : Operand) → is_printable_operand from ≡ true →
    is_printable_stmt (move_to item from) ≡ true
move-prints item from h = made-Move from (cell_place item ∷ []) h (both (item-prints item) refl)

pub subtract-prints : (item n : ℕ) → n < 10 ^ 18 →
    is_printable_stmt (subtract_from item (whole_literal n)) ≡ true
subtract-prints item n small =
    made-Arith (calcs.Subtract (number_operand (whole_literal n) ∷ [])) (target_of item ∷ []) _
    (both (literal-prints n small) refl) (both (item-prints item) refl)
    (made-Arms None None refl refl)

pub relation-prints : (item : ℕ) (rel : Rel) (n : ℕ) → n < 10 ^ 18 →
    is_printable_cond (cell_relation item rel (whole_literal n)) ≡ true
relation-prints item rel n small =
    let left = operand_expr (cell_operand item) in
    let right = operand_expr (number_operand (whole_literal n)) in
    ap is_printable_cond (conds.rolls-Relation left rel right)
    ∙ made-Relation left rel right (item-expr-prints item) (number-expr-prints n small)

-- WHEN with each of so many numbers
pub numbers-print : (first count : ℕ) → first + count ≤ 10 ^ 18 →
    all (map are_printable_tests (map number_tests (numbers_from whole_literal first count)))
    ≡ true
numbers-print first zero few = refl
numbers-print first (suc count) few =
    both (both (both (number-expr-prints first (omega (arith, few))) refl) refl)
    (numbers-print (suc first) count (omega (arith, few)))
