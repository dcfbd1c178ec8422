-- Of own items control makes no word on an added one: operands, conditions and choices.
use Rattle.std.proofs.Common.{◌≡◌, ℕ, ◌<◌, ◌≤◌, ◌^◌, ◌-◌, nat_lt, nat_le, Bool, true, false, ◌&&◌, if◌then◌else◌, List, [], ◌∷◌, map, Option, Some, None, refl, sym, ◌∙◌, subst, ltb-true, leb-true, arith}
use Rattle.std.proofs.lemmas.Bool.{and_parts}
use Rattle.cob_tree.specs.declared.calc.Calc.{Calc}
use Rattle.cob_tree.specs.declared.calc.Calc.TheVariants as calc
use Rattle.cob_tree.specs.declared.calc.Target.{Target}
use Rattle.cob_tree.specs.declared.choice.Subject.{Subject}
use Rattle.cob_tree.specs.declared.choice.Subject.TheVariants as subject
use Rattle.cob_tree.specs.declared.choice.Test.{Test}
use Rattle.cob_tree.specs.declared.cond.Cond.{Cond, ind-Cond, map-Cond, roll-Cond, fold-roll-Cond}
use Rattle.cob_tree.specs.declared.cond.Cond.TheOpen.{Cond-F}
use Rattle.cob_tree.specs.declared.cond.Rel.{Rel}
use Rattle.cob_tree.specs.declared.control.Control.{Control}
use Rattle.cob_tree.specs.declared.control.Control.TheVariants as control
use Rattle.cob_tree.specs.declared.place.Expr.{Expr, out-Expr, fold_out-Expr, map-Expr}
use Rattle.cob_tree.specs.declared.place.Expr.TheOpen.{Expr-F, Operand-F}
use Rattle.cob_tree.specs.declared.place.Operand.{Operand, out-Operand, fold_out-Operand, map-Operand}
use Rattle.cob_tree.specs.declared.place.Place.{Place, out-Place, fold_out-Place}
use Rattle.cob_tree.specs.declared.place.Sub.{Sub}
use Rattle.cob_tree.specs.declared.place.Window.{Window}
use Rattle.control_flow_theory.specs.language.Language as language
use Rattle.control_flow_theory.specs.language.All.{all}
use Rattle.control_flow_theory.specs.language.Control.{cell_of, cell_named, cell_in, number_in, number_written, is_number, relation_of, Tested, tested_step, tested, test_of, move_to, move_of, lowered_cell, arith_act, arith_of, count_from, cell_chosen, picker_by, evaluate_of, control_in}
use Rattle.control_flow_theory.specs.language.Own.{OwnAct, OwnTest, OwnPicker, OwnControl}
use Rattle.control_flow_theory.specs.language.OwnItems.{expr_step, operand_step, place_step, sub_step, window_step, place_own, operand_own, expr_own, sub_own, window_own, places_own, cond_step, cond_own, control_own, target_own, subject_own}

-- Cells.

below-no_cell : (item : ℕ) → item < 2 ^ 31 → (if nat_le (2 ^ 31) item then Some (item - 2 ^ 31) else None) ≡ None
below-no_cell item below = by_case (nat_le (2 ^ 31) item) refl
  where
    by_case : (b : Bool) → b ≡ nat_le (2 ^ 31) item → (if b then Some (item - 2 ^ 31) else None) ≡ None
    by_case false e = refl
    by_case true e = let h : 2 ^ 31 ≤ item = leb-true (2 ^ 31) item (sym e) in absurd (omega arith)

pub place-no_cell : (place : Place) → place_own place ≡ true → cell_of place ≡ None
place-no_cell place e =
    let h = sym (fold_out-Place Bool Bool Bool Bool Bool expr_step operand_step place_step sub_step window_step place) ∙ e in
    let first = and_parts (nat_lt (out-Place place).item (2 ^ 31) && _) _ h in
    let below = and_parts (nat_lt (out-Place place).item (2 ^ 31)) _ first.0 in
    below-no_cell (out-Place place).item (ltb-true (out-Place place).item (2 ^ 31) below.0)

-- the cell that an operand of this form names
abbrev cell_at : Operand-F Expr Operand Place Sub Window → Option ℕ
cell_at (Operand-F.Place place) = cell_of place
cell_at _ = None

operand-by_form : (y : Operand-F Expr Operand Place Sub Window) →
    operand_step (map-Operand Expr Operand Place Sub Window Bool Bool Bool Bool Bool expr_own operand_own place_own sub_own window_own y) ≡ true → cell_at y ≡ None
operand-by_form (Operand-F.Place place) e = place-no_cell place e
operand-by_form (Operand-F.Number number) e = refl
operand-by_form (Operand-F.Text text) e = refl
operand-by_form (Operand-F.Figure figure) e = refl

pub operand-no_cell : (operand : Operand) → operand_own operand ≡ true → cell_named operand ≡ None
operand-no_cell operand e =
    operand-by_form (out-Operand operand) (sym (fold_out-Operand Bool Bool Bool Bool Bool expr_step operand_step place_step sub_step window_step operand) ∙ e)

abbrev cell_of_expr : Expr-F Expr Operand Place Sub Window → Option ℕ
cell_of_expr (Expr-F.Leaf operand) = cell_named operand
cell_of_expr _ = None

expr-by_form : (y : Expr-F Expr Operand Place Sub Window) →
    expr_step (map-Expr Expr Operand Place Sub Window Bool Bool Bool Bool Bool expr_own operand_own place_own sub_own window_own y) ≡ true → cell_of_expr y ≡ None
expr-by_form (Expr-F.Leaf operand) e = operand-no_cell operand e
expr-by_form (Expr-F.Minus inner) e = refl
expr-by_form (Expr-F.Both op left right) e = refl

pub expr-no_cell : (expr : Expr) → expr_own expr ≡ true → cell_in expr ≡ None
expr-no_cell expr e =
    expr-by_form (out-Expr expr) (sym (fold_out-Expr Bool Bool Bool Bool Bool expr_step operand_step place_step sub_step window_step expr) ∙ e)

-- Conditions.

relation-own : (cell : Option ℕ) (rel : Rel) (value : Option ℕ) (whole : Cond) → cell ≡ None → OwnTest (relation_of cell rel value whole)
relation-own cell rel value whole e = subst (λ c. OwnTest (relation_of c rel value whole)) (sym e) tt

abbrev IsOwn : Cond → Type 0
IsOwn cond = cond_own cond ≡ true → OwnTest (test_of cond)

abbrev Such : Type 0
Such = (cond : Cond) × IsOwn cond

own_by : (y : Cond-F Cond) → (cond_step (map-Cond Cond Bool cond_own y) ≡ true → OwnTest (tested_step (map-Cond Cond Tested tested y)).test) → IsOwn (roll-Cond y)
own_by y h e =
    subst (λ (t : Tested). OwnTest t.test) (sym (fold-roll-Cond Tested tested_step y)) (h (sym (fold-roll-Cond Bool cond_step y) ∙ e))

layer : (y : Cond-F Such) → IsOwn (roll-Cond (map-Cond Such Cond (λ e. e.0) y))
layer (Cond-F.Relation left rel right) =
    own_by (Cond-F.Relation left rel right)
    (λ e. relation-own (cell_in left) rel (number_in right) _ (expr-no_cell left (and_parts (expr_own left) (expr_own right) e).0))
layer (Cond-F.Class place kind not) = own_by (Cond-F.Class place kind not) (λ e. tt)
layer (Cond-F.SignIs expr kind not) = own_by (Cond-F.SignIs expr kind not) (λ e. tt)
layer (Cond-F.Named place) = own_by (Cond-F.Named place) (λ e. tt)
layer (Cond-F.Not inner) = own_by (Cond-F.Not inner.0) inner.1
layer (Cond-F.And left right) = own_by (Cond-F.And left.0 right.0) (λ e. tt)
layer (Cond-F.Or left right) = own_by (Cond-F.Or left.0 right.0) (λ e. tt)

pub cond-own : (cond : Cond) → cond_own cond ≡ true → OwnTest (test_of cond)
cond-own cond = ind-Cond IsOwn (λ x y is. subst (λ z. IsOwn (roll-Cond z)) is (layer y)) cond

-- Statements that act.

move_to-own : (cell : Option ℕ) (from : Operand) (to : Place) → cell ≡ None → OwnAct (move_to cell from to)
move_to-own cell from to e = subst (λ c. OwnAct (move_to c from to)) (sym e) tt

pub move-own : (from : Operand) (to : List Place) → places_own to ≡ true → OwnAct (move_of from to)
move-own from [] e = tt
move-own from (to ∷ []) e = move_to-own (cell_of to) from to (place-no_cell to (and_parts (place_own to) true e).0)
move-own from (to ∷ next ∷ others) e = tt

unless-lowered : (rounded one : Bool) (cell : Option ℕ) → cell ≡ None → (if rounded then None else (if one then cell else None)) ≡ None
unless-lowered true one cell e = refl
unless-lowered false false cell e = refl
unless-lowered false true cell e = e

lowered-none : (calc : Calc) (into : List Target) → all (map target_own into) ≡ true → lowered_cell calc into ≡ None
lowered-none (calc.Subtract (part ∷ [])) (target ∷ []) e =
    unless-lowered target.rounded (is_number 1 (number_written part)) (cell_of target.place)
    (place-no_cell target.place (and_parts (target_own target) true e).0)
lowered-none _ _ e = refl

arith_act-own : (cell : Option ℕ) (calc : Calc) (into : List Target) → cell ≡ None → OwnAct (arith_act cell calc into)
arith_act-own cell calc into e = subst (λ c. OwnAct (arith_act c calc into)) (sym e) tt

pub arith-own : (calc : Calc) (into : List Target) → all (map target_own into) ≡ true → OwnAct (arith_of calc into)
arith-own calc into e = arith_act-own (lowered_cell calc into) calc into (lowered-none calc into e)

-- Choices and loops.

chosen-none : (subject : Subject) → subject_own subject ≡ true → cell_chosen subject ≡ None
chosen-none subject.True e = refl
chosen-none subject.False e = refl
chosen-none (subject.Value expr) e = expr-no_cell expr e

picker_by-own : (cell : Option ℕ) (counted : Bool) (chooser : language.Chooser) → cell ≡ None → OwnPicker (picker_by cell counted chooser)
picker_by-own cell counted chooser e = subst (λ c. OwnPicker (picker_by c counted chooser)) (sym e) tt

pub evaluate-own : (subject : Subject) (tests : List (List Test)) (has_other : Bool) → subject_own subject ≡ true → OwnPicker (evaluate_of subject tests has_other)
evaluate-own subject tests has_other e =
    picker_by-own (cell_chosen subject) (count_from 1 tests) (language.Evaluate subject tests has_other) (chosen-none subject e)

-- how a loop turns, where it has a control
abbrev pub OwnTurns : Option language.Control → Type 0
OwnTurns None = Unit {0}
OwnTurns (Some control) = OwnControl control

pub control-own : (turns : Control) → control_own turns ≡ true → OwnTurns (control_in turns)
control-own control.Once e = tt
control-own (control.Times amount) e = tt
control-own (control.Until after until) e = cond-own until e
control-own (control.Varying after item from by until) e =
    (tt, tt, cond-own until (and_parts ((place_own item && operand_own from) && operand_own by) (cond_own until) e).1)
