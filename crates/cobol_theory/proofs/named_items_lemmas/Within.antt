-- What is named is among the items.
use Rattle.std.proofs.Common.{◌≡◌, ℕ, nat_lt, Bool, true, ◌&&◌, List, [], ◌∷◌, map, Option, Some, None, refl, sym, ◌∙◌, subst}
use Rattle.std.proofs.lemmas.Bool.{and_parts}
use Rattle.cob_tree.specs.declared.calc.Calc.{Calc}
use Rattle.cob_tree.specs.declared.calc.Calc.TheVariants as calc
use Rattle.cob_tree.specs.declared.calc.Target.{Target}
use Rattle.cob_tree.specs.declared.choice.Subject.{Subject}
use Rattle.cob_tree.specs.declared.choice.Subject.TheVariants as subject
use Rattle.cob_tree.specs.declared.choice.Test.{Test}
use Rattle.cob_tree.specs.declared.choice.Test.TheVariants as test
use Rattle.cob_tree.specs.declared.cond.Cond.{Cond, ind-Cond, map-Cond, roll-Cond, fold-roll-Cond}
use Rattle.cob_tree.specs.declared.cond.Cond.TheOpen.{Cond-F}
use Rattle.cob_tree.specs.declared.number.Number.{Number}
use Rattle.cob_tree.specs.declared.place.Expr.{Expr, ind-Expr, map-Expr, roll-Expr, fold-roll-Expr}
use Rattle.cob_tree.specs.declared.place.Expr.TheOpen.{Expr-F, Operand-F, Place-F, Sub-F, Window-F}
use Rattle.cob_tree.specs.declared.place.Operand.{Operand, ind-Operand, map-Operand, roll-Operand, fold-roll-Operand}
use Rattle.cob_tree.specs.declared.place.Place.{Place, ind-Place, map-Place, roll-Place, fold-roll-Place}
use Rattle.cob_tree.specs.declared.place.Sub.{Sub, map-Sub, roll-Sub, fold-roll-Sub}
use Rattle.cob_tree.specs.declared.place.Window.{Window, map-Window, roll-Window, fold-roll-Window}
use Rattle.control_flow_theory.specs.language.All.{all}
use Rattle.cobol_theory.specs.added_items.Within as within
use Rattle.cobol_theory.specs.added_items.Within.{place_within, operand_within, expr_within, sub_within, window_within, operands_within, places_within, cond_within, calc_within, targets_within, subject_within, test_within}
use Rattle.program_facts.specs.well_scoped.Part.{Counts, is_filled, if_any, number_named, item_named, place_named, operand_named, expr_named, sub_named, window_named, operands_named, places_named}
use Rattle.program_facts.specs.well_scoped.Part as part
use Rattle.program_facts.specs.well_scoped.Beside.{added_named, cond_named, calc_named, target_named, subject_named, test_named}
use Rattle.program_facts.specs.well_scoped.Beside as beside
use Rattle.program_facts.proofs.well_scoped_lemmas.Made.{both}

-- where the program has so many items
module _ (counts : Counts) (count : ℕ) (same : counts.items ≡ count) where
  abbrev IsExpr : Expr → Type 0
  IsExpr x = expr_named counts x ≡ true → (expr_within count) x ≡ true

  abbrev SuchExpr : Type 0
  SuchExpr = (x : Expr) × IsExpr x

  abbrev IsOperand : Operand → Type 0
  IsOperand x = operand_named counts x ≡ true → (operand_within count) x ≡ true

  abbrev SuchOperand : Type 0
  SuchOperand = (x : Operand) × IsOperand x

  abbrev IsPlace : Place → Type 0
  IsPlace x = place_named counts x ≡ true → (place_within count) x ≡ true

  abbrev SuchPlace : Type 0
  SuchPlace = (x : Place) × IsPlace x

  abbrev IsSub : Sub → Type 0
  IsSub x = sub_named counts x ≡ true → (sub_within count) x ≡ true

  abbrev SuchSub : Type 0
  SuchSub = (x : Sub) × IsSub x

  abbrev IsWindow : Window → Type 0
  IsWindow x = window_named counts x ≡ true → (window_within count) x ≡ true

  abbrev SuchWindow : Type 0
  SuchWindow = (x : Window) × IsWindow x

  there : (item : ℕ) → item_named counts item ≡ true → nat_lt item count ≡ true
  there item e = subst (λ n. nat_lt item n ≡ true) same e

  expr-by : (y : Expr-F Expr Operand Place Sub Window) →
      (part.expr_step counts (map-Expr Expr Operand Place Sub Window Bool Bool Bool Bool Bool (expr_named counts) (operand_named counts) (place_named counts) (sub_named counts) (window_named counts) y) ≡ true → (within.expr_step count) (map-Expr Expr Operand Place Sub Window Bool Bool Bool Bool Bool (expr_within count) (operand_within count) (place_within count) (sub_within count) (window_within count) y) ≡ true) →
      IsExpr (roll-Expr y)
  expr-by y h e = fold-roll-Expr Bool Bool Bool Bool Bool (within.expr_step count) (within.operand_step count) (within.place_step count) (within.sub_step count) (within.window_step count) y ∙ h (sym (fold-roll-Expr Bool Bool Bool Bool Bool (part.expr_step counts) (part.operand_step counts) (part.place_step counts) (part.sub_step counts) (part.window_step counts) y) ∙ e)

  operand-by : (y : Operand-F Expr Operand Place Sub Window) →
      (part.operand_step counts (map-Operand Expr Operand Place Sub Window Bool Bool Bool Bool Bool (expr_named counts) (operand_named counts) (place_named counts) (sub_named counts) (window_named counts) y) ≡ true → (within.operand_step count) (map-Operand Expr Operand Place Sub Window Bool Bool Bool Bool Bool (expr_within count) (operand_within count) (place_within count) (sub_within count) (window_within count) y) ≡ true) →
      IsOperand (roll-Operand y)
  operand-by y h e = fold-roll-Operand Bool Bool Bool Bool Bool (within.expr_step count) (within.operand_step count) (within.place_step count) (within.sub_step count) (within.window_step count) y ∙ h (sym (fold-roll-Operand Bool Bool Bool Bool Bool (part.expr_step counts) (part.operand_step counts) (part.place_step counts) (part.sub_step counts) (part.window_step counts) y) ∙ e)

  place-by : (y : Place-F Expr Operand Place Sub Window) →
      (part.place_step counts (map-Place Expr Operand Place Sub Window Bool Bool Bool Bool Bool (expr_named counts) (operand_named counts) (place_named counts) (sub_named counts) (window_named counts) y) ≡ true → (within.place_step count) (map-Place Expr Operand Place Sub Window Bool Bool Bool Bool Bool (expr_within count) (operand_within count) (place_within count) (sub_within count) (window_within count) y) ≡ true) →
      IsPlace (roll-Place y)
  place-by y h e = fold-roll-Place Bool Bool Bool Bool Bool (within.expr_step count) (within.operand_step count) (within.place_step count) (within.sub_step count) (within.window_step count) y ∙ h (sym (fold-roll-Place Bool Bool Bool Bool Bool (part.expr_step counts) (part.operand_step counts) (part.place_step counts) (part.sub_step counts) (part.window_step counts) y) ∙ e)

  sub-by : (y : Sub-F Expr Operand Place Sub Window) →
      (part.sub_step counts (map-Sub Expr Operand Place Sub Window Bool Bool Bool Bool Bool (expr_named counts) (operand_named counts) (place_named counts) (sub_named counts) (window_named counts) y) ≡ true → (within.sub_step count) (map-Sub Expr Operand Place Sub Window Bool Bool Bool Bool Bool (expr_within count) (operand_within count) (place_within count) (sub_within count) (window_within count) y) ≡ true) →
      IsSub (roll-Sub y)
  sub-by y h e = fold-roll-Sub Bool Bool Bool Bool Bool (within.expr_step count) (within.operand_step count) (within.place_step count) (within.sub_step count) (within.window_step count) y ∙ h (sym (fold-roll-Sub Bool Bool Bool Bool Bool (part.expr_step counts) (part.operand_step counts) (part.place_step counts) (part.sub_step counts) (part.window_step counts) y) ∙ e)

  window-by : (y : Window-F Expr Operand Place Sub Window) →
      (part.window_step counts (map-Window Expr Operand Place Sub Window Bool Bool Bool Bool Bool (expr_named counts) (operand_named counts) (place_named counts) (sub_named counts) (window_named counts) y) ≡ true → (within.window_step count) (map-Window Expr Operand Place Sub Window Bool Bool Bool Bool Bool (expr_within count) (operand_within count) (place_within count) (sub_within count) (window_within count) y) ≡ true) →
      IsWindow (roll-Window y)
  window-by y h e = fold-roll-Window Bool Bool Bool Bool Bool (within.expr_step count) (within.operand_step count) (within.place_step count) (within.sub_step count) (within.window_step count) y ∙ h (sym (fold-roll-Window Bool Bool Bool Bool Bool (part.expr_step counts) (part.operand_step counts) (part.place_step counts) (part.sub_step counts) (part.window_step counts) y) ∙ e)

  expr-layer : (y : Expr-F SuchExpr SuchOperand SuchPlace SuchSub SuchWindow) → IsExpr (roll-Expr (map-Expr SuchExpr SuchOperand SuchPlace SuchSub SuchWindow Expr Operand Place Sub Window (λ e. e.0) (λ e. e.0) (λ e. e.0) (λ e. e.0) (λ e. e.0) y))
  expr-layer (Expr-F.Leaf operand) = expr-by (Expr-F.Leaf operand.0) operand.1
  expr-layer (Expr-F.Minus inner) = expr-by (Expr-F.Minus inner.0) inner.1
  expr-layer (Expr-F.Both op left right) =
      expr-by (Expr-F.Both op left.0 right.0) (λ e. let h = and_parts (expr_named counts left.0) (expr_named counts right.0) e in both (left.1 h.0) (right.1 h.1))

  operand-layer : (y : Operand-F SuchExpr SuchOperand SuchPlace SuchSub SuchWindow) → IsOperand (roll-Operand (map-Operand SuchExpr SuchOperand SuchPlace SuchSub SuchWindow Expr Operand Place Sub Window (λ e. e.0) (λ e. e.0) (λ e. e.0) (λ e. e.0) (λ e. e.0) y))
  operand-layer (Operand-F.Place place) = operand-by (Operand-F.Place place.0) place.1
  operand-layer (Operand-F.Number number) = operand-by (Operand-F.Number number) (λ e. refl)
  operand-layer (Operand-F.Text text) = operand-by (Operand-F.Text text) (λ e. refl)
  operand-layer (Operand-F.Figure figure) = operand-by (Operand-F.Figure figure) (λ e. refl)

  subs-within : (list : List SuchSub) → all (map (sub_named counts) (map (λ e. e.0) list)) ≡ true → all (map (sub_within count) (map (λ e. e.0) list)) ≡ true
  subs-within [] e = refl
  subs-within (x ∷ list) e = let h = and_parts (sub_named counts x.0) (all (map (sub_named counts) (map (λ e. e.0) list))) e in both (x.1 h.0) (subs-within list h.1)

  place-layer : (item : ℕ) (of : List (List ℕ)) (subs : List SuchSub) (window : Option SuchWindow) →
      IsPlace (roll-Place (map-Place SuchExpr SuchOperand SuchPlace SuchSub SuchWindow Expr Operand Place Sub Window (λ e. e.0) (λ e. e.0) (λ e. e.0) (λ e. e.0) (λ e. e.0) (record { item = item; of = of; subs = subs; window = window })))
  place-layer item of subs None =
      place-by (record { item = item; of = of; subs = map (λ e. e.0) subs; window = None })
      (λ e. let h = and_parts (item_named counts item && all (map (sub_named counts) (map (λ e. e.0) subs))) true e in
      let k = and_parts (item_named counts item) (all (map (sub_named counts) (map (λ e. e.0) subs))) h.0 in
      both (both (there item k.0) (subs-within subs k.1)) refl)
  place-layer item of subs (Some window) =
      place-by (record { item = item; of = of; subs = map (λ e. e.0) subs; window = Some window.0 })
      (λ e. let h = and_parts (item_named counts item && all (map (sub_named counts) (map (λ e. e.0) subs))) (window_named counts window.0) e in
      let k = and_parts (item_named counts item) (all (map (sub_named counts) (map (λ e. e.0) subs))) h.0 in
      both (both (there item k.0) (subs-within subs k.1)) (window.1 h.1))

  sub-layer : (base : Option SuchPlace) (plus : Number) → IsSub (roll-Sub (map-Sub SuchExpr SuchOperand SuchPlace SuchSub SuchWindow Expr Operand Place Sub Window (λ e. e.0) (λ e. e.0) (λ e. e.0) (λ e. e.0) (λ e. e.0) (record { base = base; plus = plus })))
  sub-layer None plus = sub-by (record { base = None; plus = plus }) (λ e. refl)
  sub-layer (Some base) plus =
      sub-by (record { base = Some base.0; plus = plus }) (λ e. base.1 (and_parts (number_named plus) (place_named counts base.0) e).1)

  window-layer : (from : SuchExpr) (size : Option SuchExpr) → IsWindow (roll-Window (map-Window SuchExpr SuchOperand SuchPlace SuchSub SuchWindow Expr Operand Place Sub Window (λ e. e.0) (λ e. e.0) (λ e. e.0) (λ e. e.0) (λ e. e.0) (record { from = from; «length» = size })))
  window-layer from None =
      window-by (record { from = from.0; «length» = None }) (λ e. both (from.1 (and_parts (expr_named counts from.0) true e).0) refl)
  window-layer from (Some size) =
      window-by (record { from = from.0; «length» = Some size.0 })
      (λ e. let h = and_parts (expr_named counts from.0) (expr_named counts size.0) e in both (from.1 h.0) (size.1 h.1))

  pub place-within : (x : Place) → IsPlace x
  place-within x =
      ind-Place IsExpr IsOperand IsPlace IsSub IsWindow
      (λ x y is. subst (λ z. IsExpr (roll-Expr z)) is (expr-layer y))
      (λ x y is. subst (λ z. IsOperand (roll-Operand z)) is (operand-layer y))
      (λ x y is. subst (λ z. IsPlace (roll-Place z)) is (place-layer y.item y.of y.subs y.window))
      (λ x y is. subst (λ z. IsSub (roll-Sub z)) is (sub-layer y.base y.plus))
      (λ x y is. subst (λ z. IsWindow (roll-Window z)) is (window-layer y.from y.«length»)) x

  pub operand-within : (x : Operand) → IsOperand x
  operand-within x =
      ind-Operand IsExpr IsOperand IsPlace IsSub IsWindow
      (λ x y is. subst (λ z. IsExpr (roll-Expr z)) is (expr-layer y))
      (λ x y is. subst (λ z. IsOperand (roll-Operand z)) is (operand-layer y))
      (λ x y is. subst (λ z. IsPlace (roll-Place z)) is (place-layer y.item y.of y.subs y.window))
      (λ x y is. subst (λ z. IsSub (roll-Sub z)) is (sub-layer y.base y.plus))
      (λ x y is. subst (λ z. IsWindow (roll-Window z)) is (window-layer y.from y.«length»)) x

  pub expr-within : (x : Expr) → IsExpr x
  expr-within x =
      ind-Expr IsExpr IsOperand IsPlace IsSub IsWindow
      (λ x y is. subst (λ z. IsExpr (roll-Expr z)) is (expr-layer y))
      (λ x y is. subst (λ z. IsOperand (roll-Operand z)) is (operand-layer y))
      (λ x y is. subst (λ z. IsPlace (roll-Place z)) is (place-layer y.item y.of y.subs y.window))
      (λ x y is. subst (λ z. IsSub (roll-Sub z)) is (sub-layer y.base y.plus))
      (λ x y is. subst (λ z. IsWindow (roll-Window z)) is (window-layer y.from y.«length»)) x

  -- ---- lists, and what may be absent

  each-within : {X : Type 0} (p q : X → Bool) → ((x : X) → p x ≡ true → q x ≡ true) → (xs : List X) → all (map p xs) ≡ true → all (map q xs) ≡ true
  each-within p q h [] e = refl
  each-within p q h (x ∷ xs) e = let k = and_parts (p x) (all (map p xs)) e in both (h x k.0) (each-within p q h xs k.1)

  any-within : {X : Type 0} (p q : X → Bool) → ((x : X) → p x ≡ true → q x ≡ true) → (x : Option X) → if_any p x ≡ true → within.if_any count q x ≡ true
  any-within p q h None e = refl
  any-within p q h (Some x) e = h x e

  pub operands-within : (xs : List Operand) → operands_named counts xs ≡ true → operands_within count xs ≡ true
  operands-within = each-within (operand_named counts) (operand_within count) operand-within

  pub places-within : (xs : List Place) → places_named counts xs ≡ true → places_within count xs ≡ true
  places-within = each-within (place_named counts) (place_within count) place-within

  pub place-if-any : (x : Option Place) → if_any (place_named counts) x ≡ true → within.if_any count (place_within count) x ≡ true
  place-if-any = any-within (place_named counts) (place_within count) place-within

  pub operand-if-any : (x : Option Operand) → if_any (operand_named counts) x ≡ true → within.if_any count (operand_within count) x ≡ true
  operand-if-any = any-within (operand_named counts) (operand_within count) operand-within

  -- ---- conditions, arithmetic and choices

  abbrev IsCond : Cond → Type 0
  IsCond x = cond_named counts x ≡ true → cond_within count x ≡ true

  abbrev SuchCond : Type 0
  SuchCond = (x : Cond) × IsCond x

  cond-by : (y : Cond-F Cond) → (beside.cond_step counts (map-Cond Cond Bool (cond_named counts) y) ≡ true → within.cond_step count (map-Cond Cond Bool (cond_within count) y) ≡ true) → IsCond (roll-Cond y)
  cond-by y h e = fold-roll-Cond Bool (within.cond_step count) y ∙ h (sym (fold-roll-Cond Bool (beside.cond_step counts) y) ∙ e)

  cond-layer : (y : Cond-F SuchCond) → IsCond (roll-Cond (map-Cond SuchCond Cond (λ e. e.0) y))
  cond-layer (Cond-F.Relation left rel right) =
      cond-by (Cond-F.Relation left rel right) (λ e. let h = and_parts (expr_named counts left) (expr_named counts right) e in both (expr-within left h.0) (expr-within right h.1))
  cond-layer (Cond-F.Class place kind not) = cond-by (Cond-F.Class place kind not) (place-within place)
  cond-layer (Cond-F.SignIs expr kind not) = cond-by (Cond-F.SignIs expr kind not) (expr-within expr)
  cond-layer (Cond-F.Named place) = cond-by (Cond-F.Named place) (place-within place)
  cond-layer (Cond-F.Not inner) = cond-by (Cond-F.Not inner.0) inner.1
  cond-layer (Cond-F.And left right) =
      cond-by (Cond-F.And left.0 right.0) (λ e. let h = and_parts (cond_named counts left.0) (cond_named counts right.0) e in both (left.1 h.0) (right.1 h.1))
  cond-layer (Cond-F.Or left right) =
      cond-by (Cond-F.Or left.0 right.0) (λ e. let h = and_parts (cond_named counts left.0) (cond_named counts right.0) e in both (left.1 h.0) (right.1 h.1))

  pub cond-within : (x : Cond) → IsCond x
  cond-within x = ind-Cond IsCond (λ x y is. subst (λ z. IsCond (roll-Cond z)) is (cond-layer y)) x

  added-within : (xs : List Operand) → added_named counts xs ≡ true → operands_within count xs ≡ true
  added-within xs e = operands-within xs (and_parts (is_filled xs) (operands_named counts xs) e).1

  pub calc-within : (x : Calc) → calc_named counts x ≡ true → calc_within count x ≡ true
  calc-within (calc.Add parts) e = added-within parts e
  calc-within (calc.AddGiving parts) e = added-within parts e
  calc-within (calc.Subtract parts) e = added-within parts e
  calc-within (calc.SubtractGiving parts from) e = let h = and_parts (added_named counts parts) (operand_named counts from) e in both (added-within parts h.0) (operand-within from h.1)
  calc-within (calc.Multiply by) e = operand-within by e
  calc-within (calc.MultiplyGiving by what) e = let h = and_parts (operand_named counts by) (operand_named counts what) e in both (operand-within by h.0) (operand-within what h.1)
  calc-within (calc.Divide by) e = operand-within by e
  calc-within (calc.DivideGiving by what) e = let h = and_parts (operand_named counts by) (operand_named counts what) e in both (operand-within by h.0) (operand-within what h.1)
  calc-within (calc.Compute expr) e = expr-within expr e

  pub targets-within : (xs : List Target) → all (map (target_named counts) xs) ≡ true → targets_within count xs ≡ true
  targets-within = each-within (target_named counts) (λ target. place_within count target.place) (λ target. place-within target.place)

  pub subject-within : (x : Subject) → subject_named counts x ≡ true → subject_within count x ≡ true
  subject-within subject.True e = refl
  subject-within subject.False e = refl
  subject-within (subject.Value expr) e = expr-within expr e

  test-within : (x : Test) → test_named counts x ≡ true → test_within count x ≡ true
  test-within test.Any e = refl
  test-within (test.Holds cond) e = cond-within cond e
  test-within (test.Value not from to) e =
      let h = and_parts (expr_named counts from) (if_any (expr_named counts) to) e in
      both (expr-within from h.0) (any-within (expr_named counts) (expr_within count) expr-within to h.1)

  pub tests-within : (xs : List Test) → all (map (test_named counts) xs) ≡ true → all (map (test_within count) xs) ≡ true
  tests-within = each-within (test_named counts) (test_within count) test-within
