-- What is named names items of its own.
use Rattle.std.proofs.Common.{◌≡◌, ℕ, ◌^◌, ◌≤◌, ◌<◌, Bool, true, false, ◌&&◌, List, [], ◌∷◌, map, Option, Some, None, refl, ap, sym, ◌∙◌, subst, arith}
use Rattle.std.specs.Prelude.{nat_lt}
use Rattle.std.proofs.lemmas.Bool.{and_parts, lt-ltb, ltb-true}
use Rattle.cob_tree.specs.declared.calc.Calc.{Calc}
use Rattle.cob_tree.specs.declared.calc.Calc.TheVariants as calc
use Rattle.cob_tree.specs.declared.calc.Target.{Target}
use Rattle.cob_tree.specs.declared.choice.Subject.{Subject}
use Rattle.cob_tree.specs.declared.choice.Subject.TheVariants as subject
use Rattle.cob_tree.specs.declared.choice.Test.{Test}
use Rattle.cob_tree.specs.declared.choice.Test.TheVariants as test
use Rattle.cob_tree.specs.declared.cond.Cond.{Cond, ind-Cond, map-Cond, roll-Cond, fold-roll-Cond}
use Rattle.cob_tree.specs.declared.cond.Cond.TheOpen.{Cond-F}
use Rattle.cob_tree.specs.declared.control.Control.{Control}
use Rattle.cob_tree.specs.declared.control.Control.TheVariants as control
use Rattle.cob_tree.specs.declared.number.Number.{Number}
use Rattle.cob_tree.specs.declared.place.Expr.{Expr, ind-Expr, map-Expr, roll-Expr, fold-roll-Expr}
use Rattle.cob_tree.specs.declared.place.Expr.TheOpen.{Expr-F, Operand-F, Place-F, Sub-F, Window-F}
use Rattle.cob_tree.specs.declared.place.Operand.{Operand, ind-Operand, map-Operand, roll-Operand, fold-roll-Operand}
use Rattle.cob_tree.specs.declared.place.Place.{Place, ind-Place, map-Place, roll-Place, fold-roll-Place}
use Rattle.cob_tree.specs.declared.place.Sub.{Sub, map-Sub, roll-Sub, fold-roll-Sub}
use Rattle.cob_tree.specs.declared.place.Window.{Window, map-Window, roll-Window, fold-roll-Window}
use Rattle.cob_tree.specs.declared.program.Paragraph.{Paragraph}
use Rattle.cob_tree.specs.declared.program.Sentence.{Sentence}
use Rattle.cob_tree.specs.declared.stmt.Arms.{Arms, roll-Arms, map-Arms, fold-roll-Arms}
use Rattle.cob_tree.specs.declared.stmt.Stmt.{Stmt, ind-Stmt, map-Stmt, roll-Stmt, fold-roll-Stmt}
use Rattle.cob_tree.specs.declared.stmt.Stmt.TheOpen.{Stmt-F, Arms-F, When-F}
use Rattle.cob_tree.specs.declared.stmt.When.{When, roll-When, map-When, fold-roll-When}
use Rattle.control_flow_theory.specs.language.All.{all, all_if, if_there}
use Rattle.control_flow_theory.specs.language.OwnItems as own
use Rattle.control_flow_theory.specs.language.OwnItems.{operand_own, place_own, expr_own, sub_own, window_own, places_own, operands_own, option_own, cond_own, control_own, calc_own, target_own, subject_own, test_own, stmt_own, arms_own, when_own, stmts_own, sentences_own, paragraphs_own}
use Rattle.program_facts.specs.well_scoped.Part.{Counts, is_filled, if_any, number_named, item_named, file_named, place_named, operand_named, expr_named, sub_named, window_named, subs_named, places_named, operands_named}
use Rattle.program_facts.specs.well_scoped.Part as part
use Rattle.program_facts.specs.well_scoped.Beside.{turns, cond_named, control_named, calc_named, target_named, subject_named, test_named, added_named}
use Rattle.program_facts.specs.well_scoped.Beside as beside
use Rattle.program_facts.specs.well_scoped.Named.{Branch, arm, fit, stmt_step, arms_step, when_step, stmt_named, arms_named, when_seen, stmts_named, sentence_named, sentences_named, paragraphs_named}
use Rattle.program_facts.proofs.well_scoped_lemmas.Made.{both}

-- both halves of a test
first : (a b : Bool) → (a && b) ≡ true → a ≡ true
first a b e = (and_parts a b e).0

second : (a b : Bool) → (a && b) ≡ true → b ≡ true
second a b e = (and_parts a b e).1

-- a test of each follows from another
each : {X : Type 0} (p q : X → Bool) → ((x : X) → p x ≡ true → q x ≡ true) → (list : List X) → all (map p list) ≡ true → all (map q list) ≡ true
each p q h [] e = refl
each p q h (x ∷ list) e = let k = and_parts (p x) (all (map p list)) e in both (h x k.0) (each p q h list k.1)

any-own : {X : Type 0} (p q : X → Bool) → ((x : X) → p x ≡ true → q x ≡ true) → (o : Option X) → if_any p o ≡ true → option_own q o ≡ true
any-own p q h None e = refl
any-own p q h (Some x) e = h x e

module _ (counts : Counts) (few : counts.items ≤ 2 ^ 31) where
  abbrev IsExpr : Expr → Type 0
  IsExpr x = expr_named counts x ≡ true → expr_own x ≡ true

  abbrev SuchExpr : Type 0
  SuchExpr = (x : Expr) × IsExpr x

  abbrev IsOperand : Operand → Type 0
  IsOperand x = operand_named counts x ≡ true → operand_own x ≡ true

  abbrev SuchOperand : Type 0
  SuchOperand = (x : Operand) × IsOperand x

  abbrev IsPlace : Place → Type 0
  IsPlace x = place_named counts x ≡ true → place_own x ≡ true

  abbrev SuchPlace : Type 0
  SuchPlace = (x : Place) × IsPlace x

  abbrev IsSub : Sub → Type 0
  IsSub x = sub_named counts x ≡ true → sub_own x ≡ true

  abbrev SuchSub : Type 0
  SuchSub = (x : Sub) × IsSub x

  abbrev IsWindow : Window → Type 0
  IsWindow x = window_named counts x ≡ true → window_own x ≡ true

  abbrev SuchWindow : Type 0
  SuchWindow = (x : Window) × IsWindow x

  expr-by : (y : Expr-F Expr Operand Place Sub Window) →
      (part.expr_step counts (map-Expr Expr Operand Place Sub Window Bool Bool Bool Bool Bool (expr_named counts) (operand_named counts) (place_named counts) (sub_named counts) (window_named counts) y) ≡ true → own.expr_step (map-Expr Expr Operand Place Sub Window Bool Bool Bool Bool Bool expr_own operand_own place_own sub_own window_own y) ≡ true) →
      IsExpr (roll-Expr y)
  expr-by y h e = fold-roll-Expr Bool Bool Bool Bool Bool own.expr_step own.operand_step own.place_step own.sub_step own.window_step y ∙ h (sym (fold-roll-Expr Bool Bool Bool Bool Bool (part.expr_step counts) (part.operand_step counts) (part.place_step counts) (part.sub_step counts) (part.window_step counts) y) ∙ e)

  operand-by : (y : Operand-F Expr Operand Place Sub Window) →
      (part.operand_step counts (map-Operand Expr Operand Place Sub Window Bool Bool Bool Bool Bool (expr_named counts) (operand_named counts) (place_named counts) (sub_named counts) (window_named counts) y) ≡ true → own.operand_step (map-Operand Expr Operand Place Sub Window Bool Bool Bool Bool Bool expr_own operand_own place_own sub_own window_own y) ≡ true) →
      IsOperand (roll-Operand y)
  operand-by y h e = fold-roll-Operand Bool Bool Bool Bool Bool own.expr_step own.operand_step own.place_step own.sub_step own.window_step y ∙ h (sym (fold-roll-Operand Bool Bool Bool Bool Bool (part.expr_step counts) (part.operand_step counts) (part.place_step counts) (part.sub_step counts) (part.window_step counts) y) ∙ e)

  place-by : (y : Place-F Expr Operand Place Sub Window) →
      (part.place_step counts (map-Place Expr Operand Place Sub Window Bool Bool Bool Bool Bool (expr_named counts) (operand_named counts) (place_named counts) (sub_named counts) (window_named counts) y) ≡ true → own.place_step (map-Place Expr Operand Place Sub Window Bool Bool Bool Bool Bool expr_own operand_own place_own sub_own window_own y) ≡ true) →
      IsPlace (roll-Place y)
  place-by y h e = fold-roll-Place Bool Bool Bool Bool Bool own.expr_step own.operand_step own.place_step own.sub_step own.window_step y ∙ h (sym (fold-roll-Place Bool Bool Bool Bool Bool (part.expr_step counts) (part.operand_step counts) (part.place_step counts) (part.sub_step counts) (part.window_step counts) y) ∙ e)

  sub-by : (y : Sub-F Expr Operand Place Sub Window) →
      (part.sub_step counts (map-Sub Expr Operand Place Sub Window Bool Bool Bool Bool Bool (expr_named counts) (operand_named counts) (place_named counts) (sub_named counts) (window_named counts) y) ≡ true → own.sub_step (map-Sub Expr Operand Place Sub Window Bool Bool Bool Bool Bool expr_own operand_own place_own sub_own window_own y) ≡ true) →
      IsSub (roll-Sub y)
  sub-by y h e = fold-roll-Sub Bool Bool Bool Bool Bool own.expr_step own.operand_step own.place_step own.sub_step own.window_step y ∙ h (sym (fold-roll-Sub Bool Bool Bool Bool Bool (part.expr_step counts) (part.operand_step counts) (part.place_step counts) (part.sub_step counts) (part.window_step counts) y) ∙ e)

  window-by : (y : Window-F Expr Operand Place Sub Window) →
      (part.window_step counts (map-Window Expr Operand Place Sub Window Bool Bool Bool Bool Bool (expr_named counts) (operand_named counts) (place_named counts) (sub_named counts) (window_named counts) y) ≡ true → own.window_step (map-Window Expr Operand Place Sub Window Bool Bool Bool Bool Bool expr_own operand_own place_own sub_own window_own y) ≡ true) →
      IsWindow (roll-Window y)
  window-by y h e = fold-roll-Window Bool Bool Bool Bool Bool own.expr_step own.operand_step own.place_step own.sub_step own.window_step y ∙ h (sym (fold-roll-Window Bool Bool Bool Bool Bool (part.expr_step counts) (part.operand_step counts) (part.place_step counts) (part.sub_step counts) (part.window_step counts) y) ∙ e)

  expr-layer : (y : Expr-F SuchExpr SuchOperand SuchPlace SuchSub SuchWindow) → IsExpr (roll-Expr (map-Expr SuchExpr SuchOperand SuchPlace SuchSub SuchWindow Expr Operand Place Sub Window (λ e. e.0) (λ e. e.0) (λ e. e.0) (λ e. e.0) (λ e. e.0) y))
  expr-layer (Expr-F.Leaf operand) = expr-by (Expr-F.Leaf operand.0) operand.1
  expr-layer (Expr-F.Minus inner) = expr-by (Expr-F.Minus inner.0) inner.1
  expr-layer (Expr-F.Both op left right) =
      expr-by (Expr-F.Both op left.0 right.0) (λ e. let h = and_parts (expr_named counts left.0) (expr_named counts right.0) e in both (left.1 h.0) (right.1 h.1))

  operand-layer : (y : Operand-F SuchExpr SuchOperand SuchPlace SuchSub SuchWindow) → IsOperand (roll-Operand (map-Operand SuchExpr SuchOperand SuchPlace SuchSub SuchWindow Expr Operand Place Sub Window (λ e. e.0) (λ e. e.0) (λ e. e.0) (λ e. e.0) (λ e. e.0) y))
  operand-layer (Operand-F.Place place) = operand-by (Operand-F.Place place.0) place.1
  operand-layer (Operand-F.Number number) = operand-by (Operand-F.Number number) (λ e. refl)
  operand-layer (Operand-F.Text text) = operand-by (Operand-F.Text text) (λ e. refl)
  operand-layer (Operand-F.Figure figure) = operand-by (Operand-F.Figure figure) (λ e. refl)

  subs-own : (list : List SuchSub) → all (map (sub_named counts) (map (λ e. e.0) list)) ≡ true → all (map sub_own (map (λ e. e.0) list)) ≡ true
  subs-own [] e = refl
  subs-own (x ∷ list) e = let h = and_parts (sub_named counts x.0) (all (map (sub_named counts) (map (λ e. e.0) list))) e in both (x.1 h.0) (subs-own list h.1)

  item-own : (item : ℕ) → item_named counts item ≡ true → nat_lt item (2 ^ 31) ≡ true
  item-own item e = let below = ltb-true item counts.items e in lt-ltb item (2 ^ 31) (omega (arith, below, few))

  place-layer : (item : ℕ) (of : List (List ℕ)) (subs : List SuchSub) (window : Option SuchWindow) →
      IsPlace (roll-Place (map-Place SuchExpr SuchOperand SuchPlace SuchSub SuchWindow Expr Operand Place Sub Window (λ e. e.0) (λ e. e.0) (λ e. e.0) (λ e. e.0) (λ e. e.0) (record { item = item; of = of; subs = subs; window = window })))
  place-layer item of subs None =
      place-by (record { item = item; of = of; subs = map (λ e. e.0) subs; window = None })
      (λ e. let h = and_parts (item_named counts item && all (map (sub_named counts) (map (λ e. e.0) subs))) true e in
      let k = and_parts (item_named counts item) (all (map (sub_named counts) (map (λ e. e.0) subs))) h.0 in
      both (both (item-own item k.0) (subs-own subs k.1)) refl)
  place-layer item of subs (Some window) =
      place-by (record { item = item; of = of; subs = map (λ e. e.0) subs; window = Some window.0 })
      (λ e. let h = and_parts (item_named counts item && all (map (sub_named counts) (map (λ e. e.0) subs))) (window_named counts window.0) e in
      let k = and_parts (item_named counts item) (all (map (sub_named counts) (map (λ e. e.0) subs))) h.0 in
      both (both (item-own item k.0) (subs-own subs k.1)) (window.1 h.1))

  sub-layer : (base : Option SuchPlace) (plus : Number) → IsSub (roll-Sub (map-Sub SuchExpr SuchOperand SuchPlace SuchSub SuchWindow Expr Operand Place Sub Window (λ e. e.0) (λ e. e.0) (λ e. e.0) (λ e. e.0) (λ e. e.0) (record { base = base; plus = plus })))
  sub-layer None plus = sub-by (record { base = None; plus = plus }) (λ e. refl)
  sub-layer (Some base) plus =
      sub-by (record { base = Some base.0; plus = plus }) (λ e. base.1 (and_parts (number_named plus) (place_named counts base.0) e).1)

  window-layer : (from : SuchExpr) (size : Option SuchExpr) → IsWindow (roll-Window (map-Window SuchExpr SuchOperand SuchPlace SuchSub SuchWindow Expr Operand Place Sub Window (λ e. e.0) (λ e. e.0) (λ e. e.0) (λ e. e.0) (λ e. e.0) (record { from = from; «length» = size })))
  window-layer from None =
      window-by (record { from = from.0; «length» = None }) (λ e. both (from.1 (and_parts (expr_named counts from.0) true e).0) refl)
  window-layer from (Some size) =
      window-by (record { from = from.0; «length» = Some size.0 })
      (λ e. let h = and_parts (expr_named counts from.0) (expr_named counts size.0) e in both (from.1 h.0) (size.1 h.1))

  expr-own : (x : Expr) → IsExpr x
  expr-own x =
      ind-Expr IsExpr IsOperand IsPlace IsSub IsWindow
      (λ x y is. subst (λ z. IsExpr (roll-Expr z)) is (expr-layer y))
      (λ x y is. subst (λ z. IsOperand (roll-Operand z)) is (operand-layer y))
      (λ x y is. subst (λ z. IsPlace (roll-Place z)) is (place-layer y.item y.of y.subs y.window))
      (λ x y is. subst (λ z. IsSub (roll-Sub z)) is (sub-layer y.base y.plus))
      (λ x y is. subst (λ z. IsWindow (roll-Window z)) is (window-layer y.from y.«length»)) x

  operand-own : (x : Operand) → IsOperand x
  operand-own x =
      ind-Operand IsExpr IsOperand IsPlace IsSub IsWindow
      (λ x y is. subst (λ z. IsExpr (roll-Expr z)) is (expr-layer y))
      (λ x y is. subst (λ z. IsOperand (roll-Operand z)) is (operand-layer y))
      (λ x y is. subst (λ z. IsPlace (roll-Place z)) is (place-layer y.item y.of y.subs y.window))
      (λ x y is. subst (λ z. IsSub (roll-Sub z)) is (sub-layer y.base y.plus))
      (λ x y is. subst (λ z. IsWindow (roll-Window z)) is (window-layer y.from y.«length»)) x

  place-own : (x : Place) → IsPlace x
  place-own x =
      ind-Place IsExpr IsOperand IsPlace IsSub IsWindow
      (λ x y is. subst (λ z. IsExpr (roll-Expr z)) is (expr-layer y))
      (λ x y is. subst (λ z. IsOperand (roll-Operand z)) is (operand-layer y))
      (λ x y is. subst (λ z. IsPlace (roll-Place z)) is (place-layer y.item y.of y.subs y.window))
      (λ x y is. subst (λ z. IsSub (roll-Sub z)) is (sub-layer y.base y.plus))
      (λ x y is. subst (λ z. IsWindow (roll-Window z)) is (window-layer y.from y.«length»)) x

  -- ---- what stands beside them

  abbrev IsCond : Cond → Type 0
  IsCond x = cond_named counts x ≡ true → cond_own x ≡ true

  abbrev SuchCond : Type 0
  SuchCond = (x : Cond) × IsCond x

  cond-by : (y : Cond-F Cond) → (beside.cond_step counts (map-Cond Cond Bool (cond_named counts) y) ≡ true → own.cond_step (map-Cond Cond Bool cond_own y) ≡ true) → IsCond (roll-Cond y)
  cond-by y h e = fold-roll-Cond Bool own.cond_step y ∙ h (sym (fold-roll-Cond Bool (beside.cond_step counts) y) ∙ e)

  two : (left right : Expr) → (expr_named counts left && expr_named counts right) ≡ true → (expr_own left && expr_own right) ≡ true
  two left right e = let h = and_parts (expr_named counts left) (expr_named counts right) e in both (expr-own left h.0) (expr-own right h.1)

  cond-layer : (y : Cond-F SuchCond) → IsCond (roll-Cond (map-Cond SuchCond Cond (λ e. e.0) y))
  cond-layer (Cond-F.Relation left rel right) = cond-by (Cond-F.Relation left rel right) (two left right)
  cond-layer (Cond-F.Class place kind not) = cond-by (Cond-F.Class place kind not) (place-own place)
  cond-layer (Cond-F.SignIs expr kind not) = cond-by (Cond-F.SignIs expr kind not) (expr-own expr)
  cond-layer (Cond-F.Named place) = cond-by (Cond-F.Named place) (place-own place)
  cond-layer (Cond-F.Not inner) = cond-by (Cond-F.Not inner.0) inner.1
  cond-layer (Cond-F.And left right) =
      cond-by (Cond-F.And left.0 right.0) (λ e. let h = and_parts (cond_named counts left.0) (cond_named counts right.0) e in both (left.1 h.0) (right.1 h.1))
  cond-layer (Cond-F.Or left right) =
      cond-by (Cond-F.Or left.0 right.0) (λ e. let h = and_parts (cond_named counts left.0) (cond_named counts right.0) e in both (left.1 h.0) (right.1 h.1))

  cond-own : (x : Cond) → IsCond x
  cond-own x = ind-Cond IsCond (λ x y is. subst (λ z. IsCond (roll-Cond z)) is (cond-layer y)) x

  control-own : (x : Control) → control_named counts x ≡ true → control_own x ≡ true
  control-own control.Once e = refl
  control-own (control.Times amount) e = operand-own amount e
  control-own (control.Until after until) e = cond-own until e
  control-own (control.Varying after item from by until) e =
      let h = and_parts (place_named counts item && operand_named counts from && operand_named counts by) (cond_named counts until) e in
      let k = and_parts (place_named counts item && operand_named counts from) (operand_named counts by) h.0 in
      let l = and_parts (place_named counts item) (operand_named counts from) k.0 in
      both (both (both (place-own item l.0) (operand-own from l.1)) (operand-own by k.1)) (cond-own until h.1)

  operands-own : (list : List Operand) → operands_named counts list ≡ true → operands_own list ≡ true
  operands-own list e = each (operand_named counts) operand_own operand-own list e

  added-own : (list : List Operand) → added_named counts list ≡ true → operands_own list ≡ true
  added-own list e = operands-own list (and_parts (is_filled list) (operands_named counts list) e).1

  pair-own : (one other : Operand) → (operand_named counts one && operand_named counts other) ≡ true → (operand_own one && operand_own other) ≡ true
  pair-own one other e = let h = and_parts (operand_named counts one) (operand_named counts other) e in both (operand-own one h.0) (operand-own other h.1)

  calc-own : (x : Calc) → calc_named counts x ≡ true → calc_own x ≡ true
  calc-own (calc.Add parts) e = added-own parts e
  calc-own (calc.AddGiving parts) e = added-own parts e
  calc-own (calc.Subtract parts) e = added-own parts e
  calc-own (calc.SubtractGiving parts from) e =
      let h = and_parts (added_named counts parts) (operand_named counts from) e in both (added-own parts h.0) (operand-own from h.1)
  calc-own (calc.Multiply by) e = operand-own by e
  calc-own (calc.MultiplyGiving by what) e = pair-own by what e
  calc-own (calc.Divide by) e = operand-own by e
  calc-own (calc.DivideGiving by what) e = pair-own by what e
  calc-own (calc.Compute expr) e = expr-own expr e

  target-own : (x : Target) → target_named counts x ≡ true → target_own x ≡ true
  target-own x e = place-own x.place e

  subject-own : (x : Subject) → subject_named counts x ≡ true → subject_own x ≡ true
  subject-own subject.True e = refl
  subject-own subject.False e = refl
  subject-own (subject.Value expr) e = expr-own expr e

  test-own : (x : Test) → test_named counts x ≡ true → test_own x ≡ true
  test-own test.Any e = refl
  test-own (test.Holds cond) e = cond-own cond e
  test-own (test.Value not from to) e =
      let h = and_parts (expr_named counts from) (if_any (expr_named counts) to) e in
      both (expr-own from h.0) (any-own (expr_named counts) expr_own expr-own to h.1)

  -- ---- statements

  abbrev IsStmt : Stmt → Type 0
  IsStmt x = stmt_named counts x ≡ true → stmt_own x ≡ true

  abbrev IsArms : Arms → Type 0
  IsArms x = arms_named counts x ≡ true → arms_own x ≡ true

  abbrev IsWhen : When → Type 0
  IsWhen x = (when_seen counts x).named ≡ true → when_own x ≡ true

  abbrev SuchStmt : Type 0
  SuchStmt = (x : Stmt) × IsStmt x

  abbrev SuchArms : Type 0
  SuchArms = (x : Arms) × IsArms x

  abbrev SuchWhen : Type 0
  SuchWhen = (x : When) × IsWhen x

  abbrev plain : List SuchStmt → List Stmt
  plain list = map (λ e. e.0) list

  held-own : (list : List SuchStmt) → stmts_named counts (plain list) ≡ true → stmts_own (plain list) ≡ true
  held-own [] e = refl
  held-own (x ∷ list) e = let h = and_parts (stmt_named counts x.0) (stmts_named counts (plain list)) e in both (x.1 h.0) (held-own list h.1)

  arm-own : (list : List SuchStmt) → arm (map (stmt_named counts) (plain list)) ≡ true → stmts_own (plain list) ≡ true
  arm-own list e = held-own list (and_parts (is_filled (map (stmt_named counts) (plain list))) (stmts_named counts (plain list)) e).1

  whens-own : (list : List SuchWhen) → all (map (λ when. when.named) (map (when_seen counts) (map (λ e. e.0) list))) ≡ true → all (map when_own (map (λ e. e.0) list)) ≡ true
  whens-own [] e = refl
  whens-own (x ∷ list) e =
      let h = and_parts (when_seen counts x.0).named (all (map (λ when. when.named) (map (when_seen counts) (map (λ e. e.0) list)))) e in both (x.1 h.0) (whens-own list h.1)

  abbrev mapped : Stmt-F SuchStmt SuchArms SuchWhen → Stmt-F Stmt Arms When
  mapped = map-Stmt SuchStmt SuchArms SuchWhen Stmt Arms When (λ e. e.0) (λ e. e.0) (λ e. e.0)

  abbrev named : Stmt-F Stmt Arms When → Bool
  named y = stmt_step counts (map-Stmt Stmt Arms When Bool Bool Branch (stmt_named counts) (arms_named counts) (when_seen counts) y)

  abbrev owned : Stmt-F Stmt Arms When → Bool
  owned y = own.stmt_step (map-Stmt Stmt Arms When Bool Bool Bool stmt_own arms_own when_own y)

  stmt-step : (y : Stmt-F SuchStmt SuchArms SuchWhen) → named (mapped y) ≡ true → owned (mapped y) ≡ true
  stmt-step (Stmt-F.Display operands advance) e = operands-own operands (second (is_filled operands) (operands_named counts operands) e)
  stmt-step (Stmt-F.Move from to) e =
      let h = and_parts (operand_named counts from) (is_filled to && places_named counts to) e in
      both (operand-own from h.0) (each (place_named counts) place_own place-own to (second (is_filled to) (places_named counts to) h.1))
  stmt-step (Stmt-F.Arith calc into arms) e =
      let h = and_parts (calc_named counts calc && (is_filled into && all (map (target_named counts) into))) (arms_named counts arms.0) e in
      let k = and_parts (calc_named counts calc) (is_filled into && all (map (target_named counts) into)) h.0 in
      both (both (calc-own calc k.0) (each (target_named counts) target_own target-own into (second (is_filled into) (all (map (target_named counts) into)) k.1))) (arms.1 h.1)
  stmt-step (Stmt-F.SetTrue place) e = place-own place e
  stmt-step (Stmt-F.Opens openings) e = refl
  stmt-step (Stmt-F.Closes files) e = refl
  stmt-step (Stmt-F.Read file into arms) e =
      let h = and_parts (file_named counts file && if_any (place_named counts) into) (arms_named counts arms.0) e in
      both (any-own (place_named counts) place_own place-own into (second (file_named counts file) (if_any (place_named counts) into) h.0)) (arms.1 h.1)
  stmt-step (Stmt-F.Write entry from) e = any-own (operand_named counts) operand_own operand-own from (second (item_named counts entry) (if_any (operand_named counts) from) e)
  stmt-step (Stmt-F.Rewrite entry from) e = any-own (operand_named counts) operand_own operand-own from (second (item_named counts entry) (if_any (operand_named counts) from) e)
  stmt-step (Stmt-F.If cond met unmet) e =
      let h = and_parts (cond_named counts cond && arm (map (stmt_named counts) (plain met))) (stmts_named counts (plain unmet)) e in
      let k = and_parts (cond_named counts cond) (arm (map (stmt_named counts) (plain met))) h.0 in
      both (both (cond-own cond k.0) (arm-own met k.1)) (held-own unmet h.1)
  stmt-step (Stmt-F.Evaluate subject whens None) e =
      let seen = map (when_seen counts) (map (λ e. e.0) whens) in
      let h = and_parts (subject_named counts subject && (is_filled seen && all (map (λ when. when.named) seen)) && fit subject seen) true e in
      let k = and_parts (subject_named counts subject && (is_filled seen && all (map (λ when. when.named) seen))) (fit subject seen) h.0 in
      let l = and_parts (subject_named counts subject) (is_filled seen && all (map (λ when. when.named) seen)) k.0 in
      both (both (subject-own subject l.0) (whens-own whens (second (is_filled seen) (all (map (λ when. when.named) seen)) l.1))) refl
  stmt-step (Stmt-F.Evaluate subject whens (Some other)) e =
      let seen = map (when_seen counts) (map (λ e. e.0) whens) in
      let h = and_parts (subject_named counts subject && (is_filled seen && all (map (λ when. when.named) seen)) && fit subject seen) (arm (map (stmt_named counts) (plain other))) e in
      let k = and_parts (subject_named counts subject && (is_filled seen && all (map (λ when. when.named) seen))) (fit subject seen) h.0 in
      let l = and_parts (subject_named counts subject) (is_filled seen && all (map (λ when. when.named) seen)) k.0 in
      both (both (subject-own subject l.0) (whens-own whens (second (is_filled seen) (all (map (λ when. when.named) seen)) l.1))) (arm-own other h.1)
  stmt-step (Stmt-F.Loop control body) e =
      let h = and_parts (turns control && control_named counts control) (arm (map (stmt_named counts) (plain body))) e in
      both (control-own control (second (turns control) (control_named counts control) h.0)) (arm-own body h.1)
  stmt-step (Stmt-F.Perform entry exit control) e = control-own control (second _ (control_named counts control) e)
  stmt-step (Stmt-F.Go to) e = refl
  stmt-step (Stmt-F.GoDepending to on) e = place-own on (second _ (place_named counts on) e)
  stmt-step Stmt-F.NextSentence e = refl
  stmt-step Stmt-F.StopRun e = refl
  stmt-step Stmt-F.Exit e = refl
  stmt-step Stmt-F.ExitParagraph e = refl
  stmt-step Stmt-F.ExitSection e = refl
  stmt-step (Stmt-F.ExitPerform cycle) e = refl
  stmt-step Stmt-F.Continue e = refl

  stmt-layer : (y : Stmt-F SuchStmt SuchArms SuchWhen) → IsStmt (roll-Stmt (mapped y))
  stmt-layer y e =
      fold-roll-Stmt Bool Bool Bool own.stmt_step own.arms_step own.when_step (mapped y)
      ∙ stmt-step y (sym (fold-roll-Stmt Bool Bool Branch (stmt_step counts) (arms_step counts) (when_step counts) (mapped y)) ∙ e)

  arms-by : (y : Arms-F Stmt Arms When) →
      (arms_step counts (map-Arms Stmt Arms When Bool Bool Branch (stmt_named counts) (arms_named counts) (when_seen counts) y) ≡ true →
      own.arms_step (map-Arms Stmt Arms When Bool Bool Bool stmt_own arms_own when_own y) ≡ true) → IsArms (roll-Arms y)
  arms-by y h e =
      fold-roll-Arms Bool Bool Bool own.stmt_step own.arms_step own.when_step y
      ∙ h (sym (fold-roll-Arms Bool Bool Branch (stmt_step counts) (arms_step counts) (when_step counts) y) ∙ e)

  arms-layer : (one other : Option (List SuchStmt)) → IsArms (roll-Arms (map-Arms SuchStmt SuchArms SuchWhen Stmt Arms When (λ e. e.0) (λ e. e.0) (λ e. e.0) (record { first = one; second = other })))
  arms-layer None None = arms-by (record { first = None; second = None }) (λ e. refl)
  arms-layer None (Some other) = arms-by (record { first = None; second = Some (plain other) }) (λ e. arm-own other e)
  arms-layer (Some one) None =
      arms-by (record { first = Some (plain one); second = None }) (λ e. both (arm-own one (first (arm (map (stmt_named counts) (plain one))) true e)) refl)
  arms-layer (Some one) (Some other) =
      arms-by (record { first = Some (plain one); second = Some (plain other) })
      (λ e. let h = and_parts (arm (map (stmt_named counts) (plain one))) (arm (map (stmt_named counts) (plain other))) e in both (arm-own one h.0) (arm-own other h.1))

  when-layer : (tests : List Test) (stmts : List SuchStmt) → IsWhen (roll-When (map-When SuchStmt SuchArms SuchWhen Stmt Arms When (λ e. e.0) (λ e. e.0) (λ e. e.0) (record { tests = tests; stmts = stmts })))
  when-layer tests stmts e =
      let y : When-F Stmt Arms When = record { tests = tests; stmts = plain stmts } in
      let h = and_parts (is_filled tests && all (map (test_named counts) tests)) (arm (map (stmt_named counts) (plain stmts)))
      (sym (ap (λ b. b.named) (fold-roll-When Bool Bool Branch (stmt_step counts) (arms_step counts) (when_step counts) y)) ∙ e) in
      fold-roll-When Bool Bool Bool own.stmt_step own.arms_step own.when_step y
      ∙ both (each (test_named counts) test_own test-own tests (second (is_filled tests) (all (map (test_named counts) tests)) h.0)) (arm-own stmts h.1)

  stmt-own : (x : Stmt) → IsStmt x
  stmt-own x =
      ind-Stmt IsStmt IsArms IsWhen
      (λ x y is. subst (λ z. IsStmt (roll-Stmt z)) is (stmt-layer y))
      (λ x y is. subst (λ z. IsArms (roll-Arms z)) is (arms-layer y.first y.second))
      (λ x y is. subst (λ z. IsWhen (roll-When z)) is (when-layer y.tests y.stmts)) x

  sentence-own : (x : Sentence) → sentence_named counts x ≡ true → stmts_own x.stmts ≡ true
  sentence-own x e = each (stmt_named counts) stmt_own stmt-own x.stmts (second (is_filled x.stmts) (stmts_named counts x.stmts) e)

  paragraph-own : (x : Paragraph) → sentences_named counts x.sentences ≡ true → sentences_own x.sentences ≡ true
  paragraph-own x e = each (sentence_named counts) (λ sentence. stmts_own sentence.stmts) sentence-own x.sentences e

  pub paragraphs-own : (list : List Paragraph) → paragraphs_named counts list ≡ true → paragraphs_own list ≡ true
  paragraphs-own list e = each (λ paragraph. sentences_named counts paragraph.sentences) (λ paragraph. sentences_own paragraph.sentences) paragraph-own list e
