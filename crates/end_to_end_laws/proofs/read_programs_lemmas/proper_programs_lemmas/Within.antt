-- Places that are named are among the items, and literals name none.
use Rattle.std.proofs.Common.{◌≡◌, ℕ, Bool, true, ◌&&◌, List, [], ◌∷◌, map, Option, Some, None, refl, sym, ◌∙◌, subst}
use Rattle.std.proofs.lemmas.Bool.{and_parts}
use Rattle.cob_tree.specs.declared.entry.Entry.{Entry}
use Rattle.cob_tree.specs.declared.entry.Span.{Span}
use Rattle.cob_tree.specs.declared.file.FileEntry.{FileEntry}
use Rattle.cob_tree.specs.declared.number.Number.{Number}
use Rattle.cob_tree.specs.declared.place.Expr.{Expr, map-Expr, roll-Expr, fold-roll-Expr}
use Rattle.cob_tree.specs.declared.place.Expr.TheOpen.{Expr-F, Operand-F, Place-F, Sub-F, Window-F}
use Rattle.cob_tree.specs.declared.place.Operand.{Operand, out-Operand, fold_out-Operand, map-Operand, roll-Operand, fold-roll-Operand}
use Rattle.cob_tree.specs.declared.place.Place.{Place, ind-Place, map-Place, roll-Place, fold-roll-Place}
use Rattle.cob_tree.specs.declared.place.Sub.{Sub, map-Sub, roll-Sub, fold-roll-Sub}
use Rattle.cob_tree.specs.declared.place.Window.{Window, map-Window, roll-Window, fold-roll-Window}
use Rattle.control_flow_theory.specs.language.All.{all}
use Rattle.cobol_theory.specs.added_items.Within as within
use Rattle.cobol_theory.specs.added_items.Within.{place_within, operand_within, expr_within, sub_within, window_within, entries_within, files_within}
use Rattle.program_facts.specs.well_scoped.Part.{Counts, if_any, number_named, item_named, place_named, operand_named, expr_named, sub_named, window_named}
use Rattle.program_facts.specs.well_scoped.Part as part
use Rattle.program_facts.proofs.well_scoped_lemmas.Made.{both}
use Rattle.grammar_laws.specs.form_results.Numbered.{literal_step, is_literal}
use Rattle.grammar_laws.specs.well_scoped.named_entries.Entries.{span_literal, values_literal, file_named}

-- ---- places and expressions

module _ (counts : Counts) where
  abbrev IsExpr : Expr → Type 0
  IsExpr x = expr_named counts x ≡ true → (expr_within counts.items) x ≡ true

  abbrev SuchExpr : Type 0
  SuchExpr = (x : Expr) × IsExpr x

  abbrev IsOperand : Operand → Type 0
  IsOperand x = operand_named counts x ≡ true → (operand_within counts.items) x ≡ true

  abbrev SuchOperand : Type 0
  SuchOperand = (x : Operand) × IsOperand x

  abbrev IsPlace : Place → Type 0
  IsPlace x = place_named counts x ≡ true → (place_within counts.items) x ≡ true

  abbrev SuchPlace : Type 0
  SuchPlace = (x : Place) × IsPlace x

  abbrev IsSub : Sub → Type 0
  IsSub x = sub_named counts x ≡ true → (sub_within counts.items) x ≡ true

  abbrev SuchSub : Type 0
  SuchSub = (x : Sub) × IsSub x

  abbrev IsWindow : Window → Type 0
  IsWindow x = window_named counts x ≡ true → (window_within counts.items) x ≡ true

  abbrev SuchWindow : Type 0
  SuchWindow = (x : Window) × IsWindow x

  expr-by : (y : Expr-F Expr Operand Place Sub Window) →
      (part.expr_step counts (map-Expr Expr Operand Place Sub Window Bool Bool Bool Bool Bool (expr_named counts) (operand_named counts) (place_named counts) (sub_named counts) (window_named counts) y) ≡ true → (within.expr_step counts.items) (map-Expr Expr Operand Place Sub Window Bool Bool Bool Bool Bool (expr_within counts.items) (operand_within counts.items) (place_within counts.items) (sub_within counts.items) (window_within counts.items) y) ≡ true) →
      IsExpr (roll-Expr y)
  expr-by y h e = fold-roll-Expr Bool Bool Bool Bool Bool (within.expr_step counts.items) (within.operand_step counts.items) (within.place_step counts.items) (within.sub_step counts.items) (within.window_step counts.items) y ∙ h (sym (fold-roll-Expr Bool Bool Bool Bool Bool (part.expr_step counts) (part.operand_step counts) (part.place_step counts) (part.sub_step counts) (part.window_step counts) y) ∙ e)

  operand-by : (y : Operand-F Expr Operand Place Sub Window) →
      (part.operand_step counts (map-Operand Expr Operand Place Sub Window Bool Bool Bool Bool Bool (expr_named counts) (operand_named counts) (place_named counts) (sub_named counts) (window_named counts) y) ≡ true → (within.operand_step counts.items) (map-Operand Expr Operand Place Sub Window Bool Bool Bool Bool Bool (expr_within counts.items) (operand_within counts.items) (place_within counts.items) (sub_within counts.items) (window_within counts.items) y) ≡ true) →
      IsOperand (roll-Operand y)
  operand-by y h e = fold-roll-Operand Bool Bool Bool Bool Bool (within.expr_step counts.items) (within.operand_step counts.items) (within.place_step counts.items) (within.sub_step counts.items) (within.window_step counts.items) y ∙ h (sym (fold-roll-Operand Bool Bool Bool Bool Bool (part.expr_step counts) (part.operand_step counts) (part.place_step counts) (part.sub_step counts) (part.window_step counts) y) ∙ e)

  place-by : (y : Place-F Expr Operand Place Sub Window) →
      (part.place_step counts (map-Place Expr Operand Place Sub Window Bool Bool Bool Bool Bool (expr_named counts) (operand_named counts) (place_named counts) (sub_named counts) (window_named counts) y) ≡ true → (within.place_step counts.items) (map-Place Expr Operand Place Sub Window Bool Bool Bool Bool Bool (expr_within counts.items) (operand_within counts.items) (place_within counts.items) (sub_within counts.items) (window_within counts.items) y) ≡ true) →
      IsPlace (roll-Place y)
  place-by y h e = fold-roll-Place Bool Bool Bool Bool Bool (within.expr_step counts.items) (within.operand_step counts.items) (within.place_step counts.items) (within.sub_step counts.items) (within.window_step counts.items) y ∙ h (sym (fold-roll-Place Bool Bool Bool Bool Bool (part.expr_step counts) (part.operand_step counts) (part.place_step counts) (part.sub_step counts) (part.window_step counts) y) ∙ e)

  sub-by : (y : Sub-F Expr Operand Place Sub Window) →
      (part.sub_step counts (map-Sub Expr Operand Place Sub Window Bool Bool Bool Bool Bool (expr_named counts) (operand_named counts) (place_named counts) (sub_named counts) (window_named counts) y) ≡ true → (within.sub_step counts.items) (map-Sub Expr Operand Place Sub Window Bool Bool Bool Bool Bool (expr_within counts.items) (operand_within counts.items) (place_within counts.items) (sub_within counts.items) (window_within counts.items) y) ≡ true) →
      IsSub (roll-Sub y)
  sub-by y h e = fold-roll-Sub Bool Bool Bool Bool Bool (within.expr_step counts.items) (within.operand_step counts.items) (within.place_step counts.items) (within.sub_step counts.items) (within.window_step counts.items) y ∙ h (sym (fold-roll-Sub Bool Bool Bool Bool Bool (part.expr_step counts) (part.operand_step counts) (part.place_step counts) (part.sub_step counts) (part.window_step counts) y) ∙ e)

  window-by : (y : Window-F Expr Operand Place Sub Window) →
      (part.window_step counts (map-Window Expr Operand Place Sub Window Bool Bool Bool Bool Bool (expr_named counts) (operand_named counts) (place_named counts) (sub_named counts) (window_named counts) y) ≡ true → (within.window_step counts.items) (map-Window Expr Operand Place Sub Window Bool Bool Bool Bool Bool (expr_within counts.items) (operand_within counts.items) (place_within counts.items) (sub_within counts.items) (window_within counts.items) y) ≡ true) →
      IsWindow (roll-Window y)
  window-by y h e = fold-roll-Window Bool Bool Bool Bool Bool (within.expr_step counts.items) (within.operand_step counts.items) (within.place_step counts.items) (within.sub_step counts.items) (within.window_step counts.items) y ∙ h (sym (fold-roll-Window Bool Bool Bool Bool Bool (part.expr_step counts) (part.operand_step counts) (part.place_step counts) (part.sub_step counts) (part.window_step counts) y) ∙ e)

  expr-layer : (y : Expr-F SuchExpr SuchOperand SuchPlace SuchSub SuchWindow) → IsExpr (roll-Expr (map-Expr SuchExpr SuchOperand SuchPlace SuchSub SuchWindow Expr Operand Place Sub Window (λ e. e.0) (λ e. e.0) (λ e. e.0) (λ e. e.0) (λ e. e.0) y))
  expr-layer (Expr-F.Leaf operand) = expr-by (Expr-F.Leaf operand.0) operand.1
  expr-layer (Expr-F.Minus inner) = expr-by (Expr-F.Minus inner.0) inner.1
  expr-layer (Expr-F.Both op left right) =
      expr-by (Expr-F.Both op left.0 right.0) (λ e. let h = and_parts (expr_named counts left.0) (expr_named counts right.0) e in both (left.1 h.0) (right.1 h.1))

  operand-layer : (y : Operand-F SuchExpr SuchOperand SuchPlace SuchSub SuchWindow) → IsOperand (roll-Operand (map-Operand SuchExpr SuchOperand SuchPlace SuchSub SuchWindow Expr Operand Place Sub Window (λ e. e.0) (λ e. e.0) (λ e. e.0) (λ e. e.0) (λ e. e.0) y))
  operand-layer (Operand-F.Place place) = operand-by (Operand-F.Place place.0) place.1
  operand-layer (Operand-F.Number number) = operand-by (Operand-F.Number number) (λ e. refl)
  operand-layer (Operand-F.Text text) = operand-by (Operand-F.Text text) (λ e. refl)
  operand-layer (Operand-F.Figure figure) = operand-by (Operand-F.Figure figure) (λ e. refl)

  subs-within : (list : List SuchSub) → all (map (sub_named counts) (map (λ e. e.0) list)) ≡ true → all (map (sub_within counts.items) (map (λ e. e.0) list)) ≡ true
  subs-within [] e = refl
  subs-within (x ∷ list) e = let h = and_parts (sub_named counts x.0) (all (map (sub_named counts) (map (λ e. e.0) list))) e in both (x.1 h.0) (subs-within list h.1)

  place-layer : (item : ℕ) (of : List (List ℕ)) (subs : List SuchSub) (window : Option SuchWindow) →
      IsPlace (roll-Place (map-Place SuchExpr SuchOperand SuchPlace SuchSub SuchWindow Expr Operand Place Sub Window (λ e. e.0) (λ e. e.0) (λ e. e.0) (λ e. e.0) (λ e. e.0) (record { item = item; of = of; subs = subs; window = window })))
  place-layer item of subs None =
      place-by (record { item = item; of = of; subs = map (λ e. e.0) subs; window = None })
      (λ e. let h = and_parts (item_named counts item && all (map (sub_named counts) (map (λ e. e.0) subs))) true e in
      let k = and_parts (item_named counts item) (all (map (sub_named counts) (map (λ e. e.0) subs))) h.0 in
      both (both k.0 (subs-within subs k.1)) refl)
  place-layer item of subs (Some window) =
      place-by (record { item = item; of = of; subs = map (λ e. e.0) subs; window = Some window.0 })
      (λ e. let h = and_parts (item_named counts item && all (map (sub_named counts) (map (λ e. e.0) subs))) (window_named counts window.0) e in
      let k = and_parts (item_named counts item) (all (map (sub_named counts) (map (λ e. e.0) subs))) h.0 in
      both (both k.0 (subs-within subs k.1)) (window.1 h.1))

  sub-layer : (base : Option SuchPlace) (plus : Number) → IsSub (roll-Sub (map-Sub SuchExpr SuchOperand SuchPlace SuchSub SuchWindow Expr Operand Place Sub Window (λ e. e.0) (λ e. e.0) (λ e. e.0) (λ e. e.0) (λ e. e.0) (record { base = base; plus = plus })))
  sub-layer None plus = sub-by (record { base = None; plus = plus }) (λ e. refl)
  sub-layer (Some base) plus =
      sub-by (record { base = Some base.0; plus = plus }) (λ e. base.1 (and_parts (number_named plus) (place_named counts base.0) e).1)

  window-layer : (from : SuchExpr) (size : Option SuchExpr) → IsWindow (roll-Window (map-Window SuchExpr SuchOperand SuchPlace SuchSub SuchWindow Expr Operand Place Sub Window (λ e. e.0) (λ e. e.0) (λ e. e.0) (λ e. e.0) (λ e. e.0) (record { from = from; «length» = size })))
  window-layer from None =
      window-by (record { from = from.0; «length» = None }) (λ e. both (from.1 (and_parts (expr_named counts from.0) true e).0) refl)
  window-layer from (Some size) =
      window-by (record { from = from.0; «length» = Some size.0 })
      (λ e. let h = and_parts (expr_named counts from.0) (expr_named counts size.0) e in both (from.1 h.0) (size.1 h.1))

  place-within : (x : Place) → IsPlace x
  place-within x =
      ind-Place IsExpr IsOperand IsPlace IsSub IsWindow
      (λ x y is. subst (λ z. IsExpr (roll-Expr z)) is (expr-layer y))
      (λ x y is. subst (λ z. IsOperand (roll-Operand z)) is (operand-layer y))
      (λ x y is. subst (λ z. IsPlace (roll-Place z)) is (place-layer y.item y.of y.subs y.window))
      (λ x y is. subst (λ z. IsSub (roll-Sub z)) is (sub-layer y.base y.plus))
      (λ x y is. subst (λ z. IsWindow (roll-Window z)) is (window-layer y.from y.«length»)) x

  -- ---- files

  file-within : (status : Option Place) → if_any (place_named counts) status ≡ true → within.if_any counts.items (place_within counts.items) status ≡ true
  file-within None e = refl
  file-within (Some place) e = place-within place e

  pub files-within : (files : List FileEntry) → all (map (file_named counts) files) ≡ true → files_within counts.items files ≡ true
  files-within [] e = refl
  files-within (file ∷ files) e =
      let h = and_parts (file_named counts file) (all (map (file_named counts) files)) e in both (file-within file.status h.0) (files-within files h.1)

-- ---- literals

module _ (count : ℕ) where
  literal-step : (y : Operand-F Expr Operand Place Sub Window) → literal_step y ≡ true →
      within.operand_step count (map-Operand Expr Operand Place Sub Window Bool Bool Bool Bool Bool (expr_within count) (operand_within count) (place_within count) (sub_within count) (window_within count) y) ≡ true
  literal-step (Operand-F.Place place) e = absurd cc
  literal-step (Operand-F.Number number) e = refl
  literal-step (Operand-F.Text text) e = refl
  literal-step (Operand-F.Figure figure) e = refl

  literal-within : (operand : Operand) → is_literal operand ≡ true → operand_within count operand ≡ true
  literal-within operand e =
      fold_out-Operand Bool Bool Bool Bool Bool (within.expr_step count) (within.operand_step count) (within.place_step count) (within.sub_step count) (within.window_step count) operand
      ∙ literal-step (out-Operand operand) e

  to-within : (to : Option Operand) → if_any is_literal to ≡ true → within.if_any count (operand_within count) to ≡ true
  to-within None e = refl
  to-within (Some to) e = literal-within to e

  spans-within : (spans : List Span) → all (map span_literal spans) ≡ true → within.spans_within count spans ≡ true
  spans-within [] e = refl
  spans-within (span ∷ spans) e =
      let h = and_parts (span_literal span) (all (map span_literal spans)) e in
      let k = and_parts (is_literal span.from) (if_any is_literal span.to) h.0 in
      both (both (literal-within span.from k.0) (to-within span.to k.1)) (spans-within spans h.1)

  pub entries-within : (entries : List Entry) → all (map values_literal entries) ≡ true → entries_within count entries ≡ true
  entries-within [] e = refl
  entries-within (entry ∷ entries) e =
      let h = and_parts (values_literal entry) (all (map values_literal entries)) e in
      let k = and_parts (if_any is_literal entry.value) (all (map span_literal entry.ranges)) h.0 in
      both (spans-within entry.ranges k.1) (entries-within entries h.1)
