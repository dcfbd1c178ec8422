-- Places and expressions of the program: the same is reached, and they are worth the same.
use Rattle.std.proofs.Common.{◌≡◌, ℕ, ◌<◌, nat_lt, Bool, true, ◌&&◌, List, [], ◌∷◌, ◌++◌, length, map, Option, Some, None, refl, ap, sym, ◌∙◌, subst, ltb-true}
use Rattle.std.specs.Prelude.{Ok, Err, slice_get}
use Rattle.std.proofs.lemmas.Bool.{and_parts}
use Rattle.cob_tree.specs.declared.place.Figure.TheVariants as figures
use Rattle.cob_tree.specs.declared.number.Number.{Number}
use Rattle.cob_tree.specs.declared.place.Expr.{Expr, ind-Expr, map-Expr, roll-Expr, fold-roll-Expr}
use Rattle.cob_tree.specs.declared.place.Operand.{Operand, ind-Operand, map-Operand, roll-Operand, fold-roll-Operand}
use Rattle.cob_tree.specs.declared.place.Place.{Place, ind-Place, map-Place, roll-Place, fold-roll-Place}
use Rattle.cob_tree.specs.declared.place.Sub.{Sub, map-Sub, roll-Sub, fold-roll-Sub}
use Rattle.cob_tree.specs.declared.place.Window.{Window, map-Window, roll-Window, fold-roll-Window}
use Rattle.cob_tree.specs.declared.place.Expr.TheOpen.{Expr-F, Operand-F, Place-F, Sub-F, Window-F}
use Rattle.cob_store.specs.declared.area.Area.{Area}
use Rattle.cob_store.specs.declared.area.Dim.{Dim}
use Rattle.cob_store.specs.declared.area.Form.{Form}
use Rattle.cob_store.specs.declared.area.Form.TheVariants as forms
use Rattle.cob_store.specs.declared.spot.Spot.{Spot}
use Rattle.cob_store.specs.declared.spot.Reached.{Reached}
use Rattle.cob_store.specs.Answer.{Answer, and_then}
use Rattle.cob_store.specs.Store.{Roots}
use Rattle.cob_store.specs.Place as place
use Rattle.cob_store.specs.Place.{Memory, memory_of, Value, OfMemory, number_at, place_number, negated, calculated, sum_by, literal_value, offset_in, kept_behind, offsets_behind, occurrence_at, subscripted, long_by, spot_from, spot_long, windowed_by, reached_in, reached, sub_value, window_of, operand_value, expr_value}
use Rattle.control_flow_theory.specs.language.All.{all, if_there}
use Rattle.cobol_theory.specs.added_items.Within as within
use Rattle.cobol_theory.specs.added_items.Within.{place_within, operand_within, expr_within, sub_within, window_within}
use Rattle.cobol_theory.specs.added_items.Widened.{AreInside, beside}
use Rattle.cobol_theory.proofs.added_items_lemmas.Bytes.{get-append, number-same}

-- what is reached has a root that is stored
abbrev pub IsRooted : Roots → Answer Reached → Type 0
IsRooted store (Ok reached) = reached.spot.root < length store
IsRooted store (Err abend) = Unit {0}

abbrev pub IsOfRoot : ℕ → Answer Spot → Type 0
IsOfRoot root (Ok spot) = spot.root ≡ root
IsOfRoot root (Err abend) = Unit {0}

-- the same first part, and then the same of what it answers
pub then-same : {A B : Type 0} (x : Answer A) (f g : A → Answer B) → ((a : A) → f a ≡ g a) → and_then x f ≡ and_then x g
then-same (Ok a) f g h = h a
then-same (Err abend) f g h = refl

pub then-root : {A : Type 0} (root : ℕ) (x : Answer A) (f : A → Answer Spot) → ((a : A) → IsOfRoot root (f a)) → IsOfRoot root (and_then x f)
then-root root (Ok a) f h = h a
then-root root (Err abend) f h = tt

module _ (areas more : List Area) (store tail : Roots) (inside : AreInside areas store) where
  abbrev pub here : Memory
  here = memory_of areas store

  abbrev pub there : Memory
  there = beside more tail here

  abbrev Step : Type 0
  Step = Memory → Spot → Answer Spot

  abbrev SameExpr : Expr → Type 0
  SameExpr expr = expr_within (length areas) expr ≡ true → expr_value expr there ≡ expr_value expr here

  abbrev SameOperand : Operand → Type 0
  SameOperand operand = operand_within (length areas) operand ≡ true → operand_value operand there ≡ operand_value operand here

  pub record FoundBy (find : OfMemory Reached) : Type 0 where
    pub same : find there ≡ find here
    pub rooted : IsRooted store (find here)

  abbrev pub Found : Place → Type 0
  Found place = FoundBy (reached place)

  abbrev SamePlace : Place → Type 0
  SamePlace place = place_within (length areas) place ≡ true → Found place

  abbrev SameSub : Sub → Type 0
  SameSub sub = sub_within (length areas) sub ≡ true → sub_value sub there ≡ sub_value sub here

  record PartBy (find : Step) (spot : Spot) : Type 0 where
    same : find there spot ≡ find here spot
    rooted : IsOfRoot spot.root (find here spot)

  abbrev SameWindow : Window → Type 0
  SameWindow window = window_within (length areas) window ≡ true → (spot : Spot) → PartBy (window_of window) spot

  abbrev SuchExpr : Type 0
  SuchExpr = (expr : Expr) × SameExpr expr

  abbrev SuchOperand : Type 0
  SuchOperand = (operand : Operand) × SameOperand operand

  abbrev SuchPlace : Type 0
  SuchPlace = (place : Place) × SamePlace place

  abbrev SuchSub : Type 0
  SuchSub = (sub : Sub) × SameSub sub

  abbrev SuchWindow : Type 0
  SuchWindow = (window : Window) × SameWindow window

  number-found : (r : Answer Reached) → IsRooted store r →
      and_then r (λ r. number_at (store ++ tail) r.spot r.form) ≡ and_then r (λ r. number_at store r.spot r.form)
  number-found (Ok r) h = number-same store tail r.spot r.form h
  number-found (Err abend) h = refl

  pub number-there : (find : OfMemory Reached) → FoundBy find → place_number find there ≡ place_number find here
  number-there find found =
      ap (λ r. and_then r (λ r. number_at (store ++ tail) r.spot r.form)) found.same ∙ number-found (find here) found.rooted

  -- expressions

  expr-by : (y : Expr-F Expr Operand Place Sub Window) →
      (within.expr_step (length areas) (map-Expr Expr Operand Place Sub Window Bool Bool Bool Bool Bool (expr_within (length areas)) (operand_within (length areas)) (place_within (length areas)) (sub_within (length areas)) (window_within (length areas)) y) ≡ true →
      place.expr_step (map-Expr Expr Operand Place Sub Window (OfMemory Value) (OfMemory Value) (OfMemory Reached) (OfMemory Value) Step expr_value operand_value reached sub_value window_of y) there
      ≡ place.expr_step (map-Expr Expr Operand Place Sub Window (OfMemory Value) (OfMemory Value) (OfMemory Reached) (OfMemory Value) Step expr_value operand_value reached sub_value window_of y) here) →
      SameExpr (roll-Expr y)
  expr-by y h e =
      let rolled = fold-roll-Expr (OfMemory Value) (OfMemory Value) (OfMemory Reached) (OfMemory Value) Step place.expr_step place.operand_step place.place_step place.sub_step place.window_step y in
      ap (λ f. f there) rolled
      ∙ h (sym (fold-roll-Expr Bool Bool Bool Bool Bool (within.expr_step (length areas)) (within.operand_step (length areas)) (within.place_step (length areas)) (within.sub_step (length areas)) (within.window_step (length areas)) y) ∙ e)
      ∙ sym (ap (λ f. f here) rolled)

  expr-layer : (y : Expr-F SuchExpr SuchOperand SuchPlace SuchSub SuchWindow) →
      SameExpr (roll-Expr (map-Expr SuchExpr SuchOperand SuchPlace SuchSub SuchWindow Expr Operand Place Sub Window (λ e. e.0) (λ e. e.0) (λ e. e.0) (λ e. e.0) (λ e. e.0) y))
  expr-layer (Expr-F.Leaf operand) = expr-by (Expr-F.Leaf operand.0) operand.1
  expr-layer (Expr-F.Minus inner) = expr-by (Expr-F.Minus inner.0) (λ e. ap (λ v. and_then v (λ a. Ok (negated a))) (inner.1 e))
  expr-layer (Expr-F.Both op left right) =
      expr-by (Expr-F.Both op left.0 right.0)
      (λ e. let h = and_parts (expr_within (length areas) left.0) (expr_within (length areas) right.0) e in
      ap (λ v. and_then v (λ a. and_then (expr_value right.0 there) (λ b. Ok (calculated op a b)))) (left.1 h.0)
      ∙ ap (λ v. and_then (expr_value left.0 here) (λ a. and_then v (λ b. Ok (calculated op a b)))) (right.1 h.1))

  -- operands

  operand-by : (y : Operand-F Expr Operand Place Sub Window) →
      (within.operand_step (length areas) (map-Operand Expr Operand Place Sub Window Bool Bool Bool Bool Bool (expr_within (length areas)) (operand_within (length areas)) (place_within (length areas)) (sub_within (length areas)) (window_within (length areas)) y) ≡ true →
      place.operand_step (map-Operand Expr Operand Place Sub Window (OfMemory Value) (OfMemory Value) (OfMemory Reached) (OfMemory Value) Step expr_value operand_value reached sub_value window_of y) there
      ≡ place.operand_step (map-Operand Expr Operand Place Sub Window (OfMemory Value) (OfMemory Value) (OfMemory Reached) (OfMemory Value) Step expr_value operand_value reached sub_value window_of y) here) →
      SameOperand (roll-Operand y)
  operand-by y h e =
      let rolled = fold-roll-Operand (OfMemory Value) (OfMemory Value) (OfMemory Reached) (OfMemory Value) Step place.expr_step place.operand_step place.place_step place.sub_step place.window_step y in
      ap (λ f. f there) rolled
      ∙ h (sym (fold-roll-Operand Bool Bool Bool Bool Bool (within.expr_step (length areas)) (within.operand_step (length areas)) (within.place_step (length areas)) (within.sub_step (length areas)) (within.window_step (length areas)) y) ∙ e)
      ∙ sym (ap (λ f. f here) rolled)

  operand-layer : (y : Operand-F SuchExpr SuchOperand SuchPlace SuchSub SuchWindow) →
      SameOperand (roll-Operand (map-Operand SuchExpr SuchOperand SuchPlace SuchSub SuchWindow Expr Operand Place Sub Window (λ e. e.0) (λ e. e.0) (λ e. e.0) (λ e. e.0) (λ e. e.0) y))
  operand-layer (Operand-F.Place place) = operand-by (Operand-F.Place place.0) (λ e. number-there (reached place.0) (place.1 e))
  operand-layer (Operand-F.Number number) = operand-by (Operand-F.Number number) (λ e. refl)
  operand-layer (Operand-F.Text text) = operand-by (Operand-F.Text text) (λ e. refl)
  operand-layer (Operand-F.Figure figures.Zero) = operand-by (Operand-F.Figure figures.Zero) (λ e. refl)
  operand-layer (Operand-F.Figure figures.Space) = operand-by (Operand-F.Figure figures.Space) (λ e. refl)
  operand-layer (Operand-F.Figure figures.HighValue) = operand-by (Operand-F.Figure figures.HighValue) (λ e. refl)
  operand-layer (Operand-F.Figure figures.LowValue) = operand-by (Operand-F.Figure figures.LowValue) (λ e. refl)
  operand-layer (Operand-F.Figure figures.Quote) = operand-by (Operand-F.Figure figures.Quote) (λ e. refl)

  -- subscripts

  sub-by : (y : Sub-F Expr Operand Place Sub Window) →
      (within.sub_step (length areas) (map-Sub Expr Operand Place Sub Window Bool Bool Bool Bool Bool (expr_within (length areas)) (operand_within (length areas)) (place_within (length areas)) (sub_within (length areas)) (window_within (length areas)) y) ≡ true →
      place.sub_step (map-Sub Expr Operand Place Sub Window (OfMemory Value) (OfMemory Value) (OfMemory Reached) (OfMemory Value) Step expr_value operand_value reached sub_value window_of y) there
      ≡ place.sub_step (map-Sub Expr Operand Place Sub Window (OfMemory Value) (OfMemory Value) (OfMemory Reached) (OfMemory Value) Step expr_value operand_value reached sub_value window_of y) here) →
      SameSub (roll-Sub y)
  sub-by y h e =
      let rolled = fold-roll-Sub (OfMemory Value) (OfMemory Value) (OfMemory Reached) (OfMemory Value) Step place.expr_step place.operand_step place.place_step place.sub_step place.window_step y in
      ap (λ f. f there) rolled
      ∙ h (sym (fold-roll-Sub Bool Bool Bool Bool Bool (within.expr_step (length areas)) (within.operand_step (length areas)) (within.place_step (length areas)) (within.sub_step (length areas)) (within.window_step (length areas)) y) ∙ e)
      ∙ sym (ap (λ f. f here) rolled)

  sub-layer : (base : Option SuchPlace) (plus : Number) →
      SameSub (roll-Sub (map-Sub SuchExpr SuchOperand SuchPlace SuchSub SuchWindow Expr Operand Place Sub Window (λ e. e.0) (λ e. e.0) (λ e. e.0) (λ e. e.0) (λ e. e.0) (record { base = base; plus = plus })))
  sub-layer None plus = sub-by (record { base = None; plus = plus }) (λ e. refl)
  sub-layer (Some base) plus =
      sub-by (record { base = Some base.0; plus = plus })
      (λ e. ap (λ v. and_then v (λ value. Ok (sum_by value (literal_value plus)))) (number-there (reached base.0) (base.1 e)))

  -- windows

  window-by : (y : Window-F Expr Operand Place Sub Window) →
      (within.window_step (length areas) (map-Window Expr Operand Place Sub Window Bool Bool Bool Bool Bool (expr_within (length areas)) (operand_within (length areas)) (place_within (length areas)) (sub_within (length areas)) (window_within (length areas)) y) ≡ true →
      (spot : Spot) → PartBy (place.window_step (map-Window Expr Operand Place Sub Window (OfMemory Value) (OfMemory Value) (OfMemory Reached) (OfMemory Value) Step expr_value operand_value reached sub_value window_of y)) spot) →
      SameWindow (roll-Window y)
  window-by y h e spot =
      subst (λ find. PartBy find spot)
      (sym (fold-roll-Window (OfMemory Value) (OfMemory Value) (OfMemory Reached) (OfMemory Value) Step place.expr_step place.operand_step place.place_step place.sub_step place.window_step y))
      (h (sym (fold-roll-Window Bool Bool Bool Bool Bool (within.expr_step (length areas)) (within.operand_step (length areas)) (within.place_step (length areas)) (within.sub_step (length areas)) (within.window_step (length areas)) y) ∙ e) spot)

  -- a length after the start
  abbrev plain_size : Option SuchExpr → Option (OfMemory Value)
  plain_size None = None
  plain_size (Some size) = Some (expr_value size.0)

  abbrev size_within : Option SuchExpr → Option Bool
  size_within None = None
  size_within (Some size) = Some (expr_within (length areas) size.0)

  long-same : (size : Option SuchExpr) → if_there (size_within size) ≡ true → (spot : Spot) → long_by there (plain_size size) spot ≡ long_by here (plain_size size) spot
  long-same None e spot = refl
  long-same (Some size) e spot =
      ap (λ v. and_then v (λ value. and_then (offset_in value spot.length) (λ offset. Ok (spot_long spot offset)))) (size.1 e)

  long-root : (size : Option SuchExpr) (spot : Spot) → IsOfRoot spot.root (long_by here (plain_size size) spot)
  long-root None spot = refl
  long-root (Some size) spot =
      then-root spot.root (expr_value size.0 here) (λ value. and_then (offset_in value spot.length) (λ offset. Ok (spot_long spot offset)))
      (λ value. then-root spot.root (offset_in value spot.length) (λ offset. Ok (spot_long spot offset)) (λ offset. refl))

  windowed : (from : SuchExpr) (size : Option SuchExpr) → expr_within (length areas) from.0 ≡ true → if_there (size_within size) ≡ true → (spot : Spot) →
      PartBy (λ memory spot. and_then (expr_value from.0 memory) (λ value. and_then (offset_in value spot.length) (λ offset. long_by memory (plain_size size) (spot_from spot offset)))) spot
  windowed from size first second spot = record {
    same =
        ap (λ v. and_then v (λ value. and_then (offset_in value spot.length) (λ offset. long_by there (plain_size size) (spot_from spot offset)))) (from.1 first)
        ∙ then-same (expr_value from.0 here) _ _ (λ value. then-same (offset_in value spot.length) _ _ (λ offset. long-same size second (spot_from spot offset)));
    rooted =
        then-root spot.root (expr_value from.0 here) (λ value. and_then (offset_in value spot.length) (λ offset. long_by here (plain_size size) (spot_from spot offset)))
        (λ value. then-root spot.root (offset_in value spot.length) (λ offset. long_by here (plain_size size) (spot_from spot offset)) (λ offset. long-root size (spot_from spot offset)));
  }

  window-layer : (from : SuchExpr) (size : Option SuchExpr) →
      SameWindow (roll-Window (map-Window SuchExpr SuchOperand SuchPlace SuchSub SuchWindow Expr Operand Place Sub Window (λ e. e.0) (λ e. e.0) (λ e. e.0) (λ e. e.0) (λ e. e.0) (record { from = from; «length» = size })))
  window-layer from None =
      window-by (record { from = from.0; «length» = None })
      (λ e spot. let h = and_parts (expr_within (length areas) from.0) true e in windowed from None h.0 h.1 spot)
  window-layer from (Some size) =
      window-by (record { from = from.0; «length» = Some size.0 })
      (λ e spot. let h = and_parts (expr_within (length areas) from.0) (expr_within (length areas) size.0) e in windowed from (Some size) h.0 h.1 spot)

  -- places

  place-by : (y : Place-F Expr Operand Place Sub Window) →
      (within.place_step (length areas) (map-Place Expr Operand Place Sub Window Bool Bool Bool Bool Bool (expr_within (length areas)) (operand_within (length areas)) (place_within (length areas)) (sub_within (length areas)) (window_within (length areas)) y) ≡ true →
      FoundBy (place.place_step (map-Place Expr Operand Place Sub Window (OfMemory Value) (OfMemory Value) (OfMemory Reached) (OfMemory Value) Step expr_value operand_value reached sub_value window_of y))) →
      SamePlace (roll-Place y)
  place-by y h e =
      subst FoundBy
      (sym (fold-roll-Place (OfMemory Value) (OfMemory Value) (OfMemory Reached) (OfMemory Value) Step place.expr_step place.operand_step place.place_step place.sub_step place.window_step y))
      (h (sym (fold-roll-Place Bool Bool Bool Bool Bool (within.expr_step (length areas)) (within.operand_step (length areas)) (within.place_step (length areas)) (within.sub_step (length areas)) (within.window_step (length areas)) y) ∙ e))

  abbrev plain_subs : List SuchSub → List (OfMemory Value)
  plain_subs subs = map sub_value (map (λ e. e.0) subs)

  abbrev subs_within : List SuchSub → List Bool
  subs_within subs = map (sub_within (length areas)) (map (λ e. e.0) subs)

  offsets-same : (subs : List SuchSub) → all (subs_within subs) ≡ true → (dims : List Dim) (read : List ℕ) →
      offsets_behind there read (plain_subs subs) dims ≡ offsets_behind here read (plain_subs subs) dims
  offsets-same [] e dims read = refl
  offsets-same (sub ∷ subs) e [] read = refl
  offsets-same (sub ∷ subs) e (dim ∷ dims) read =
      let h = and_parts (sub_within (length areas) sub.0) (all (subs_within subs)) e in
      ap (λ v. and_then v (λ value. and_then (offset_in value dim.count) (λ offset. and_then (kept_behind read offset) (λ now. offsets_behind there now (plain_subs subs) dims)))) (sub.1 h.0)
      ∙ then-same (sub_value sub.0 here) _ _ (λ value. then-same (offset_in value dim.count) _ _ (λ offset. then-same (kept_behind read offset) _ _ (λ now. offsets-same subs h.1 dims now)))

  abbrev plain_window : Option SuchWindow → Option Step
  plain_window None = None
  plain_window (Some window) = Some (window_of window.0)

  abbrev window_if : Option SuchWindow → Option Bool
  window_if None = None
  window_if (Some window) = Some (window_within (length areas) window.0)

  window-same : (window : Option SuchWindow) → if_there (window_if window) ≡ true → (spot : Spot) (form : Form) →
      windowed_by there (plain_window window) spot form ≡ windowed_by here (plain_window window) spot form
  window-same None e spot form = refl
  window-same (Some window) e spot form = ap (λ part. and_then part (λ part. Ok (record { spot = part; form = forms.Text }))) (window.1 e spot).same

  rooted-part : (root : ℕ) (part : Answer Spot) → IsOfRoot root part → root < length store → IsRooted store (and_then part (λ part. Ok (record { spot = part; form = forms.Text })))
  rooted-part root (Ok part) same h = subst (λ r. r < length store) (sym same) h
  rooted-part root (Err abend) same h = tt

  window-rooted : (window : Option SuchWindow) → if_there (window_if window) ≡ true → (spot : Spot) (form : Form) → spot.root < length store →
      IsRooted store (windowed_by here (plain_window window) spot form)
  window-rooted None e spot form h = h
  window-rooted (Some window) e spot form h = rooted-part spot.root (window_of window.0 here spot) (window.1 e spot).rooted h

  rooted-then : {A : Type 0} (x : Answer A) (f : A → Answer Reached) → ((a : A) → IsRooted store (f a)) → IsRooted store (and_then x f)
  rooted-then (Ok a) f h = h a
  rooted-then (Err abend) f h = tt

  reached-found : (subs : List SuchSub) (window : Option SuchWindow) → all (subs_within subs) ≡ true → if_there (window_if window) ≡ true →
      (area : Option Area) → ((a : Area) → area ≡ Some a → a.root < length store) →
      (reached_in there (plain_subs subs) (plain_window window) area ≡ reached_in here (plain_subs subs) (plain_window window) area)
      × IsRooted store (reached_in here (plain_subs subs) (plain_window window) area)
  reached-found subs window first second None h = (refl, tt)
  reached-found subs window first second (Some area) h = (
    ap (λ o. and_then (and_then o (λ offsets. Ok (occurrence_at offsets area.dims area.start))) (λ start. windowed_by there (plain_window window) (place.spot_of area start) area.form)) (offsets-same subs first area.dims [])
        ∙ then-same (subscripted here (plain_subs subs) area.dims area.start) _ _ (λ start. window-same window second (place.spot_of area start) area.form),
    rooted-then (subscripted here (plain_subs subs) area.dims area.start) (λ start. windowed_by here (plain_window window) (place.spot_of area start) area.form)
        (λ start. window-rooted window second (place.spot_of area start) area.form (h area refl)),
  )

  place-found : (item : ℕ) (subs : List SuchSub) (window : Option SuchWindow) →
      (nat_lt item (length areas) && all (subs_within subs) && if_there (window_if window)) ≡ true →
      FoundBy (λ memory. reached_in memory (plain_subs subs) (plain_window window) (slice_get memory.areas item))
  place-found item subs window e =
      let outer = and_parts (nat_lt item (length areas) && all (subs_within subs)) (if_there (window_if window)) e in
      let h = and_parts (nat_lt item (length areas)) (all (subs_within subs)) outer.0 in
      let found = reached-found subs window h.1 outer.1 (slice_get areas item) (inside item) in
      record {
        same = ap (reached_in there (plain_subs subs) (plain_window window)) (get-append areas more item (ltb-true item (length areas) h.0)) ∙ found.0;
        rooted = found.1;
      }

  place-layer : (item : ℕ) (of : List (List ℕ)) (subs : List SuchSub) (window : Option SuchWindow) →
      SamePlace (roll-Place (map-Place SuchExpr SuchOperand SuchPlace SuchSub SuchWindow Expr Operand Place Sub Window (λ e. e.0) (λ e. e.0) (λ e. e.0) (λ e. e.0) (λ e. e.0) (record { item = item; of = of; subs = subs; window = window })))
  place-layer item of subs None =
      place-by (record { item = item; of = of; subs = map (λ e. e.0) subs; window = None }) (place-found item subs None)
  place-layer item of subs (Some window) =
      place-by (record { item = item; of = of; subs = map (λ e. e.0) subs; window = Some window.0 }) (place-found item subs (Some window))

  expr-cycle : (x : Expr-F Expr Operand Place Sub Window) (y : Expr-F SuchExpr SuchOperand SuchPlace SuchSub SuchWindow) →
      map-Expr SuchExpr SuchOperand SuchPlace SuchSub SuchWindow Expr Operand Place Sub Window (λ e. e.0) (λ e. e.0) (λ e. e.0) (λ e. e.0) (λ e. e.0) y ≡ x → SameExpr (roll-Expr x)
  expr-cycle x y is = subst (λ z. SameExpr (roll-Expr z)) is (expr-layer y)

  operand-cycle : (x : Operand-F Expr Operand Place Sub Window) (y : Operand-F SuchExpr SuchOperand SuchPlace SuchSub SuchWindow) →
      map-Operand SuchExpr SuchOperand SuchPlace SuchSub SuchWindow Expr Operand Place Sub Window (λ e. e.0) (λ e. e.0) (λ e. e.0) (λ e. e.0) (λ e. e.0) y ≡ x → SameOperand (roll-Operand x)
  operand-cycle x y is = subst (λ z. SameOperand (roll-Operand z)) is (operand-layer y)

  place-cycle : (x : Place-F Expr Operand Place Sub Window) (y : Place-F SuchExpr SuchOperand SuchPlace SuchSub SuchWindow) →
      map-Place SuchExpr SuchOperand SuchPlace SuchSub SuchWindow Expr Operand Place Sub Window (λ e. e.0) (λ e. e.0) (λ e. e.0) (λ e. e.0) (λ e. e.0) y ≡ x → SamePlace (roll-Place x)
  place-cycle x y is = subst (λ z. SamePlace (roll-Place z)) is (place-layer y.item y.of y.subs y.window)

  sub-cycle : (x : Sub-F Expr Operand Place Sub Window) (y : Sub-F SuchExpr SuchOperand SuchPlace SuchSub SuchWindow) →
      map-Sub SuchExpr SuchOperand SuchPlace SuchSub SuchWindow Expr Operand Place Sub Window (λ e. e.0) (λ e. e.0) (λ e. e.0) (λ e. e.0) (λ e. e.0) y ≡ x → SameSub (roll-Sub x)
  sub-cycle x y is = subst (λ z. SameSub (roll-Sub z)) is (sub-layer y.base y.plus)

  window-cycle : (x : Window-F Expr Operand Place Sub Window) (y : Window-F SuchExpr SuchOperand SuchPlace SuchSub SuchWindow) →
      map-Window SuchExpr SuchOperand SuchPlace SuchSub SuchWindow Expr Operand Place Sub Window (λ e. e.0) (λ e. e.0) (λ e. e.0) (λ e. e.0) (λ e. e.0) y ≡ x → SameWindow (roll-Window x)
  window-cycle x y is = subst (λ z. SameWindow (roll-Window z)) is (window-layer y.from y.«length»)

  pub place-same : (place : Place) → SamePlace place
  place-same = ind-Place SameExpr SameOperand SamePlace SameSub SameWindow expr-cycle operand-cycle place-cycle sub-cycle window-cycle

  pub operand-same : (operand : Operand) → SameOperand operand
  operand-same = ind-Operand SameExpr SameOperand SamePlace SameSub SameWindow expr-cycle operand-cycle place-cycle sub-cycle window-cycle

  pub expr-same : (expr : Expr) → SameExpr expr
  expr-same = ind-Expr SameExpr SameOperand SamePlace SameSub SameWindow expr-cycle operand-cycle place-cycle sub-cycle window-cycle
