-- What is read of places, operands and expressions: as bytes, as a side of a comparison, as it is
-- shown, and as a sender.
use Rattle.std.proofs.Common.{◌≡◌, ℕ, ◌<◌, nat_lt, Bool, true, ◌&&◌, List, [], ◌∷◌, ◌++◌, length, refl, ap, sym, ◌∙◌, ltb-true}
use Rattle.std.specs.Prelude.{Ok, Err, if◌then◌else◌}
use Rattle.std.proofs.lemmas.Bool.{and_parts}
use Rattle.cob_tree.specs.declared.place.Expr.{Expr, out-Expr, fold_out-Expr, map-Expr}
use Rattle.cob_tree.specs.declared.place.Operand.{Operand, out-Operand, fold_out-Operand, map-Operand}
use Rattle.cob_tree.specs.declared.place.Place.{Place, out-Place, fold_out-Place}
use Rattle.cob_tree.specs.declared.place.Sub.{Sub}
use Rattle.cob_tree.specs.declared.place.Window.{Window}
use Rattle.cob_tree.specs.declared.place.Expr.TheOpen.{Expr-F, Operand-F}
use Rattle.cob_store.specs.declared.area.Area.{Area}
use Rattle.cob_store.specs.declared.spot.Reached.{Reached}
use Rattle.cob_store.specs.Answer.{Answer, and_then}
use Rattle.cob_store.specs.Store.{Roots, spot_bytes}
use Rattle.cob_store.specs.Starting.{figure_byte}
use Rattle.cob_store.specs.Place.{Memory, OfMemory, reached, expr_value}
use Rattle.meanings.specs.statements.Side.{Side, Amount, Literal, Bytes, valued, item_side, place_side, figure_side, operand_side, expr_side}
use Rattle.meanings.specs.statements.Display.{place_shown, operand_shown, shown_on, displayed}
use Rattle.meanings.specs.statements.Text.{printed_number}
use Rattle.meanings.specs.statements.Moving.{Sender, Written, Spelled, Figured, sent, place_sent, operand_sent}
use Rattle.cobol_theory.specs.added_items.Within as within
use Rattle.cobol_theory.specs.added_items.Within.{place_within, operand_within, expr_within, sub_within, window_within, operands_within}
use Rattle.cobol_theory.specs.added_items.Widened.{AreInside}
use Rattle.cobol_theory.proofs.added_items_lemmas.Bytes.{spot-same}
use Rattle.cobol_theory.proofs.added_items_lemmas.Places as places
use Rattle.cobol_theory.proofs.added_items_lemmas.Places.{IsRooted}

-- an operand, an expression and a place whose parts are within
pub operand-parts : (count : ℕ) (operand : Operand) → operand_within count operand ≡ true →
    within.operand_step count (map-Operand Expr Operand Place Sub Window Bool Bool Bool Bool Bool (expr_within count) (operand_within count) (place_within count) (sub_within count) (window_within count) (out-Operand operand)) ≡ true
operand-parts count operand e =
    sym (fold_out-Operand Bool Bool Bool Bool Bool (within.expr_step count) (within.operand_step count) (within.place_step count) (within.sub_step count) (within.window_step count) operand) ∙ e

pub expr-parts : (count : ℕ) (expr : Expr) → expr_within count expr ≡ true →
    within.expr_step count (map-Expr Expr Operand Place Sub Window Bool Bool Bool Bool Bool (expr_within count) (operand_within count) (place_within count) (sub_within count) (window_within count) (out-Expr expr)) ≡ true
expr-parts count expr e =
    sym (fold_out-Expr Bool Bool Bool Bool Bool (within.expr_step count) (within.operand_step count) (within.place_step count) (within.sub_step count) (within.window_step count) expr) ∙ e

pub item-below : (count : ℕ) (place : Place) → place_within count place ≡ true → (out-Place place).item < count
item-below count place e =
    let h = sym (fold_out-Place Bool Bool Bool Bool Bool (within.expr_step count) (within.operand_step count) (within.place_step count) (within.sub_step count) (within.window_step count) place) ∙ e in
    let first = and_parts (nat_lt (out-Place place).item count && _) _ h in
    let below = and_parts (nat_lt (out-Place place).item count) _ first.0 in
    ltb-true (out-Place place).item count below.0

module _ (areas more : List Area) (store tail : Roots) (inside : AreInside areas store) where
  abbrev here : Memory
  here = places.here areas more store tail inside

  abbrev there : Memory
  there = places.there areas more store tail inside

  abbrev FoundBy : OfMemory Reached → Type 0
  FoundBy = places.FoundBy areas more store tail inside

  bytes-found : {B : Type 0} (g : Reached → List ℕ → Answer B) (r : Answer Reached) → IsRooted store r →
      and_then r (λ r. g r (spot_bytes (store ++ tail) r.spot)) ≡ and_then r (λ r. g r (spot_bytes store r.spot))
  bytes-found g (Ok r) h = ap (g r) (spot-same store tail r.spot h)
  bytes-found g (Err abend) h = refl

  -- whatever is made of what is reached and of its bytes
  pub bytes-there : {B : Type 0} (g : Reached → List ℕ → Answer B) (find : OfMemory Reached) → FoundBy find →
      and_then (find there) (λ r. g r (spot_bytes (store ++ tail) r.spot)) ≡ and_then (find here) (λ r. g r (spot_bytes store r.spot))
  bytes-there g find found = ap (λ r. and_then r (λ r. g r (spot_bytes (store ++ tail) r.spot))) found.same ∙ bytes-found g (find here) found.rooted

  -- sides of a comparison

  pub place_side-same : (place : Place) → place_within (length areas) place ≡ true → place_side there place ≡ place_side here place
  place_side-same place e = bytes-there (λ r bytes. Ok (item_side r.form bytes)) (reached place) (places.place-same areas more store tail inside place e)

  abbrev side_at : Memory → Operand-F Expr Operand Place Sub Window → Answer Side
  side_at memory y = elim y [
    | Operand-F.Place place ↦ place_side memory place
    | Operand-F.Number number ↦ Ok (Literal number)
    | Operand-F.Text bytes ↦ Ok (Bytes bytes)
    | Operand-F.Figure figure ↦ Ok (figure_side figure)
  ]

  side_at-same : (y : Operand-F Expr Operand Place Sub Window) →
      within.operand_step (length areas) (map-Operand Expr Operand Place Sub Window Bool Bool Bool Bool Bool (expr_within (length areas)) (operand_within (length areas)) (place_within (length areas)) (sub_within (length areas)) (window_within (length areas)) y) ≡ true →
      side_at there y ≡ side_at here y
  side_at-same (Operand-F.Place place) e = place_side-same place e
  side_at-same (Operand-F.Number number) e = refl
  side_at-same (Operand-F.Text bytes) e = refl
  side_at-same (Operand-F.Figure figure) e = refl

  pub operand_side-same : (operand : Operand) → operand_within (length areas) operand ≡ true → operand_side there operand ≡ operand_side here operand
  operand_side-same operand e = side_at-same (out-Operand operand) (operand-parts (length areas) operand e)

  abbrev expr_side_at : Memory → Expr → Expr-F Expr Operand Place Sub Window → Answer Side
  expr_side_at memory expr y = elim y [
    | Expr-F.Leaf operand ↦ operand_side memory operand
    | _ ↦ and_then (expr_value expr memory) (λ value. and_then (valued value) (λ number. Ok (Amount number)))
  ]

  valued-same : (expr : Expr) → expr_within (length areas) expr ≡ true →
      and_then (expr_value expr there) (λ value. and_then (valued value) (λ number. Ok (Amount number)))
      ≡ and_then (expr_value expr here) (λ value. and_then (valued value) (λ number. Ok (Amount number)))
  valued-same expr e = ap (λ v. and_then v (λ value. and_then (valued value) (λ number. Ok (Amount number)))) (places.expr-same areas more store tail inside expr e)

  expr_side_at-same : (expr : Expr) → expr_within (length areas) expr ≡ true → (y : Expr-F Expr Operand Place Sub Window) →
      within.expr_step (length areas) (map-Expr Expr Operand Place Sub Window Bool Bool Bool Bool Bool (expr_within (length areas)) (operand_within (length areas)) (place_within (length areas)) (sub_within (length areas)) (window_within (length areas)) y) ≡ true →
      expr_side_at there expr y ≡ expr_side_at here expr y
  expr_side_at-same expr whole (Expr-F.Leaf operand) e = operand_side-same operand e
  expr_side_at-same expr whole (Expr-F.Minus inner) e = valued-same expr whole
  expr_side_at-same expr whole (Expr-F.Both op left right) e = valued-same expr whole

  pub expr_side-same : (expr : Expr) → expr_within (length areas) expr ≡ true → expr_side there expr ≡ expr_side here expr
  expr_side-same expr e = expr_side_at-same expr e (out-Expr expr) (expr-parts (length areas) expr e)

  -- what is shown

  abbrev shown_at : Memory → Operand-F Expr Operand Place Sub Window → Answer (List ℕ)
  shown_at memory y = elim y [
    | Operand-F.Place place ↦ and_then (reached place memory) (λ place. place_shown place.form (spot_bytes memory.store place.spot))
    | Operand-F.Number number ↦ Ok (printed_number number)
    | Operand-F.Text bytes ↦ Ok bytes
    | Operand-F.Figure figure ↦ Ok (figure_byte figure ∷ [])
  ]

  shown_at-same : (y : Operand-F Expr Operand Place Sub Window) →
      within.operand_step (length areas) (map-Operand Expr Operand Place Sub Window Bool Bool Bool Bool Bool (expr_within (length areas)) (operand_within (length areas)) (place_within (length areas)) (sub_within (length areas)) (window_within (length areas)) y) ≡ true →
      shown_at there y ≡ shown_at here y
  shown_at-same (Operand-F.Place place) e = bytes-there (λ r bytes. place_shown r.form bytes) (reached place) (places.place-same areas more store tail inside place e)
  shown_at-same (Operand-F.Number number) e = refl
  shown_at-same (Operand-F.Text bytes) e = refl
  shown_at-same (Operand-F.Figure figure) e = refl

  shown_on-same : (bytes : List ℕ) (operands : List Operand) → operands_within (length areas) operands ≡ true → shown_on there bytes operands ≡ shown_on here bytes operands
  shown_on-same bytes [] e = refl
  shown_on-same bytes (operand ∷ operands) e =
      let h = and_parts (operand_within (length areas) operand) (operands_within (length areas) operands) e in
      ap (λ shown. and_then shown (λ more. shown_on there (bytes ++ more) operands)) (shown_at-same (out-Operand operand) (operand-parts (length areas) operand h.0))
      ∙ places.then-same (operand_shown here operand) _ _ (λ more. shown_on-same (bytes ++ more) operands h.1)

  pub displayed-same : (operands : List Operand) (advance : Bool) → operands_within (length areas) operands ≡ true → displayed there operands advance ≡ displayed here operands advance
  displayed-same operands advance e = ap (λ shown. and_then shown (λ bytes. Ok (bytes ++ (if advance then 10 ∷ [] else [])))) (shown_on-same [] operands e)

  -- senders

  pub place_sent-same : (asked : Bool) (find : OfMemory Reached) → FoundBy find → place_sent there asked find ≡ place_sent here asked find
  place_sent-same asked find found = bytes-there (λ r bytes. sent asked r.form bytes) find found

  abbrev sent_at : Memory → Bool → Operand-F Expr Operand Place Sub Window → Answer Sender
  sent_at memory asked y = elim y [
    | Operand-F.Place place ↦ place_sent memory asked (reached place)
    | Operand-F.Number number ↦ Ok (Written number)
    | Operand-F.Text bytes ↦ Ok (Spelled bytes)
    | Operand-F.Figure figure ↦ Ok (Figured figure)
  ]

  sent_at-same : (asked : Bool) (y : Operand-F Expr Operand Place Sub Window) →
      within.operand_step (length areas) (map-Operand Expr Operand Place Sub Window Bool Bool Bool Bool Bool (expr_within (length areas)) (operand_within (length areas)) (place_within (length areas)) (sub_within (length areas)) (window_within (length areas)) y) ≡ true →
      sent_at there asked y ≡ sent_at here asked y
  sent_at-same asked (Operand-F.Place place) e = place_sent-same asked (reached place) (places.place-same areas more store tail inside place e)
  sent_at-same asked (Operand-F.Number number) e = refl
  sent_at-same asked (Operand-F.Text bytes) e = refl
  sent_at-same asked (Operand-F.Figure figure) e = refl

  pub operand_sent-same : (asked : Bool) (operand : Operand) → operand_within (length areas) operand ≡ true → operand_sent there asked operand ≡ operand_sent here asked operand
  operand_sent-same asked operand e = sent_at-same asked (out-Operand operand) (operand-parts (length areas) operand e)
