-- MOVE of an operand to an added item.
use Rattle.std.proofs.Common.{◌≡◌, ℕ, ◌+◌, ◌^◌, ◌<◌, Bool, true, false, ◌&&◌, not, List, [], ◌∷◌, None, Some, refl, ap, sym, subst, ◌∙◌}
use Rattle.std.specs.Prelude.{Ok, Err, ℤ, pos, slice_get, slice_set, unsigned_abs, is_some}
use Rattle.cob_num.specs.declared.number.Dec.{Dec}
use Rattle.cob_num.specs.Exact.{decimal}
use Rattle.cob_tree.specs.declared.ending.Abend.{Abend}
use Rattle.cob_tree.specs.declared.ending.Abend.TheVariants.{BadDigits}
use Rattle.cob_tree.specs.declared.picture.Sign.TheVariants.{Within}
use Rattle.cob_tree.specs.declared.place.Figure.TheVariants as figures
use Rattle.cob_tree.specs.declared.place.Expr.{Expr}
use Rattle.cob_tree.specs.declared.place.Operand.{Operand, out-Operand, map-Operand, fold_out-Operand}
use Rattle.cob_tree.specs.declared.place.Place.{Place, out-Place, out-roll-Place}
use Rattle.cob_tree.specs.declared.place.Sub.{Sub}
use Rattle.cob_tree.specs.declared.place.Window.{Window}
use Rattle.cob_tree.specs.declared.place.Expr.TheOpen.{Operand-F}
use Rattle.cob_store.specs.declared.area.Area.{Area}
use Rattle.cob_store.specs.declared.area.Form.{Form}
use Rattle.cob_store.specs.declared.area.Form.TheVariants as forms
use Rattle.cob_store.specs.declared.area.Storage.TheVariants.{Digits}
use Rattle.cob_store.specs.declared.spot.Spot.{Spot}
use Rattle.cob_store.specs.declared.spot.Reached.{Reached}
use Rattle.cob_store.specs.Answer.{Answer, and_then, there_or}
use Rattle.cob_store.specs.Number.{number_in}
use Rattle.cob_store.specs.Store.{Roots, spot_bytes, number_of}
use Rattle.cob_store.specs.Place as place
use Rattle.cob_store.specs.Place.{Memory, memory_of, Value, OfMemory, number_at, place_number, reached, literal_value, operand_value, expr_value, sub_value}
use Rattle.meanings.specs.statements.Outcome.{Outcome, done, go_on, each}
use Rattle.meanings.specs.statements.Moving.{Sender, Figured, Written, Spelled, Counted, number_received, received, receive, place_sent, sent, operand_sent, area_form, is_group, all_groups, moved}
use Rattle.cobol_theory.specs.cell_items.Cell.{cell_place, IsCell, cell_bytes, Holds}
use Rattle.cobol_theory.proofs.cell_items_lemmas.Moves.{given-number}

-- ---- the operand as a sender

abbrev pub Layered : Type 0
Layered = Operand-F Expr Operand Place Sub Window

abbrev pub worth_by : Memory → Layered → Answer Value
worth_by memory (Operand-F.Place place) = place_number (reached place) memory
worth_by memory (Operand-F.Number number) = Ok (literal_value number)
worth_by memory (Operand-F.Text bytes) = Ok None
worth_by memory (Operand-F.Figure figures.Zero) = Ok (decimal (pos 0) 0)
worth_by memory (Operand-F.Figure _) = Ok None

abbrev pub sent_by : Memory → Layered → Answer Sender
sent_by memory y = elim y [
  | Operand-F.Place place ↦ place_sent memory true (reached place)
  | Operand-F.Number number ↦ Ok (Written number)
  | Operand-F.Text bytes ↦ Ok (Spelled bytes)
  | Operand-F.Figure figure ↦ Ok (Figured figure)
]

abbrev layered : Layered → Operand-F (OfMemory Value) (OfMemory Value) (OfMemory Reached) (OfMemory Value) (Memory → Spot → Answer Spot)
layered = map-Operand Expr Operand Place Sub Window (OfMemory Value) (OfMemory Value) (OfMemory Reached) (OfMemory Value) (Memory → Spot → Answer Spot) expr_value operand_value reached sub_value place.window_of

worth-step : (memory : Memory) (y : Layered) → place.operand_step (layered y) memory ≡ worth_by memory y
worth-step memory (Operand-F.Place p) = refl
worth-step memory (Operand-F.Number number) = refl
worth-step memory (Operand-F.Text bytes) = refl
worth-step memory (Operand-F.Figure figures.Zero) = refl
worth-step memory (Operand-F.Figure figures.Space) = refl
worth-step memory (Operand-F.Figure figures.HighValue) = refl
worth-step memory (Operand-F.Figure figures.LowValue) = refl
worth-step memory (Operand-F.Figure figures.Quote) = refl

pub worth-of : (memory : Memory) (operand : Operand) → operand_value operand memory ≡ worth_by memory (out-Operand operand)
worth-of memory operand =
    ap (λ f. f memory) (fold_out-Operand (OfMemory Value) (OfMemory Value) (OfMemory Reached) (OfMemory Value) (Memory → Spot → Answer Spot) place.expr_step place.operand_step place.place_step place.sub_step place.window_step operand)
    ∙ worth-step memory (out-Operand operand)

-- what a number item is given of the sender, where the operand is worth a number
pub record IsSender (memory : Memory) (y : Layered) (number : Dec) : Type 0 where
  pub sender : Sender
  pub sent : sent_by memory y ≡ Ok sender
  pub given : (signed : Bool) (digits : ℕ) → received None (forms.Number signed digits 0 (Digits Within)) digits sender ≡ and_then (Ok number) (number_received signed digits 0 (Digits Within) digits)

from-item : (memory : Memory) (p : Place) (number : Dec) (r : Answer Reached) → reached p memory ≡ r →
    and_then r (λ (r : Reached). number_at memory.store r.spot r.form) ≡ Ok (Some number) → IsSender memory (Operand-F.Place p) number
from-item memory p number (Err abend) at is = cc
from-item memory p number (Ok r) at is = by_form r.form refl
  where
    by_form : (form : Form) → r.form ≡ form → IsSender memory (Operand-F.Place p) number
    by_form forms.Group e = let bad : number_at memory.store r.spot forms.Group ≡ Ok (Some number) = subst (λ f. number_at memory.store r.spot f ≡ Ok (Some number)) e is in cc
    by_form forms.Edited e = let bad : number_at memory.store r.spot forms.Edited ≡ Ok (Some number) = subst (λ f. number_at memory.store r.spot f ≡ Ok (Some number)) e is in cc
    by_form forms.Text e = let bad : number_at memory.store r.spot forms.Text ≡ Ok (Some number) = subst (λ f. number_at memory.store r.spot f ≡ Ok (Some number)) e is in cc
    by_form (forms.Number signed whole part storage) e =
        let bytes = spot_bytes memory.store r.spot in
        let read : and_then (number_of (number_in signed storage bytes) part) (λ number. Ok (Some number)) ≡ Ok (Some number) = subst (λ f. number_at memory.store r.spot f ≡ Ok (Some number)) e is in
        record {
          sender = Counted bytes (whole + part) (Some number);
          sent =
              ap (λ reached. and_then reached (λ (r : Reached). sent true r.form (spot_bytes memory.store r.spot))) at
              ∙ ap (λ f. sent true f bytes) e
              ∙ ap (λ answer. and_then answer (λ number. Ok (Counted bytes (whole + part) (Some number)))) (only (number_of (number_in signed storage bytes) part) read);
          given = λ signed digits. refl;
        }
      where
        only : (answer : Answer Dec) → and_then answer (λ number. Ok (Some number)) ≡ Ok (Some number) → answer ≡ Ok number
        only (Ok found) is = cc
        only (Err abend) is = cc

pub is-sender : (memory : Memory) (y : Layered) (number : Dec) → worth_by memory y ≡ Ok (Some number) → IsSender memory y number
is-sender memory (Operand-F.Place p) number is = from-item memory p number (reached p memory) refl is
is-sender memory (Operand-F.Number literal) number is =
    record { sender = Written literal; sent = refl; given = λ signed digits. ap (λ v. and_then (there_or BadDigits v) (number_received signed digits 0 (Digits Within) digits)) (inner is) }
  where
    inner : ◌≡◌ {A = Answer Value} (Ok (literal_value literal)) (Ok (Some number)) → literal_value literal ≡ Some number
    inner e = cc
is-sender memory (Operand-F.Text bytes) number is = cc
is-sender memory (Operand-F.Figure figures.Zero) number is =
    record { sender = Figured figures.Zero; sent = refl; given = λ signed digits. ap (λ v. and_then (there_or BadDigits v) (number_received signed digits 0 (Digits Within) digits)) (inner is) }
  where
    inner : ◌≡◌ {A = Answer Value} (Ok (decimal (pos 0) 0)) (Ok (Some number)) → decimal (pos 0) 0 ≡ Some number
    inner e = cc
is-sender memory (Operand-F.Figure figures.Space) number is = cc
is-sender memory (Operand-F.Figure figures.HighValue) number is = cc
is-sender memory (Operand-F.Figure figures.LowValue) number is = cc
is-sender memory (Operand-F.Figure figures.Quote) number is = cc

-- where it has none, the same abend
bad-item : (memory : Memory) (p : Place) (abend : Abend) (r : Answer Reached) → reached p memory ≡ r →
    and_then r (λ (r : Reached). number_at memory.store r.spot r.form) ≡ Err abend → place_sent memory true (reached p) ≡ Err abend
bad-item memory p abend (Err other) at is = ap (λ reached. and_then reached (λ (r : Reached). sent true r.form (spot_bytes memory.store r.spot))) at ∙ ap Err (inner is)
  where
    inner : and_then (Err other) (λ (r : Reached). number_at memory.store r.spot r.form) ≡ Err abend → other ≡ abend
    inner e = cc
bad-item memory p abend (Ok r) at is = by_form r.form refl
  where
    by_form : (form : Form) → r.form ≡ form → place_sent memory true (reached p) ≡ Err abend
    by_form forms.Group e = let bad : number_at memory.store r.spot forms.Group ≡ Err abend = subst (λ f. number_at memory.store r.spot f ≡ Err abend) e is in cc
    by_form forms.Edited e = let bad : number_at memory.store r.spot forms.Edited ≡ Err abend = subst (λ f. number_at memory.store r.spot f ≡ Err abend) e is in cc
    by_form forms.Text e = let bad : number_at memory.store r.spot forms.Text ≡ Err abend = subst (λ f. number_at memory.store r.spot f ≡ Err abend) e is in cc
    by_form (forms.Number signed whole part storage) e =
        let bytes = spot_bytes memory.store r.spot in
        let read : and_then (number_of (number_in signed storage bytes) part) (λ number. Ok (Some number)) ≡ Err abend = subst (λ f. number_at memory.store r.spot f ≡ Err abend) e is in
        ap (λ reached. and_then reached (λ (r : Reached). sent true r.form (spot_bytes memory.store r.spot))) at
        ∙ ap (λ f. sent true f bytes) e
        ∙ ap (λ answer. and_then answer (λ number. Ok (Counted bytes (whole + part) (Some number)))) (only (number_of (number_in signed storage bytes) part) read)
      where
        only : (answer : Answer Dec) → and_then answer (λ number. Ok (Some number)) ≡ Err abend → answer ≡ Err abend
        only (Ok found) is = cc
        only (Err other) is = cc

pub bad-sender : (memory : Memory) (y : Layered) (abend : Abend) → worth_by memory y ≡ Err abend → sent_by memory y ≡ Err abend
bad-sender memory (Operand-F.Place p) abend is = bad-item memory p abend (reached p memory) refl is
bad-sender memory (Operand-F.Number literal) abend is = cc
bad-sender memory (Operand-F.Text bytes) abend is = cc
bad-sender memory (Operand-F.Figure figures.Zero) abend is = cc
bad-sender memory (Operand-F.Figure figures.Space) abend is = cc
bad-sender memory (Operand-F.Figure figures.HighValue) abend is = cc
bad-sender memory (Operand-F.Figure figures.LowValue) abend is = cc
bad-sender memory (Operand-F.Figure figures.Quote) abend is = cc

-- ---- MOVE

module _ (areas : List Area) (item root digits : ℕ) (signed : Bool) (cell : IsCell areas item root digits signed) (store : Roots) where
  -- the receiver is a number item, so the sender's number is asked for
  number-asked : not (all_groups areas (cell_place item ∷ [])) ≡ true
  number-asked =
      ap (λ p. not (is_group (area_form (is_some p.window) (slice_get areas p.item)) && true)) (out-roll-Place (record { item = item; of = []; subs = []; window = None }))
      ∙ ap (λ area. not (is_group (area_form false area) && true)) cell.lies

  moving : (operand : Operand) (answer : Answer Sender) → sent_by (memory_of areas store) (out-Operand operand) ≡ answer →
      moved areas operand (cell_place item ∷ []) store ≡ go_on store answer (λ now sender. each (λ store place. receive areas sender store (out-Place place).item (reached place)) now (cell_place item ∷ []))
  moving operand answer is =
      ap (λ asked. go_on store (operand_sent (memory_of areas store) asked operand) (λ now sender. each (λ store place. receive areas sender store (out-Place place).item (reached place)) now (cell_place item ∷ []))) number-asked
      ∙ ap (λ answer. go_on store answer (λ now sender. each (λ store place. receive areas sender store (out-Place place).item (reached place)) now (cell_place item ∷ []))) is

  pub moved-value : (operand : Operand) (number : Dec) (value : ℤ) → Holds store root digits signed value →
      operand_value operand (memory_of areas store) ≡ Ok (Some number) → number.scale ≡ 0 → unsigned_abs number.value < 10 ^ digits →
      moved areas operand (cell_place item ∷ []) store ≡ done (slice_set store root (cell_bytes digits signed number.value)) tt
  moved-value operand number value holds is whole fits =
      let it = is-sender (memory_of areas store) (out-Operand operand) number (sym (worth-of (memory_of areas store) operand) ∙ is) in
      moving operand (Ok it.sender) it.sent
      ∙ ap (λ (outcome : Outcome (Unit {0})). go_on outcome.store outcome.answer (λ now _. done now tt))
      (given-number areas item root digits signed cell store value holds it.sender number (it.given signed digits) whole fits)

  pub unmoved-value : (operand : Operand) (abend : Abend) → operand_value operand (memory_of areas store) ≡ Err abend →
      moved areas operand (cell_place item ∷ []) store ≡ record { store = store; answer = Err abend }
  unmoved-value operand abend is =
      moving operand (Err abend) (bad-sender (memory_of areas store) (out-Operand operand) abend (sym (worth-of (memory_of areas store) operand) ∙ is))
