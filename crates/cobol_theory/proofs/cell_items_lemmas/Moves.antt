-- MOVE of a number to an added item.
use Rattle.std.proofs.Common.{◌≡◌, ℕ, zero, suc, ◌+◌, ◌-◌, ◌*◌, ◌/◌, ◌%◌, ◌^◌, ◌<◌, ◌≤◌, nat_le, Bool, false, ◌&&◌, not, if◌then◌else◌, List, [], ◌∷◌, ◌++◌, length, Some, None, refl, ap, ◌∙◌, arith, le-leb, append-nil}
use Rattle.std.specs.Prelude.{Ok, drop, slice_get, slice_set, unwrap_or, ℤ, pos, negsuc, unsigned_abs}
use Rattle.std.proofs.lemmas.Option.{slice_get_within}
use Rattle.std.proofs.Math.Nat.{mod-eq_of_lt}
use Rattle.std.proofs.Math.ListN.{drop_of_length-le}
use Rattle.cob_num.specs.declared.number.Dec.{Dec}
use Rattle.cob_num.specs.Storing.{whole_units, with_sign, stored_of}
use Rattle.cob_tree.specs.declared.ending.Abend.TheVariants.{BadDigits}
use Rattle.cob_tree.specs.declared.number.Number.{Number}
use Rattle.cob_tree.specs.declared.picture.Sign.TheVariants.{Within}
use Rattle.cob_tree.specs.declared.place.Operand.{Operand, out-roll-Operand}
use Rattle.cob_tree.specs.declared.place.Place.{Place, out-Place, out-roll-Place}
use Rattle.cob_tree.specs.declared.place.Expr.{Expr}
use Rattle.cob_tree.specs.declared.place.Sub.{Sub}
use Rattle.cob_tree.specs.declared.place.Window.{Window}
use Rattle.cob_tree.specs.declared.place.Expr.TheOpen.{Operand-F}
use Rattle.cob_store.specs.declared.area.Area.{Area}
use Rattle.cob_store.specs.declared.area.Form.TheVariants as forms
use Rattle.cob_store.specs.declared.area.Storage.TheVariants.{Digits}
use Rattle.cob_store.specs.Answer.{Answer, and_then, there_or}
use Rattle.cob_store.specs.Area.{mask_of}
use Rattle.cob_store.specs.Store.{Roots, put_at, replaced}
use Rattle.cob_store.specs.Place.{Memory, memory_of, reached}
use Rattle.meanings.specs.statements.Outcome.{Outcome, done, go_on, each}
use Rattle.meanings.specs.statements.Moving.{Sender, Written, Spelled, Figured, number_received, received, put_answer, receive, place_sent, operand_sent, all_groups, moved}
use Rattle.cobol_theory.specs.cell_items.Laws.{IsWhole}
use Rattle.cobol_theory.specs.cell_items.Cell.{cell_place, number_operand, IsCell, cell_bytes, Holds}
use Rattle.cobol_theory.proofs.cell_items_lemmas.Cells.{cell-found, bytes-long}

-- ---- a whole number is kept as it is

pub with-own-sign : (value : ℤ) → with_sign value (unsigned_abs value) ≡ value
with-own-sign (pos n) = refl
with-own-sign (negsuc n) = refl

pub units-whole : (number : Dec) → number.scale ≡ 0 → whole_units number 0 false ≡ unsigned_abs number.value
units-whole number whole = ap (λ s. unsigned_abs number.value * 10 ^ (0 - s) / 10 ^ (s - 0)) whole ∙ omega arith

pub stored-whole : (number : Dec) (digits : ℕ) → number.scale ≡ 0 → unsigned_abs number.value < 10 ^ digits → (stored_of number digits 0 false).value ≡ number.value
stored-whole number digits whole fits =
    ap (λ u. with_sign number.value (u % 10 ^ digits)) (units-whole number whole)
    ∙ ap (with_sign number.value) (mod-eq_of_lt fits)
    ∙ with-own-sign number.value

-- what an added item is given
pub number-given : (digits : ℕ) (signed : Bool) (number : Dec) → 1 ≤ digits → digits ≤ 18 → number.scale ≡ 0 → unsigned_abs number.value < 10 ^ digits →
    number_received signed digits 0 (Digits Within) digits number ≡ Ok (cell_bytes digits signed number.value)
number-given digits signed number some few whole fits =
    ap (λ n. and_then (there_or BadDigits (if nat_le 1 n && nat_le n 18 then Some (stored_of number n 0 false) else None)) (λ stored. Ok (cell_bytes digits signed stored.value))) no-part
    ∙ ap (λ b. and_then (there_or BadDigits (if b then Some (stored_of number digits 0 false) else None)) (λ stored. Ok (cell_bytes digits signed stored.value)))
    (ap (λ b. b && nat_le digits 18) (le-leb 1 digits some) ∙ le-leb digits 18 few)
    ∙ ap (λ value. Ok (cell_bytes digits signed value)) (stored-whole number digits whole fits)
  where
    no-part : digits + 0 ≡ digits
    no-part = omega arith

-- ---- the store afterwards

get-long : (store : Roots) (root : ℕ) (bytes : List ℕ) → slice_get store root ≡ Some bytes → root < length store
get-long store root bytes is = slice_get_within store root bytes is

-- bytes in the place of as many
pub put-whole : (store : Roots) (root size : ℕ) (old bytes : List ℕ) → slice_get store root ≡ Some old → length old ≡ size → length bytes ≡ size →
    put_at store (record { root = root; start = 0; length = size }) bytes ≡ slice_set store root bytes
put-whole store root size old bytes is old-long long =
    ap (λ b. if nat_le (0 + size) (length b) then slice_set store root (replaced b 0 size bytes) else store) (ap (λ b. unwrap_or b []) is)
    ∙ ap (λ t. if t then slice_set store root (replaced old 0 size bytes) else store) (le-leb (0 + size) (length old) (omega (arith, old-long)))
    ∙ ap (λ rest. slice_set store root (bytes ++ rest)) (nothing-left old size old-long)
    ∙ ap (slice_set store root) (append-nil bytes)
  where
    nothing-left : (old : List ℕ) (size : ℕ) → length old ≡ size → drop (0 + size) old ≡ []
    nothing-left old size is = drop_of_length-le old (omega (arith, is))

pub set-holds : (store : Roots) (root : ℕ) (bytes : List ℕ) → root < length store → slice_get (slice_set store root bytes) root ≡ Some bytes
set-holds [] root bytes h = absurd (omega (arith, h))
set-holds (x ∷ store) zero bytes h = refl
set-holds (x ∷ store) (suc root) bytes h = set-holds store root bytes (omega (arith, h))

-- ---- MOVE

sent_at : Memory → Bool → Operand-F Expr Operand Place Sub Window → Answer Sender
sent_at memory asked y = elim y [
  | Operand-F.Place place ↦ place_sent memory asked (reached place)
  | Operand-F.Number number ↦ Ok (Written number)
  | Operand-F.Text bytes ↦ Ok (Spelled bytes)
  | Operand-F.Figure figure ↦ Ok (Figured figure)
]

number-sent : (memory : Memory) (asked : Bool) (number : Number) → operand_sent memory asked (number_operand number) ≡ Ok (Written number)
unfolding sent_at
number-sent memory asked number = ap (sent_at memory asked) (out-roll-Operand (Operand-F.Number number))

module _ (areas : List Area) (item root digits : ℕ) (signed : Bool) (cell : IsCell areas item root digits signed) (store : Roots) (value : ℤ) (holds : Holds store root digits signed value) where
  pub given-number : (sender : Sender) (worth : Dec) → received None (forms.Number signed digits 0 (Digits Within)) digits sender ≡ and_then (Ok worth) (number_received signed digits 0 (Digits Within) digits) →
      worth.scale ≡ 0 → unsigned_abs worth.value < 10 ^ digits →
      receive areas sender store (out-Place (cell_place item)).item (reached (cell_place item)) ≡ done (slice_set store root (cell_bytes digits signed worth.value)) tt
  given-number sender worth is whole fits =
      ap (λ n. receive areas sender store n (reached (cell_place item))) (ap (λ p. p.item) (out-roll-Place (record { item = item; of = []; subs = []; window = None })))
      ∙ ap (λ mask. go_on store (reached (cell_place item) (memory_of areas store)) (λ now place. put_answer now place.spot (received mask place.form place.spot.length sender))) (ap mask_of cell.lies)
      ∙ ap (λ r. go_on store r (λ now place. put_answer now place.spot (received None place.form place.spot.length sender))) (cell-found areas item root digits signed cell store)
      ∙ ap (put_answer store (record { root = root; start = 0; length = digits })) (is ∙ number-given digits signed worth cell.some cell.few whole fits)
      ∙ ap (λ s. done s tt) (put-whole store root digits (cell_bytes digits signed value) (cell_bytes digits signed worth.value) holds (bytes-long digits signed value) (bytes-long digits signed worth.value))

  -- a number is moved
  pub moved-number : (number : Number) (worth : Dec) → IsWhole number worth digits →
      moved areas (number_operand number) (cell_place item ∷ []) store ≡ done (slice_set store root (cell_bytes digits signed worth.value)) tt
  moved-number number worth is =
      ap (λ sender. go_on store sender (λ now sender. each (λ store place. receive areas sender store (out-Place place).item (reached place)) now (cell_place item ∷ [])))
      (number-sent (memory_of areas store) (not (all_groups areas (cell_place item ∷ []))) number)
      ∙ ap (λ (outcome : Outcome (Unit {0})). go_on outcome.store outcome.answer (λ now _. done now tt))
      (given-number (Written number) worth (ap (λ v. and_then (there_or BadDigits v) (number_received signed digits 0 (Digits Within) digits)) is.value) is.whole is.fits)
