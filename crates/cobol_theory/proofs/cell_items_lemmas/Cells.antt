-- Reading an added item, and storing in it.
use Rattle.std.proofs.Common.{◌≡◌, ℕ, zero, suc, ◌+◌, ◌/◌, ◌%◌, ◌^◌, ◌<◌, Bool, true, false, List, [], ◌∷◌, length, Some, None, refl, ap, ◌∙◌, subst, arith}
use Rattle.std.specs.Prelude.{Ok, take, unwrap_or, ℤ, unsigned_abs}
use Rattle.std.specs.Int.{is_negative}
use Rattle.std.proofs.lemmas.List.{length-append}
use Rattle.std.proofs.Math.Seq.{take-length}
use Rattle.cob_tree.specs.declared.picture.Sign.TheVariants.{Within}
use Rattle.cob_tree.specs.declared.place.Place.{fold-roll-Place}
use Rattle.cob_store.specs.declared.area.Area.{Area}
use Rattle.cob_store.specs.declared.area.Form.TheVariants as forms
use Rattle.cob_store.specs.declared.area.Storage.TheVariants.{Digits}
use Rattle.cob_store.specs.declared.spot.Spot.{Spot}
use Rattle.cob_store.specs.declared.spot.Reached.{Reached}
use Rattle.cob_store.specs.Answer.{Answer}
use Rattle.cob_store.specs.Number.{number_in, number_bytes, signed_bytes, padded, overpunched}
use Rattle.cob_store.specs.Store.{Roots, spot_bytes}
use Rattle.cob_store.specs.Place as place
use Rattle.cob_store.specs.Place.{Memory, memory_of, Value, OfMemory, reached_in, reached}
use Rattle.cobol_theory.specs.stored_numbers.Laws.{Fits}
use Rattle.cobol_theory.proofs.stored_numbers_lemmas.ReadBack.{read-digits}
use Rattle.cobol_theory.specs.cell_items.Cell.{cell_place, IsCell, cell_bytes, Holds}

-- ---- where it is

abbrev pub cell_reached : (root digits : ℕ) → Bool → Reached
cell_reached root digits signed = record {
  spot = record { root = root; start = 0; length = digits };
  form = forms.Number signed digits 0 (Digits Within);
}

pub cell-found : (areas : List Area) (item root digits : ℕ) (signed : Bool) → IsCell areas item root digits signed → (store : Roots) →
    reached (cell_place item) (memory_of areas store) ≡ Ok (cell_reached root digits signed)
cell-found areas item root digits signed cell store =
    ap (λ f. f (memory_of areas store))
    (fold-roll-Place (OfMemory Value) (OfMemory Value) (OfMemory Reached) (OfMemory Value) (Memory → Spot → Answer Spot) place.expr_step place.operand_step place.place_step place.sub_step place.window_step
    (record { item = item; of = []; subs = []; window = None }))
    ∙ ap (reached_in (memory_of areas store) [] None) cell.lies

-- ---- its bytes

padded-long : (places number : ℕ) → length (padded places number) ≡ places
padded-long zero number = refl
padded-long (suc places) number = length-append (padded places (number / 10)) ((48 + number % 10) ∷ []) ∙ ap (λ n. n + 1) (padded-long places (number / 10)) ∙ omega arith

overpunched-long : (places number : ℕ) → length (overpunched places number) ≡ places
overpunched-long zero number = refl
overpunched-long (suc places) number = length-append (padded places (number / 10)) ((112 + number % 10) ∷ []) ∙ ap (λ n. n + 1) (padded-long places (number / 10)) ∙ omega arith

pub bytes-long : (digits : ℕ) (signed : Bool) (value : ℤ) → length (cell_bytes digits signed value) ≡ digits
bytes-long digits false value = padded-long digits (unsigned_abs value)
bytes-long digits true value = by_case (is_negative value)
  where
    by_case : (minus : Bool) → length (signed_bytes true (Digits Within) digits minus (unsigned_abs value)) ≡ digits
    by_case true = overpunched-long digits (unsigned_abs value)
    by_case false = padded-long digits (unsigned_abs value)

take-long : (xs : List ℕ) (n : ℕ) → length xs ≡ n → take n xs ≡ xs
take-long xs n is = subst (λ m. take m xs ≡ xs) is (take-all xs)
  where
    take-all : (xs : List ℕ) → take (length xs) xs ≡ xs
    take-all xs = take-length xs

pub cell-read : (store : Roots) (root digits : ℕ) (signed : Bool) (value : ℤ) → Holds store root digits signed value →
    spot_bytes store (record { root = root; start = 0; length = digits }) ≡ cell_bytes digits signed value
cell-read store root digits signed value holds =
    ap (λ b. take digits (unwrap_or b [])) holds ∙ take-long (cell_bytes digits signed value) digits (bytes-long digits signed value)

-- ---- the number that it holds

pub fits-of : (digits : ℕ) (signed : Bool) (value : ℤ) → Fits signed digits value → unsigned_abs value < 10 ^ digits
fits-of digits true value fits = fits
fits-of digits false value fits = fits.0

-- the bytes are read as the number
pub read-whole : (areas : List Area) (item root digits : ℕ) (signed : Bool) → IsCell areas item root digits signed → (value : ℤ) → Fits signed digits value →
    number_in signed (Digits Within) (cell_bytes digits signed value) ≡ Some value
read-whole areas item root digits signed cell value = whole signed
  where
    no-sign : digits ≡ digits + 0
    no-sign = omega arith

    whole : (signed : Bool) → Fits signed digits value → number_in signed (Digits Within) (cell_bytes digits signed value) ≡ Some value
    whole true fits = ap (λ size. number_in true (Digits Within) (number_bytes true (Digits Within) size value)) no-sign ∙ read-digits true Within digits value cell.some cell.few fits
    whole false fits = read-digits false Within digits value cell.some cell.few fits
