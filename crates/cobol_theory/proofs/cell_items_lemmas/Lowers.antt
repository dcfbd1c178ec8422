-- A number is taken from the one that an added item holds.
use Rattle.std.proofs.Common.{◌≡◌, ℕ, zero, suc, ◌+◌, ◌-◌, ◌%◌, ◌^◌, ◌<◌, ◌≤◌, nat_le, Bool, true, false, ◌&&◌, if◌then◌else◌, List, [], ◌∷◌, Option, None, Some, refl, ap, sym, subst, ◌∙◌, arith, le-leb, ltb-true, cond, ltb}
use Rattle.std.specs.Prelude.{Ok, ℤ, pos, negsuc, ◌-ℤ◌, unsigned_abs, slice_set}
use Rattle.std.proofs.Math.IntN.{sub_ℕ}
use Rattle.cob_num.specs.declared.number.Dec.{Dec}
use Rattle.cob_num.specs.Decimal.{units, common_scale, difference_units}
use Rattle.cob_num.specs.Digits.{FitsDigits}
use Rattle.cob_num.specs.Exact.{decimal, difference_of}
use Rattle.cob_num.specs.Storing.{with_sign, stored_of}
use Rattle.cob_num.proofs.LimitLemmas.{aligned_short, decimal_yes}
use Rattle.cob_num.proofs.PowerLemmas.{power_up_to}
use Rattle.cob_num.proofs.ScaleLemmas.{units_own}
use Rattle.cob_tree.specs.declared.calc.Calc.TheVariants as calcs
use Rattle.cob_tree.specs.declared.number.Number.{Number}
use Rattle.cob_tree.specs.declared.picture.Sign.TheVariants.{Within}
use Rattle.cob_tree.specs.declared.place.Operand.{fold-roll-Operand}
use Rattle.cob_tree.specs.declared.place.Expr.TheOpen.{Operand-F}
use Rattle.cob_store.specs.declared.area.Area.{Area}
use Rattle.cob_store.specs.declared.area.Form.TheVariants as forms
use Rattle.cob_store.specs.declared.area.Storage.TheVariants.{Digits}
use Rattle.cob_store.specs.declared.spot.Spot.{Spot}
use Rattle.cob_store.specs.declared.spot.Reached.{Reached}
use Rattle.cob_store.specs.Answer.{Answer, and_then}
use Rattle.cob_store.specs.Store.{Roots, number_of, put_at}
use Rattle.cob_store.specs.Number.{number_in}
use Rattle.cob_store.specs.Place as place
use Rattle.cob_store.specs.Place.{Memory, memory_of, Value, OfMemory, kept, literal_value, number_at, operand_value}
use Rattle.meanings.specs.statements.Outcome.{done, go_on, then_do}
use Rattle.meanings.specs.statements.Arithmetic.{Less, basis_of, value_for, part_of, given, given_by, target_mask, targeted, all_targeted, calculated, both}
use Rattle.cobol_theory.specs.stored_numbers.Laws.{Fits}
use Rattle.cobol_theory.specs.cell_items.Cell.{number_operand, IsCell, cell_bytes, Holds}
use Rattle.cobol_theory.specs.cell_items.Laws.{IsWhole, less_in, goes_past, target_of}
use Rattle.cobol_theory.proofs.cell_items_lemmas.Cells.{cell-found, cell-read, read-whole, bytes-long}
use Rattle.cobol_theory.proofs.cell_items_lemmas.Moves.{units-whole, put-whole}
use Rattle.cobol_theory.proofs.cell_items_lemmas.Tests.{whole_of, number-is, below-limit}

-- ---- the difference

sub-small : (a b : ℕ) → unsigned_abs (sub_ℕ a b) ≤ a + b
sub-small a b = by_test (ltb a b) refl
  where
    by_test : (t : Bool) → ltb a b ≡ t → unsigned_abs (cond t (negsuc (b - suc a)) (pos (a - b))) ≤ a + b
    by_test true e = omega (arith, ltb-true a b e)
    by_test false e = omega arith

abs-less : (a b : ℤ) → unsigned_abs (a -ℤ b) ≤ unsigned_abs a + unsigned_abs b
abs-less (pos a) (pos zero) = omega arith
abs-less (pos a) (pos (suc b)) = sub-small a (suc b)
abs-less (pos a) (negsuc b) = omega arith
abs-less (negsuc a) (pos zero) = let small = sub-small 0 (suc a) in omega (arith, small)
abs-less (negsuc a) (pos (suc b)) = omega arith
abs-less (negsuc a) (negsuc b) = let small = sub-small (suc b) (suc a) in omega (arith, small)

-- both are below 10^18, so their difference is far from the limit
less-fits : (a b : ℤ) (digits : ℕ) → digits ≤ 18 → unsigned_abs a < 10 ^ digits → unsigned_abs b < 10 ^ digits → FitsDigits (a -ℤ b)
less-fits a b digits few first second =
    let more = power_up_to digits 18 few in
    let near = abs-less a b in
    omega (arith, first, second, more, near)

module _ (value : ℤ) (within : FitsDigits value) (worth : Dec) (whole : worth.scale ≡ 0) (fits : FitsDigits (value -ℤ worth.value)) where
  abbrev held : Dec
  held = whole_of value within

  no-scale : common_scale held worth ≡ 0
  no-scale = omega (arith, whole)

  own-left : units held (common_scale held worth) ≡ value
  own-left = units_own held (common_scale held worth) no-scale

  own-right : units worth (common_scale held worth) ≡ worth.value
  own-right = units_own worth (common_scale held worth) (no-scale ∙ sym whole)

  pub difference-is : difference_of held worth ≡ Some (whole_of (value -ℤ worth.value) fits)
  difference-is =
      aligned_short held worth (difference_units held worth) (subst FitsDigits (sym own-left) within) (subst FitsDigits (sym own-right) worth.in_digits)
      ∙ ap (λ s. decimal (difference_units held worth) s) no-scale
      ∙ ap (λ a. decimal (a -ℤ units worth (common_scale held worth)) 0) own-left
      ∙ ap (λ b. decimal (value -ℤ b) 0) own-right
      ∙ decimal_yes (value -ℤ worth.value) 0 fits (omega arith)

-- ---- what is stored of it

and-no : (b : Bool) → (b && false) ≡ false
and-no true = refl
and-no false = refl

pub stored-low : (number : Dec) (digits : ℕ) → number.scale ≡ 0 →
    stored_of number digits 0 false ≡ record { value = with_sign number.value (unsigned_abs number.value % 10 ^ digits); size_error = nat_le (10 ^ digits) (unsigned_abs number.value) }
stored-low number digits whole =
    ap (λ u. record { value = with_sign number.value (u % 10 ^ digits); size_error = nat_le (10 ^ digits) u }) (units-whole number whole)

pub low-kept : (digits : ℕ) (number : Dec) → 1 ≤ digits → digits ≤ 18 → number.scale ≡ 0 →
    kept digits 0 false number ≡ Some (record { value = with_sign number.value (unsigned_abs number.value % 10 ^ digits); size_error = nat_le (10 ^ digits) (unsigned_abs number.value) })
low-kept digits number some few whole =
    ap (λ n. if nat_le 1 n && nat_le n 18 then Some (stored_of number n 0 false) else None) no-part
    ∙ ap (λ b. if b && nat_le digits 18 then Some (stored_of number digits 0 false) else None) (le-leb 1 digits some)
    ∙ ap (λ b. if b then Some (stored_of number digits 0 false) else None) (le-leb digits 18 few)
    ∙ ap Some (stored-low number digits whole)
  where
    no-part : digits + 0 ≡ digits
    no-part = omega arith

-- ---- SUBTRACT

number-value : (memory : Memory) (number : Number) → operand_value (number_operand number) memory ≡ Ok (literal_value number)
number-value memory number =
    ap (λ f. f memory) (fold-roll-Operand (OfMemory Value) (OfMemory Value) (OfMemory Reached) (OfMemory Value) (Memory → Spot → Answer Spot) place.expr_step place.operand_step place.place_step place.sub_step place.window_step (Operand-F.Number number))

module _ (areas : List Area) (item root digits : ℕ) (cell : IsCell areas item root digits true) (store : Roots) (value : ℤ) (fits : Fits true digits value) (holding : Holds store root digits true value) (number : Number) (worth : Dec) (is : IsWhole number worth digits) where
  abbrev spot : Spot
  spot = record { root = root; start = 0; length = digits }

  abbrev mask : Option (List ℕ)
  mask = target_mask areas (target_of item)

  within : FitsDigits value
  within = below-limit value digits cell.few fits

  near : FitsDigits (value -ℤ worth.value)
  near = less-fits value worth.value digits cell.few fits is.fits

  abbrev left : Dec
  left = whole_of (value -ℤ worth.value) near

  now-worth : number_at store spot (forms.Number true digits 0 (Digits Within)) ≡ Ok (Some (whole_of value within))
  now-worth =
      ap (λ bytes. and_then (number_of (number_in true (Digits Within) bytes) 0) (λ number. Ok (Some number))) (cell-read store root digits true value holding)
      ∙ ap (λ z. and_then (number_of z 0) (λ number. Ok (Some number))) (read-whole areas item root digits true cell value fits)
      ∙ ap (λ answer. and_then answer (λ number. Ok (Some number))) (number-is value within)

  basis-is : basis_of (memory_of areas store) (calcs.Subtract (number_operand number ∷ [])) ≡ Ok (Less (Some worth))
  basis-is =
      ap (λ answer. and_then (and_then answer (λ value. Ok value)) (λ sum. Ok (Less sum))) (number-value (memory_of areas store) number)
      ∙ ap (λ v. Ok (Less v)) is.value

  given-low : given mask false store spot (forms.Number true digits 0 (Digits Within)) false (Some left)
      ≡ done (slice_set store root (cell_bytes digits true (less_in digits value worth.value))) (goes_past digits value worth.value)
  given-low =
      ap (λ stored. given_by false store spot true (Digits Within) stored) (low-kept digits left cell.some cell.few refl)
      ∙ ap (λ b. if b then done store true else done (put_at store spot (cell_bytes digits true (less_in digits value worth.value))) (goes_past digits value worth.value)) (and-no (goes_past digits value worth.value))
      ∙ ap (λ s. done s (goes_past digits value worth.value)) (put-whole store root digits (cell_bytes digits true value) (cell_bytes digits true (less_in digits value worth.value)) holding (bytes-long digits true value) (bytes-long digits true (less_in digits value worth.value)))

  targeted-low : targeted areas false (Less (Some worth)) store (target_of item)
      ≡ done (slice_set store root (cell_bytes digits true (less_in digits value worth.value))) (goes_past digits value worth.value)
  targeted-low =
      ap (λ r. go_on store r (λ now place. go_on now (value_for (part_of mask place.form) (number_at now place.spot place.form) (Less (Some worth))) (λ later value. given mask false later place.spot place.form false value))) (cell-found areas item root digits true cell store)
      ∙ ap (λ answer. go_on store (and_then answer (λ old. Ok (both difference_of old (Some worth)))) (λ later value. given mask false later spot (forms.Number true digits 0 (Digits Within)) false value)) now-worth
      ∙ ap (λ v. given mask false store spot (forms.Number true digits 0 (Digits Within)) false v) (difference-is value within worth is.whole near)
      ∙ given-low

  pub lowered : calculated areas (calcs.Subtract (number_operand number ∷ [])) false (target_of item ∷ []) store
      ≡ done (slice_set store root (cell_bytes digits true (less_in digits value worth.value))) (goes_past digits value worth.value)
  lowered =
      ap (λ answer. go_on store answer (λ now basis. all_targeted areas false basis false now (target_of item ∷ []))) basis-is
      ∙ ap (λ outcome. then_do outcome (λ now error. all_targeted areas false (Less (Some worth)) error now [])) targeted-low
