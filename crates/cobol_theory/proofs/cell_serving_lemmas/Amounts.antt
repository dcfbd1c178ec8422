-- Operands and places that are worth whole numbers.
use Rattle.std.proofs.Common.{◌≡◌, ℕ, zero, suc, ◌+◌, ◌-◌, ◌*◌, ◌^◌, ◌<◌, ◌≤◌, nat_le, Bool, true, false, if◌then◌else◌, List, [], ◌∷◌, length, None, Some, Option, refl, ap, sym, subst, ◌∙◌, ◌⊎◌, inl, inr, arith, leb-true, eqb-true, ◌&&◌}
use Rattle.std.specs.Prelude.{Ok, Err, ℤ, pos, neg_ℤ, unsigned_abs, slice_get, slice_index, option_and_then, take, drop, ◌==◌}
use Rattle.std.specs.Int.Digits.{number_from_digits}
use Rattle.std.proofs.lemmas.Bool.{and_parts}
use Rattle.std.proofs.lemmas.List.{length-take, length-drop}
use Rattle.std.proofs.Math.Nat.{mul-le-mul_right, mul_assoc}
use Rattle.cob_num.specs.declared.number.Dec.{Dec}
use Rattle.cob_num.specs.Digits.{scale_limit}
use Rattle.cob_num.specs.Exact.{decimal, tested, fits_digits}
use Rattle.cob_num.proofs.LimitLemmas.{decimal_yes}
use Rattle.cob_num.proofs.PowerLemmas.{power_up_to}
use Rattle.stored_forms.specs.Item.{is_held}
use Rattle.stored_forms.specs.Binary.{binary_size, binary_value, signed_number}
use Rattle.stored_forms.specs.Packed.{packed_size, packed_value}
use Rattle.stored_forms.proofs.ItemLemmas.{held-from-test}
use Rattle.stored_forms.proofs.RuleLemmas.{packed-read}
use Rattle.cob_tree.specs.declared.ending.Abend.{Abend}
use Rattle.cob_tree.specs.declared.ending.Abend.TheVariants.{BadDigits}
use Rattle.cob_tree.specs.declared.picture.Sign.{Sign}
use Rattle.cob_tree.specs.declared.picture.Sign.TheVariants.{Within, SeparateLeading, SeparateTrailing}
use Rattle.cob_tree.specs.declared.place.Figure.TheVariants as figures
use Rattle.cob_tree.specs.declared.place.Expr.{Expr}
use Rattle.cob_tree.specs.declared.place.Operand.{Operand, out-Operand}
use Rattle.cob_tree.specs.declared.place.Place.{Place, out-Place, map-Place, fold_out-Place}
use Rattle.cob_tree.specs.declared.place.Sub.{Sub}
use Rattle.cob_tree.specs.declared.place.Window.{Window}
use Rattle.cob_tree.specs.declared.place.Expr.TheOpen.{Operand-F, Place-F}
use Rattle.cob_store.specs.declared.area.Area.{Area}
use Rattle.cob_store.specs.declared.area.Storage.{Storage}
use Rattle.cob_store.specs.declared.area.Storage.TheVariants.{Digits, Binary, Packed}
use Rattle.cob_store.specs.declared.spot.Spot.{Spot}
use Rattle.cob_store.specs.declared.spot.Reached.{Reached}
use Rattle.cob_store.specs.Answer.{Answer, and_then, there_or}
use Rattle.cob_tree.specs.Digits.{is_digit, digits_after, digits_value}
use Rattle.cob_store.specs.Number.{front, last, positive, negative, is_overpunched, within, beside, displayed_number, number_in, is_stored}
use Rattle.cob_store.specs.Store.{Roots, spot_bytes, number_of}
use Rattle.cob_store.specs.Place as place
use Rattle.cob_store.specs.Place.{Memory, memory_of, Value, OfMemory, reached, reached_in, subscripted, spot_of, expr_value, operand_value, sub_value, number_at}
use Rattle.cobol_theory.specs.stored_numbers.Laws.{bytes_for}
use Rattle.cobol_theory.proofs.cell_items_lemmas.Takes.{Layered, worth_by, worth-of}
use Rattle.cobol_theory.specs.cell_serving.Amounts.{IsWholePlace, IsAmountBy, IsAmount}
use Rattle.cobol_theory.specs.cell_serving.Choosing.{IsWholeItem}
use Rattle.cobol_theory.specs.cell_serving.Laws.{IsWholeAmount}

-- ---- how large the number of some digits is

take-short : {A : Type 0} (most : ℕ) (xs : List A) → length (take most xs) ≤ most
take-short most xs = let is = length-take most xs in omega (arith, is)

more-digits : (digit number rest power : ℕ) → digit ≤ 9 → rest < (number * 10 + digit + 1) * power → rest < (number + 1) * (10 * power)
more-digits digit number rest power small h = let wide = mul-le-mul_right power room in omega (arith, h, wide, same)
  where
    room : number * 10 + digit + 1 ≤ (number + 1) * 10
    room = omega (arith, small)

    same : (number + 1) * 10 * power ≡ (number + 1) * (10 * power)
    same = mul_assoc (number + 1) 10 power

digit-small : (byte : ℕ) → is_digit byte ≡ true → byte - 48 ≤ 9
digit-small byte is = let both = and_parts (nat_le 48 byte) (nat_le byte 57) is in let small = leb-true byte 57 both.1 in omega (arith, small)

digits-bound : (bytes : List ℕ) (number found : ℕ) → digits_after number bytes ≡ Some found → found < (number + 1) * 10 ^ length bytes
digits-bound [] number found is = let same = inner is in omega (arith, same)
  where
    inner : Some number ≡ Some found → number ≡ found
    inner e = cc
digits-bound (byte ∷ bytes) number found is = by_digit (digits-bound bytes (number * 10 + (byte - 48)) found) (is_digit byte) refl is
  where
    by_digit : (digits_after (number * 10 + (byte - 48)) bytes ≡ Some found → found < (number * 10 + (byte - 48) + 1) * 10 ^ length bytes) → (t : Bool) → is_digit byte ≡ t → (if t then digits_after (number * 10 + (byte - 48)) bytes else None) ≡ Some found → found < (number + 1) * 10 ^ suc (length bytes)
    by_digit later false e h = cc
    by_digit later true e h = subst (λ power. found < (number + 1) * power) step (more-digits (byte - 48) number found (10 ^ length bytes) (digit-small byte e) (later h))
      where
        step : 10 * 10 ^ length bytes ≡ 10 ^ suc (length bytes)
        step = omega arith

pub value-bound : (bytes : List ℕ) (digits found : ℕ) → length bytes ≤ digits → digits_value bytes ≡ Some found → found < 10 ^ digits
value-bound bytes digits found short is = by_length (nat_le (length bytes) 18) is
  where
    by_length : (t : Bool) → (if t then digits_after 0 bytes else None) ≡ Some found → found < 10 ^ digits
    by_length false h = cc
    by_length true h = let small = digits-bound bytes 0 found h in let more = power_up_to (length bytes) digits short in omega (arith, small, more)

-- ---- the number of an item

positive-of : (value : Option ℕ) (number : ℤ) → positive value ≡ Some number → (n : ℕ) × (value ≡ Some n) × (unsigned_abs number ≡ n)
positive-of None number is = cc
positive-of (Some n) number is = (n, refl, ap unsigned_abs (sym (inner is)))
  where
    inner : Some (pos n) ≡ Some number → pos n ≡ number
    inner e = cc

pub size-neg : (n : ℕ) → unsigned_abs (neg_ℤ (pos n)) ≡ n
size-neg zero = refl
size-neg (suc n) = refl

negative-of : (value : Option ℕ) (number : ℤ) → negative value ≡ Some number → (n : ℕ) × (value ≡ Some n) × (unsigned_abs number ≡ n)
negative-of None number is = cc
negative-of (Some n) number is = (n, refl, ap unsigned_abs (sym (inner is)) ∙ size-neg n)
  where
    inner : Some (neg_ℤ (pos n)) ≡ Some number → neg_ℤ (pos n) ≡ number
    inner e = cc

beside-of : (sign : ℕ) (value : Option ℕ) (number : ℤ) → beside sign value ≡ Some number → (n : ℕ) × (value ≡ Some n) × (unsigned_abs number ≡ n)
beside-of sign value number is = by_plus (sign == 43) is
  where
    by_minus : (t : Bool) → (if t then negative value else None) ≡ Some number → (n : ℕ) × (value ≡ Some n) × (unsigned_abs number ≡ n)
    by_minus true h = negative-of value number h
    by_minus false h = cc

    by_plus : (t : Bool) → (if t then positive value else (if sign == 45 then negative value else None)) ≡ Some number → (n : ℕ) × (value ≡ Some n) × (unsigned_abs number ≡ n)
    by_plus true h = positive-of value number h
    by_plus false h = by_minus (sign == 45) h

small-of : (bytes : List ℕ) (number : ℤ) → (n : ℕ) × (digits_value bytes ≡ Some n) × (unsigned_abs number ≡ n) → length bytes ≤ 18 → unsigned_abs number < 10 ^ 18
small-of bytes number found short = let small = value-bound bytes 18 found.0 short found.1 in subst (λ m. m < 10 ^ 18) (sym found.2) small

within-below : (bytes : List ℕ) (number : ℤ) → length bytes ≤ 18 → within bytes ≡ Some number → unsigned_abs number < 10 ^ 18
within-below bytes number short is = by_last (is_overpunched (last bytes)) refl is
  where
    lowered : (value : Option ℕ) (n : ℕ) → option_and_then (λ number. Some (number * 10 + (last bytes - 112))) value ≡ Some n → (m : ℕ) × (value ≡ Some m) × (m * 10 + (last bytes - 112) ≡ n)
    lowered None n e = cc
    lowered (Some m) n e = (m, refl, inner e)
      where
        inner : Some (m * 10 + (last bytes - 112)) ≡ Some n → m * 10 + (last bytes - 112) ≡ n
        inner e = cc

    by_last : (t : Bool) → is_overpunched (last bytes) ≡ t → (if t then negative (option_and_then (λ number. Some (number * 10 + (last bytes - 112))) (digits_value (front bytes))) else positive (digits_value bytes)) ≡ Some number → unsigned_abs number < 10 ^ 18
    by_last false e h = small-of bytes number (positive-of (digits_value bytes) number h) short
    by_last true e h =
        let found = negative-of (option_and_then (λ number. Some (number * 10 + (last bytes - 112))) (digits_value (front bytes))) number h in
        let before = lowered (digits_value (front bytes)) found.0 found.1 in
        let cut = take-short (length bytes - 1) bytes in
        let small = value-bound (front bytes) 17 before.0 (omega (arith, cut, short)) before.1 in
        let both = and_parts (nat_le 112 (last bytes)) (nat_le (last bytes) 121) e in
        let digit = leb-true (last bytes) 121 both.1 in
        let is = before.2 in
        let same = found.2 in
        omega (arith, small, digit, is, same)

-- so many bytes hold at most 18 digits
displayed-below : (signed : Bool) (sign : Sign) (digits : ℕ) (bytes : List ℕ) (number : ℤ) → digits ≤ 18 → length bytes ≤ bytes_for signed (Digits sign) digits → displayed_number signed sign bytes ≡ Some number → unsigned_abs number < 10 ^ 18
displayed-below false sign digits bytes number few short is = small-of bytes number (positive-of (digits_value bytes) number is) (omega (arith, few, short))
displayed-below true Within digits bytes number few short is = within-below bytes number (omega (arith, few, short)) is
displayed-below true SeparateLeading digits bytes number few short is =
    let cut = length-drop 1 bytes in small-of (drop 1 bytes) number (beside-of (slice_index bytes 0) (digits_value (drop 1 bytes)) number is) (omega (arith, cut, few, short))
displayed-below true SeparateTrailing digits bytes number few short is =
    let cut = take-short (length bytes - 1) bytes in small-of (front bytes) number (beside-of (last bytes) (digits_value (front bytes)) number is) (omega (arith, cut, few, short))

-- what a binary or packed item of so many digits holds, it reads where it has its size
stored-below : (size : ℕ → ℕ) (digits places : ℕ) (read : Option ℤ) (number : ℤ) → (places ≡ size digits → read ≡ Some number → unsigned_abs number < 10 ^ digits) →
    (if is_stored size digits places then read else None) ≡ Some number → unsigned_abs number < 10 ^ 18
stored-below size digits places read number small is = by_stored (is_stored size digits places) refl is
  where
    by_stored : (t : Bool) → is_stored size digits places ≡ t → (if t then read else None) ≡ Some number → unsigned_abs number < 10 ^ 18
    by_stored false e h = cc
    by_stored true e h =
        let first = and_parts (nat_le 1 digits && nat_le digits 18) (places == size digits) e in
        let few = leb-true digits 18 (and_parts (nat_le 1 digits) (nat_le digits 18) first.0).1 in
        let below = small (eqb-true places (size digits) first.1) h in
        let more = power_up_to digits 18 few in
        omega (arith, below, more)

binary-below : (bytes : List ℕ) (digits : ℕ) (signed : Bool) (number : ℤ) → binary_value bytes digits signed ≡ Some number → unsigned_abs number < 10 ^ digits
binary-below bytes digits signed number is = by_held (is_held value digits signed) refl is
  where
    value : ℤ
    value = signed_number (length bytes) (number_from_digits 256 bytes)

    by_held : (t : Bool) → is_held value digits signed ≡ t → (if t then Some value else None) ≡ Some number → unsigned_abs number < 10 ^ digits
    by_held false e h = cc
    by_held true e h = let same : value ≡ number = inner h in subst (λ z. unsigned_abs z < 10 ^ digits) same (held-from-test value digits signed e).short
      where
        inner : Some value ≡ Some number → value ≡ number
        inner e = cc

-- a number is read of at most 18 digits
number-below : (signed : Bool) (storage : Storage) (digits : ℕ) (bytes : List ℕ) (number : ℤ) → digits ≤ 18 → length bytes ≤ bytes_for signed storage digits → number_in signed storage bytes ≡ Some number → unsigned_abs number < 10 ^ 18
number-below signed (Digits sign) digits bytes number few short is = displayed-below signed sign digits bytes number few short is
number-below signed (Binary stored) digits bytes number few short is =
    stored-below binary_size stored (length bytes) (binary_value bytes stored signed) number (λ size read. binary-below bytes stored signed number read) is
number-below signed (Packed stored) digits bytes number few short is =
    stored-below packed_size stored (length bytes) (packed_value bytes stored signed) number (λ size read. (packed-read bytes stored signed number size read).short) is

-- ---- a place

abbrev below : Place-F Expr Operand Place Sub Window → Place-F (OfMemory Value) (OfMemory Value) (OfMemory Reached) (OfMemory Value) (Memory → Spot → Answer Spot)
below = map-Place Expr Operand Place Sub Window (OfMemory Value) (OfMemory Value) (OfMemory Reached) (OfMemory Value) (Memory → Spot → Answer Spot) expr_value operand_value reached sub_value place.window_of

layered : (p : Place) (memory : Memory) → (out-Place p).window ≡ None → (area : Area) → slice_get memory.areas (out-Place p).item ≡ Some area →
    reached p memory ≡ and_then (subscripted memory (below (out-Place p)).subs area.dims area.start) (λ start. Ok (record { spot = spot_of area start; form = area.form }))
layered p memory plain area lies =
    ap (λ f. f memory) (fold_out-Place (OfMemory Value) (OfMemory Value) (OfMemory Reached) (OfMemory Value) (Memory → Spot → Answer Spot) place.expr_step place.operand_step place.place_step place.sub_step place.window_step p)
    ∙ ap (λ window. reached_in memory (below (out-Place p)).subs window (slice_get memory.areas (out-Place p).item)) windowless
    ∙ ap (reached_in memory (below (out-Place p)).subs None) lies
  where
    windowless : (below (out-Place p)).window ≡ None
    windowless = ap (λ window. (below (record { item = (out-Place p).item; of = (out-Place p).of; subs = (out-Place p).subs; window = window })).window) plain

module _ (areas : List Area) (p : Place) (is : IsWholePlace areas p) where
  found : (store : Roots) → ((abend : Abend) × (reached p (memory_of areas store) ≡ Err abend)) ⊎ ((start : ℕ) × (reached p (memory_of areas store) ≡ Ok (record { spot = spot_of is.area start; form = is.area.form })))
  found store = by_start (subscripted (memory_of areas store) (below (out-Place p)).subs is.area.dims is.area.start) (layered p (memory_of areas store) is.plain is.area is.lies)
    where
      by_start : (start : Answer ℕ) → reached p (memory_of areas store) ≡ and_then start (λ start. Ok (record { spot = spot_of is.area start; form = is.area.form })) →
          ((abend : Abend) × (reached p (memory_of areas store) ≡ Err abend)) ⊎ ((start : ℕ) × (reached p (memory_of areas store) ≡ Ok (record { spot = spot_of is.area start; form = is.area.form })))
      by_start (Ok start) same = inr (start, same)
      by_start (Err abend) same = inl (abend, same)

  pub whole-item : IsWholeItem areas p
  whole-item store = elim (found store) [
    | inl bad ↦ inl bad
    | inr good ↦ inr (spot_of is.area good.0, is.whole.signed, is.whole.digits, is.whole.storage, good.1 ∙ ap (λ form. Ok (record { spot = spot_of is.area good.0; form = form })) is.whole.form)
  ]

-- ---- an operand

tested-worth : (value : ℤ) (scale : ℕ) (digits : Bool) (e : fits_digits value ≡ digits) (places : Bool) (h : nat_le scale scale_limit ≡ places) (number : Dec) →
    tested value scale digits e places h ≡ Some number → (number.scale ≡ scale) × (number.value ≡ value)
unfolding tested
tested-worth value scale true e true h number is = (cc, cc)
tested-worth value scale true e false h number is = cc
tested-worth value scale false e places h number is = cc

decimal-worth : (value : ℤ) (number : Dec) → decimal value 0 ≡ Some number → (number.scale ≡ 0) × (number.value ≡ value)
decimal-worth value number is = tested-worth value 0 (fits_digits value) refl (nat_le 0 scale_limit) refl number is

Worth : Answer Value → Type 0
Worth answer = ((abend : Abend) × (answer ≡ Err abend)) ⊎ ((worth : Dec) × (answer ≡ Ok (Some worth)) × (worth.scale ≡ 0) × (unsigned_abs worth.value < 10 ^ 18))

-- what is read is an abend, or that number
read-worth : (read : Option ℤ) → ((number : ℤ) → read ≡ Some number → unsigned_abs number < 10 ^ 18) → Worth (and_then (number_of read 0) (λ number. Ok (Some number)))
unfolding Worth
read-worth None small = inl (BadDigits, refl)
read-worth (Some value) small = by_decimal (decimal value 0) refl
  where
    by_decimal : (x : Option Dec) → decimal value 0 ≡ x → Worth (and_then (there_or BadDigits x) (λ number. Ok (Some number)))
    by_decimal None e = inl (BadDigits, refl)
    by_decimal (Some number) e =
        let is = decimal-worth value number e in
        inr (number, refl, is.0, subst (λ z. unsigned_abs z < 10 ^ 18) (sym is.1) (small value refl))

place-worth : (areas : List Area) (p : Place) → IsWholePlace areas p → (store : Roots) → Worth (and_then (reached p (memory_of areas store)) (λ r. number_at store r.spot r.form))
unfolding Worth
place-worth areas p is store = elim (found areas p is store) [
  | inl bad ↦ inl (bad.0, ap (λ r. and_then r (λ (r : Reached). number_at store r.spot r.form)) bad.1)
  | inr good ↦
      let spot = spot_of is.area good.0 in
      subst Worth (sym (ap (λ r. and_then r (λ (r : Reached). number_at store r.spot r.form)) good.1 ∙ ap (λ form. number_at store spot form) is.whole.form))
      (read-worth (number_in is.whole.signed is.whole.storage (spot_bytes store spot)) (λ number e.
      number-below is.whole.signed is.whole.storage is.whole.digits (spot_bytes store spot) number is.whole.few (subst (λ n. length (spot_bytes store spot) ≤ n) is.whole.size (take-short is.area.size _)) e))
]

amount-by : (areas : List Area) (y : Layered) → IsAmountBy areas y → (store : Roots) → Worth (worth_by (memory_of areas store) y)
unfolding Worth
amount-by areas (Operand-F.Place p) is store = place-worth areas p is store
amount-by areas (Operand-F.Number number) is store = inr (is.0, ap Ok is.1.value, is.1.whole, is.1.fits)
amount-by areas (Operand-F.Text bytes) is store = absurd is
amount-by areas (Operand-F.Figure figures.Zero) is store = zero-by (decimal (pos 0) 0) refl
  where
    zero-by : (x : Option Dec) → decimal (pos 0) 0 ≡ x → Worth (Ok x)
    zero-by (Some number) e = let is = decimal-worth (pos 0) number e in inr (number, refl, is.0, subst (λ z. unsigned_abs z < 10 ^ 18) (sym is.1) (omega arith))
    zero-by None e = let yes = decimal_yes (pos 0) 0 (omega arith) (omega arith) in cc
amount-by areas (Operand-F.Figure figures.Space) is store = absurd is
amount-by areas (Operand-F.Figure figures.HighValue) is store = absurd is
amount-by areas (Operand-F.Figure figures.LowValue) is store = absurd is
amount-by areas (Operand-F.Figure figures.Quote) is store = absurd is

pub whole-amount : (areas : List Area) (operand : Operand) → IsAmount areas operand → IsWholeAmount areas operand
unfolding Worth
whole-amount areas operand is store =
    subst Worth (sym (worth-of (memory_of areas store) operand)) (amount-by areas (out-Operand operand) is store)
