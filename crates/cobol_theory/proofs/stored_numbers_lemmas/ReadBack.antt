-- Digits, and the signs beside and within them, are read back; and so are binary and packed numbers.
use Rattle.std.proofs.Common.{◌≡◌, ℕ, zero, suc, ◌+◌, ◌-◌, ◌*◌, ◌/◌, ◌%◌, ◌^◌, ◌<◌, ◌≤◌, nat_le, Bool, true, false, ◌&&◌, if◌then◌else◌, List, [], ◌∷◌, ◌++◌, length, Some, None, refl, ap, sym, ◌∙◌, subst, arith, le-leb, leb-true, eq-eqb}
use Rattle.std.proofs.lemmas.List.{length-append, take_at}
use Rattle.std.specs.Prelude.{◌==◌, take, slice_index, option_and_then, ℤ, pos, negsuc, neg_ℤ, unsigned_abs}
use Rattle.std.specs.Int.{is_negative}
use Rattle.cob_tree.specs.declared.picture.Sign.{Sign}
use Rattle.cob_tree.specs.declared.picture.Sign.TheVariants.{Within, SeparateLeading, SeparateTrailing}
use Rattle.cob_tree.specs.declared.picture.Usage.{Usage}
use Rattle.cob_tree.specs.declared.picture.Usage.TheVariants as usages
use Rattle.cob_store.specs.declared.area.Storage.TheVariants.{Digits}
use Rattle.stored_forms.specs.Item.{IsHeld}
use Rattle.stored_forms.specs.Binary.{binary_size}
use Rattle.stored_forms.specs.Packed.{packed_size}
use Rattle.std.proofs.lemmas.Int.{ints}
use Rattle.cob_tree.specs.Digits.{is_digit, digits_after, digits_value}
use Rattle.cob_store.specs.Number.{front, last, positive, negative, is_overpunched, within, beside, displayed_number, number_in, padded, overpunched, displayed_bytes, number_bytes, storage_of, is_stored}
use Rattle.cob_store.specs.Size.{sign_size}
use Rattle.cob_store.proofs.PutLemmas.{not-below, binary-item, packed-item}
use Rattle.cobol_theory.specs.stored_numbers.Laws.{bytes_for, Fits}

-- digits behind digits
behind-by : (digit : Bool) (now number : ℕ) (xs ys : List ℕ) → digits_after now (xs ++ ys) ≡ option_and_then (λ m. digits_after m ys) (digits_after now xs) →
    (if digit then digits_after now (xs ++ ys) else None) ≡ option_and_then (λ m. digits_after m ys) (if digit then digits_after now xs else None)
behind-by true now number xs ys h = h
behind-by false now number xs ys h = refl

pub behind : (number : ℕ) (xs ys : List ℕ) → digits_after number (xs ++ ys) ≡ option_and_then (λ m. digits_after m ys) (digits_after number xs)
behind number [] ys = refl
behind number (x ∷ xs) ys = behind-by (is_digit x) (number * 10 + (x - 48)) number xs ys (behind (number * 10 + (x - 48)) xs ys)

pub digit-read : (number digit : ℕ) → digit < 10 → digits_after number ((48 + digit) ∷ []) ≡ Some (number * 10 + digit)
digit-read number digit h =
    ap (λ b. if b then Some (number * 10 + ((48 + digit) - 48)) else None) (is_digit-of digit h)
    ∙ ap (λ d. Some (number * 10 + d)) (omega arith)
  where
    is_digit-of : (digit : ℕ) → digit < 10 → is_digit (48 + digit) ≡ true
    is_digit-of digit h = ap (λ b. b && nat_le (48 + digit) 57) (le-leb 48 (48 + digit) (omega arith)) ∙ le-leb (48 + digit) 57 (omega (arith, h))

-- the last digits of a number
padded-read : (places number : ℕ) → number < 10 ^ places → digits_after 0 (padded places number) ≡ Some number
padded-read zero number h = ap Some (omega (arith, h))
padded-read (suc places) number h =
    behind 0 (padded places (number / 10)) ((48 + number % 10) ∷ [])
    ∙ ap (option_and_then (λ m. digits_after m ((48 + number % 10) ∷ []))) (padded-read places (number / 10) (omega (arith, h)))
    ∙ digit-read (number / 10) (number % 10) (omega arith)
    ∙ ap Some (omega arith)

padded-long : (places number : ℕ) → length (padded places number) ≡ places
padded-long zero number = refl
padded-long (suc places) number = length-append (padded places (number / 10)) ((48 + number % 10) ∷ []) ∙ ap (λ n. n + 1) (padded-long places (number / 10)) ∙ omega arith

value-read : (places number : ℕ) → places ≤ 18 → number < 10 ^ places → digits_value (padded places number) ≡ Some number
value-read places number few h =
    ap (λ b. if b then digits_after 0 (padded places number) else None) (le-leb (length (padded places number)) 18 (subst (λ n. n ≤ 18) (sym (padded-long places number)) few))
    ∙ padded-read places number h

-- the last byte, and those before it
last-of : (xs : List ℕ) (x : ℕ) → last (xs ++ x ∷ []) ≡ x
last-of xs x = ap (λ n. slice_index (xs ++ x ∷ []) (n - 1)) (length-append xs (x ∷ [])) ∙ ap (slice_index (xs ++ x ∷ [])) (omega arith) ∙ at-end xs
  where
    at-end : (xs : List ℕ) → slice_index (xs ++ x ∷ []) (length xs) ≡ x
    at-end [] = refl
    at-end (y ∷ ys) = at-end ys

front-of : (xs : List ℕ) (x : ℕ) → front (xs ++ x ∷ []) ≡ xs
front-of xs x = ap (λ n. take (n - 1) (xs ++ x ∷ [])) (length-append xs (x ∷ [])) ∙ ap (λ n. take n (xs ++ x ∷ [])) (omega arith) ∙ take_at xs (x ∷ []) (length xs) refl

-- ---- signs

not-overpunched : (digit : ℕ) → digit < 10 → is_overpunched (48 + digit) ≡ false
not-overpunched digit h = ap (λ b. b && nat_le (48 + digit) 121) (above (nat_le 112 (48 + digit)) refl)
  where
    above : (b : Bool) → b ≡ nat_le 112 (48 + digit) → nat_le 112 (48 + digit) ≡ false
    above true is = absurd (omega (arith, h, leb-true 112 (48 + digit) (sym is)))
    above false is = sym is

is-overpunched : (digit : ℕ) → digit < 10 → is_overpunched (112 + digit) ≡ true
is-overpunched digit h = ap (λ b. b && nat_le (112 + digit) 121) (le-leb 112 (112 + digit) (omega arith)) ∙ le-leb (112 + digit) 121 (omega (arith, h))

-- a number that isn't below zero, by its last digit
within-read : (places number : ℕ) → suc places ≤ 18 → number < 10 ^ suc places → within (padded (suc places) number) ≡ Some (pos number)
within-read places number few h =
    let bytes : List ℕ = padded places (number / 10) ++ (48 + number % 10) ∷ [] in
    ap (λ b. if is_overpunched b then negative (option_and_then (λ m. Some (m * 10 + (b - 112))) (digits_value (front bytes))) else positive (digits_value bytes))
    (last-of (padded places (number / 10)) (48 + number % 10))
    ∙ ap (λ t. if t then negative (option_and_then (λ m. Some (m * 10 + ((48 + number % 10) - 112))) (digits_value (front bytes))) else positive (digits_value bytes))
    (not-overpunched (number % 10) (omega arith))
    ∙ ap positive (value-read (suc places) number few h)

overpunched-read : (places number : ℕ) → suc places ≤ 18 → number < 10 ^ suc places → within (overpunched (suc places) number) ≡ Some (neg_ℤ (pos number))
overpunched-read places number few h =
    let bytes : List ℕ = padded places (number / 10) ++ (112 + number % 10) ∷ [] in
    ap (λ b. if is_overpunched b then negative (option_and_then (λ m. Some (m * 10 + (b - 112))) (digits_value (front bytes))) else positive (digits_value bytes))
    (last-of (padded places (number / 10)) (112 + number % 10))
    ∙ ap (λ t. if t then negative (option_and_then (λ m. Some (m * 10 + ((112 + number % 10) - 112))) (digits_value (front bytes))) else positive (digits_value bytes))
    (is-overpunched (number % 10) (omega arith))
    ∙ ap (λ xs. negative (option_and_then (λ m. Some (m * 10 + ((112 + number % 10) - 112))) (digits_value xs))) (front-of (padded places (number / 10)) (112 + number % 10))
    ∙ ap (λ m. negative (option_and_then (λ m. Some (m * 10 + ((112 + number % 10) - 112))) m)) (value-read places (number / 10) (omega (arith, few)) (omega (arith, h)))
    ∙ ap (λ n. Some (neg_ℤ (pos n))) (omega arith)

trailing-read : (places number sign : ℕ) → places ≤ 18 → number < 10 ^ places → beside (last (padded places number ++ sign ∷ [])) (digits_value (front (padded places number ++ sign ∷ []))) ≡ beside sign (Some number)
trailing-read places number sign few h =
    ap (λ b. beside b (digits_value (front (padded places number ++ sign ∷ [])))) (last-of (padded places number) sign)
    ∙ ap (λ xs. beside sign (digits_value xs)) (front-of (padded places number) sign)
    ∙ ap (beside sign) (value-read places number few h)

-- ---- all of them

no-more : (n : ℕ) → n ≡ n + 0
no-more n = omega arith

one-more : (n : ℕ) → suc n ≡ n + 1
one-more n = omega arith

-- the number with this sign
abbrev signed_as : Bool → ℕ → ℤ
signed_as true n = neg_ℤ (pos n)
signed_as false n = pos n

read-by : (sign : Sign) (minus : Bool) (places n : ℕ) → suc places ≤ 18 → n < 10 ^ suc places →
    displayed_number true sign (displayed_bytes true sign (suc places + sign_size sign) minus n) ≡ Some (signed_as minus n)
read-by Within false places n few h = subst (λ size. displayed_number true Within (displayed_bytes true Within size false n) ≡ Some (pos n)) (no-more (suc places)) (within-read places n few h)
read-by Within true places n few h = subst (λ size. displayed_number true Within (displayed_bytes true Within size true n) ≡ Some (neg_ℤ (pos n))) (no-more (suc places)) (overpunched-read places n few h)
read-by SeparateLeading false places n few h =
    subst (λ size. displayed_number true SeparateLeading (displayed_bytes true SeparateLeading size false n) ≡ Some (pos n)) (one-more (suc places)) (ap (beside 43) (value-read (suc places) n few h))
read-by SeparateLeading true places n few h =
    subst (λ size. displayed_number true SeparateLeading (displayed_bytes true SeparateLeading size true n) ≡ Some (neg_ℤ (pos n))) (one-more (suc places)) (ap (beside 45) (value-read (suc places) n few h))
read-by SeparateTrailing false places n few h =
    subst (λ size. displayed_number true SeparateTrailing (displayed_bytes true SeparateTrailing size false n) ≡ Some (pos n)) (one-more (suc places)) (trailing-read (suc places) n 43 few h)
read-by SeparateTrailing true places n few h =
    subst (λ size. displayed_number true SeparateTrailing (displayed_bytes true SeparateTrailing size true n) ≡ Some (neg_ℤ (pos n))) (one-more (suc places)) (trailing-read (suc places) n 45 few h)

is-below : (n : ℕ) → is_negative (negsuc n) ≡ true
is-below n = refl

read-signed : (sign : Sign) (places : ℕ) (number : ℤ) → suc places ≤ 18 → unsigned_abs number < 10 ^ suc places →
    number_in true (Digits sign) (number_bytes true (Digits sign) (suc places + sign_size sign) number) ≡ Some number
read-signed sign places (pos n) few h =
    ap (λ minus. displayed_number true sign (displayed_bytes true sign (suc places + sign_size sign) minus n)) (not-below n) ∙ read-by sign false places n few h
read-signed sign places (negsuc n) few h =
    ap (λ minus. displayed_number true sign (displayed_bytes true sign (suc places + sign_size sign) minus (suc n))) (is-below n) ∙ read-by sign true places (suc n) few h

read-plain : (sign : Sign) (places : ℕ) (number : ℤ) → suc places ≤ 18 → unsigned_abs number < 10 ^ suc places → is_negative number ≡ false →
    number_in false (Digits sign) (number_bytes false (Digits sign) (suc places) number) ≡ Some number
read-plain sign places (pos n) few h plain = ap positive (value-read (suc places) n few h)
read-plain sign places (negsuc n) few h plain = let is = is-below n in absurd (cc)

-- what is stored in digits
pub read-digits : (signed : Bool) (sign : Sign) (digits : ℕ) (number : ℤ) → 1 ≤ digits → digits ≤ 18 → Fits signed digits number →
    number_in signed (Digits sign) (number_bytes signed (Digits sign) (bytes_for signed (Digits sign) digits) number) ≡ Some number
read-digits true sign zero number some few fits = absurd (omega (arith, some))
read-digits true sign (suc places) number some few fits = read-signed sign places number few fits
read-digits false sign zero number some few fits = absurd (omega (arith, some))
read-digits false sign (suc places) number some few fits = read-plain sign places number few fits.0 fits.1

-- ---- binary and packed numbers

stored-so : (size : ℕ → ℕ) (digits : ℕ) → 1 ≤ digits → digits ≤ 18 → is_stored size digits (size digits) ≡ true
stored-so size digits some few =
    ap (λ b. b && nat_le digits 18 && size digits == size digits) (le-leb 1 digits some)
    ∙ ap (λ b. b && size digits == size digits) (le-leb digits 18 few)
    ∙ eq-eqb (size digits) (size digits) refl

-- an item has room for the number and its sign
held-of : (signed : Bool) (digits : ℕ) (number : ℤ) → Fits signed digits number → IsHeld number digits signed
held-of true digits number fits = record { short = fits; sign = λ unsigned. cc }
held-of false digits (pos n) fits = record { short = fits.0; sign = λ unsigned. omega (arith, ints) }
held-of false digits (negsuc n) fits = let is = is-below n in let plain = fits.1 in absurd (cc)

-- ---- all usages

pub read-back : (signed : Bool) (sign : Sign) (usage : Usage) (digits : ℕ) (number : ℤ) → 1 ≤ digits → digits ≤ 18 → Fits signed digits number →
    number_in signed (storage_of sign usage digits) (number_bytes signed (storage_of sign usage digits) (bytes_for signed (storage_of sign usage digits) digits) number) ≡ Some number
read-back signed sign usages.Display digits number some few fits = read-digits signed sign digits number some few fits
read-back signed sign usages.Binary digits number some few fits =
    (binary-item signed digits (binary_size digits) number (stored-so binary_size digits some few) (held-of signed digits number fits)).1
read-back signed sign usages.Packed digits number some few fits =
    (packed-item signed digits (packed_size digits) number (stored-so packed_size digits some few) (held-of signed digits number fits)).1
