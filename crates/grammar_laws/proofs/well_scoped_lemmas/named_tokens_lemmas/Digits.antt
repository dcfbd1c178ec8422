-- A run that begins as a number has a digit.
use Rattle.std.proofs.Common.{◌≡◌, ℕ, zero, suc, ◌+◌, Bool, true, false, not, ◌&&◌, List, [], ◌∷◌, take, filter, refl, ap, sym, ◌∙◌, subst, arith, cond}
use Rattle.std.specs.Prelude.{◌||◌, ◌==◌, if◌then◌else◌}
use Rattle.std.proofs.lemmas.Bool.{and_parts}
use Rattle.cob_base.specs.Spelling.{word_byte}
use Rattle.cobol_lex.specs.Byte.{is_digit, is_point, is_sign, leads_sign, begins}
use Rattle.cobol_lex.specs.Number.{begins_unsigned, begins_number, unsigned_length, number_run, unsigned, digits_of}
use Rattle.cobol_lex.proofs.BoolLemmas.{either_way, same_byte}
use Rattle.program_facts.specs.well_scoped.Part.{is_filled}

apart : false ≡ true → ⊥
apart e = cc

word_from : (d x y z : Bool) → d ≡ true → (d || x || y || z) ≡ true
word_from true x y z h = refl
word_from false x y z h = absurd (apart h)

digit_is_word : (b : ℕ) → is_digit b ≡ true → word_byte b ≡ true
digit_is_word b h = word_from (is_digit b) _ _ _ h

or_first : (x y : Bool) → x ≡ true → (x || y) ≡ true
or_first true y h = refl
or_first false y h = absurd (apart h)

or_second : (x y : Bool) → y ≡ true → (x || y) ≡ true
or_second true y h = refl
or_second false y h = h

or_other : (x y : Bool) → x ≡ false → (x || y) ≡ true → y ≡ true
or_other true y e h = absurd (apart (sym e))
or_other false y e h = h

-- no digit is a point
digit_no_point : (b : ℕ) → is_digit b ≡ true → not (is_point b) ≡ true
digit_no_point b h = either_way (is_point b) (not (is_point b) ≡ true)
    (λ e. absurd (apart (subst (λ c. is_digit c ≡ true) (same_byte b 46 e) h)))
    (λ e. ap not e)

filter_front : (p : ℕ → Bool) (b : ℕ) (bytes : List ℕ) → p b ≡ true → is_filled (filter p (b ∷ bytes)) ≡ true
filter_front p b bytes h = subst (λ v. is_filled (cond v (b ∷ filter p bytes) (filter p bytes)) ≡ true) (sym h) refl

filter_behind : (p : ℕ → Bool) (b : ℕ) (bytes : List ℕ) → is_filled (filter p bytes) ≡ true → is_filled (filter p (b ∷ bytes)) ≡ true
filter_behind p b bytes h = elim (p b) as (λ v. is_filled (cond v (b ∷ filter p bytes) (filter p bytes)) ≡ true) [ true ↦ refl | false ↦ h ]

-- one byte more is taken where it belongs to the run
taken-one : (v : Bool) (n b : ℕ) (rest : List ℕ) → v ≡ true → take (if v then 1 + n else 0) (b ∷ rest) ≡ b ∷ take n rest
taken-one true n b rest h = let one : 1 + n ≡ suc n = omega arith in ap (λ k. take k (b ∷ rest)) one
taken-one false n b rest h = absurd (apart h)

abbrev FrontFilled : List ℕ → Type 0
FrontFilled bytes = is_filled (digits_of (take (unsigned_length bytes) bytes)) ≡ true

digit_front : (b : ℕ) (rest : List ℕ) → is_digit b ≡ true → FrontFilled (b ∷ rest)
digit_front b rest d =
    ap (λ bytes. is_filled (digits_of bytes)) (taken-one (word_byte b || is_point b && begins is_digit rest) (unsigned_length rest) b rest (or_first (word_byte b) _ (digit_is_word b d)))
    ∙ filter_front (λ c. not (is_point c)) b (take (unsigned_length rest) rest) (digit_no_point b d)

point_front : (b : ℕ) (rest : List ℕ) → is_point b ≡ true → begins is_digit rest ≡ true → FrontFilled (b ∷ rest)
point_front b [] p e = absurd (apart e)
point_front b (c ∷ others) p e =
    ap (λ bytes. is_filled (digits_of bytes)) (taken-one (word_byte b || is_point b && begins is_digit (c ∷ others)) (unsigned_length (c ∷ others)) b (c ∷ others) (or_second (word_byte b) _ (ap (λ v. v && is_digit c) p ∙ e)))
    ∙ filter_behind (λ c. not (is_point c)) b (take (unsigned_length (c ∷ others)) (c ∷ others)) (digit_front c others e)

unsigned_front : (bytes : List ℕ) → begins_unsigned bytes ≡ true → FrontFilled bytes
unsigned_front [] h = absurd (apart h)
unsigned_front (b ∷ rest) h =
    either_way (is_digit b) (FrontFilled (b ∷ rest)) (digit_front b rest)
    (λ d. let e = and_parts (is_point b) (begins is_digit rest) (or_other (is_digit b) _ d h) in point_front b rest e.0 e.1)

sign_is : (b : ℕ) → is_sign b ≡ true → (P : ℕ → Type 0) → P 43 → P 45 → P b
sign_is b s P plus minus = either_way (b == 43) (P b)
    (λ e. subst P (sym (same_byte b 43 e)) plus)
    (λ e. subst P (sym (same_byte b 45 (or_other (b == 43) (b == 45) e s))) minus)

sign_no_unsigned : (b : ℕ) (rest : List ℕ) → is_sign b ≡ true → begins_unsigned (b ∷ rest) ≡ false
sign_no_unsigned b rest s = sign_is b s (λ c. begins_unsigned (c ∷ rest) ≡ false) refl refl

-- behind its sign
run_unsigned : (v : Bool) (n b : ℕ) (rest : List ℕ) → v ≡ true → (if v then 1 + n else unsigned_length (b ∷ rest)) ≡ suc n
run_unsigned true n b rest h = omega arith
run_unsigned false n b rest h = absurd (apart h)

abbrev NumberFilled : List ℕ → Type 0
NumberFilled bytes = is_filled (digits_of (unsigned (number_run bytes))) ≡ true

signed_front : (before b : ℕ) (rest : List ℕ) → begins_number before (b ∷ rest) ≡ true → is_sign b ≡ true → NumberFilled (b ∷ rest)
signed_front before b rest h s =
    let front : begins_unsigned rest ≡ true = (and_parts (is_sign b && leads_sign before) (begins_unsigned rest) (or_other (begins_unsigned (b ∷ rest)) _ (sign_no_unsigned b rest s) h)).1 in
    let run : number_run (b ∷ rest) ≡ b ∷ take (unsigned_length rest) rest =
    ap (λ k. take k (b ∷ rest)) (run_unsigned (is_sign b) (unsigned_length rest) b rest s) in
    ap (λ bytes. is_filled (digits_of (unsigned bytes))) run
    ∙ ap (λ v. is_filled (digits_of (if v then take (unsigned_length rest) rest else b ∷ take (unsigned_length rest) rest))) s
    ∙ unsigned_front rest front

first_of : (u v w x : Bool) → v ≡ false → (u || v && w && x) ≡ true → u ≡ true
first_of true v w x e h = refl
first_of false false w x e h = absurd (apart h)
first_of false true w x e h = absurd (apart (sym e))

no_sign : (b : ℕ) (rest : List ℕ) → is_sign b ≡ false → (k : ℕ) → is_filled (digits_of (unsigned (take k (b ∷ rest)))) ≡ is_filled (digits_of (take k (b ∷ rest)))
no_sign b rest s zero = refl
no_sign b rest s (suc k) = ap (λ v. is_filled (digits_of (if v then take k rest else b ∷ take k rest))) s

plain_front : (before b : ℕ) (rest : List ℕ) → begins_number before (b ∷ rest) ≡ true → is_sign b ≡ false → NumberFilled (b ∷ rest)
plain_front before b rest h s =
    let front : begins_unsigned (b ∷ rest) ≡ true = first_of (begins_unsigned (b ∷ rest)) (is_sign b) (leads_sign before) (begins_unsigned rest) s h in
    ap (λ v. is_filled (digits_of (unsigned (take (if v then 1 + unsigned_length rest else unsigned_length (b ∷ rest)) (b ∷ rest))))) s
    ∙ no_sign b rest s (unsigned_length (b ∷ rest)) ∙ unsigned_front (b ∷ rest) front

pub number_front : (before : ℕ) (bytes : List ℕ) → begins_number before bytes ≡ true → NumberFilled bytes
number_front before [] h = absurd (apart h)
number_front before (b ∷ rest) h = either_way (is_sign b) (NumberFilled (b ∷ rest)) (signed_front before b rest h) (plain_front before b rest h)
