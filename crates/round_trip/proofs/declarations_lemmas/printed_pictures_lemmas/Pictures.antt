-- The text of a picture, read run by run.
use Rattle.std.proofs.Common.{◌≡◌, ℕ, ◌+◌, ◌-◌, ◌*◌, ◌/◌, ◌%◌, ◌<◌, ◌≤◌, ◌^◌, Bool, true, false, ◌&&◌, ◌||◌, if◌then◌else◌, List, [], ◌∷◌, ◌++◌, Some, Ok, Err, refl, ap, sym, ◌∙◌, subst, append_assoc, append-nil, arith}
use Rattle.std.specs.Prelude.{nat_le, ◌==◌, decimal}
use Rattle.std.specs.Str.{byte}
use Rattle.std.specs.Char.{to_ascii_uppercase}
use Rattle.std.proofs.lemmas.Bool.Decides.{nat_tests}
use Rattle.std.proofs.lemmas.Bool.{le-leb}
use Rattle.std.proofs.lemmas.Fmt.{decimal_by_steps}
use Rattle.cob_base.specs.Bytes.{left_parenthesis, right_parenthesis, digit_0, digit_9}
use Rattle.cob_tree.specs.declared.picture.Picture.{Picture}
use Rattle.cob_tree.specs.declared.picture.Picture.TheVariants as pictures
use Rattle.picture_data.specs.declared.fault.Flaw.TheVariants as flaws
use Rattle.picture_data.specs.declared.reading.SymbolPosition.{SymbolPosition}
use Rattle.picture_data.specs.declared.reading.SymbolPosition.TheVariants as places
use Rattle.picture_data.specs.declared.reading.PictureReading.{PictureReading}
use Rattle.picture_data.specs.declared.symbols.PictureShape.{PictureShape}
use Rattle.picture_data.specs.declared.symbols.PictureShape.TheVariants as shapes
use Rattle.picture_data.specs.declared.symbols.PictureSymbols.{PictureSymbols}
use Rattle.picture_data.specs.Symbols.{symbol_s, symbol_v, behind, most, counted, added, too_many, picture, picture_by, number}
use Rattle.picture_data.specs.Reading.{read_from, step, step_by, symbol_by, placed, kept, digit, closed, finish, ended, start, flaw_of, plain_picture, picture_of}
use Rattle.picture_data.specs.Edited.{is_edited, edited_picture}
use Rattle.cobol_print.specs.units.Picture.{run_text, some_run, part_text, picture_text}
use Rattle.round_trip.specs.declarations.printed_pictures.Writable.{IsWritable}
use Rattle.round_trip.proofs.declarations_lemmas.printed_pictures_lemmas.Masks.{mask-read-back}
use Rattle.round_trip.proofs.declarations_lemmas.printed_pictures_lemmas.Plain.{quiet-s, digits-plain, letters-plain, any-plain}

-- from here on this picture is read, whatever was before
abbrev Gives : PictureReading → List ℕ → Picture → Type 0
Gives reading rest picture = (n : ℕ) → read_from n (Ok reading) rest ≡ Ok picture

byte-on : (byte : ℕ) (reading next : PictureReading) (rest : List ℕ) (picture : Picture) → step (to_ascii_uppercase byte) reading ≡ Ok next → Gives next rest picture → Gives reading (byte ∷ rest) picture
unfolding read_from
byte-on byte reading next rest picture e h n = ap (λ made. read_from (n + 1) made rest) e ∙ h (n + 1)

at-end : (reading : PictureReading) (picture : Picture) → finish reading ≡ Ok picture → Gives reading [] picture
unfolding read_from
at-end reading picture e n = ap (ended n) e

abbrev at : PictureSymbols → SymbolPosition → PictureReading
at symbols place = record { symbols = symbols; place = place }

-- ---- the digits of a count

-- so many more are within the limit
abbrev Fits : ℕ → PictureSymbols → Type 0
Fits count symbols = symbols.whole + symbols.part + count ≤ most symbols.shape

fits : (count : ℕ) (symbols : PictureSymbols) → Fits count symbols → added count symbols ≡ Ok (counted count symbols symbols.shape)
fits count symbols h =
    ap (λ b. if b then Ok (counted count symbols symbols.shape) else Err (too_many symbols.shape)) (le-leb (symbols.whole + symbols.part + count) (most symbols.shape) h)

upper-digit : (d : ℕ) → d < 10 → to_ascii_uppercase (48 + d) ≡ 48 + d
upper-digit d h = grind (arith, nat_tests)

is-digit : (d : ℕ) → d < 10 → (nat_le digit_0 (48 + d) && nat_le (48 + d) digit_9) ≡ true
is-digit d h = grind (arith, nat_tests)

digit-read : (symbols : PictureSymbols) (count d : ℕ) → d < 10 → count * 10 + d ≤ 65535 → Fits (count * 10 + d - 1) symbols →
    step (to_ascii_uppercase (48 + d)) (at symbols (places.Count count)) ≡ Ok (at symbols (places.Count (count * 10 + d)))
unfolding step
digit-read symbols count d h small f =
    let reading : PictureReading = at symbols (places.Count count) in
    let back : (48 + d) - digit_0 ≡ d = omega arith in
    ap (λ b. step b reading) (upper-digit d h)
    ∙ ap (λ t. if t then digit count ((48 + d) - digit_0) reading else (if (48 + d) == right_parenthesis then closed count reading else Err (flaw_of (48 + d)))) (is-digit d h)
    ∙ ap (λ k. digit count k reading) back
    ∙ ap (λ t. if t then kept (places.Count (count * 10 + d)) symbols (added (count * 10 + d - 1) symbols) else Err (too_many symbols.shape)) (le-leb (count * 10 + d) 65535 small)
    ∙ ap (kept (places.Count (count * 10 + d)) symbols) (fits (count * 10 + d - 1) symbols f)

-- the digits of a count, from its first on
abbrev Counts : ℕ → List ℕ → Type 0
Counts m ds = (symbols : PictureSymbols) (rest : List ℕ) (picture : Picture) → m ≤ 65535 → Fits (m - 1) symbols → Gives (at symbols (places.Count m)) rest picture → Gives (at symbols (places.Count 0)) (ds ++ rest) picture

counts : (m : ℕ) → m < 2 ^ 64 → Counts m (decimal m)
counts = decimal_by_steps Counts one more
  where
    one : (m : ℕ) → m < 10 → Counts m ((48 + m) ∷ [])
    one m h symbols rest picture small f g =
        let same : 0 * 10 + m ≡ m = omega arith in
        byte-on (48 + m) (at symbols (places.Count 0)) (at symbols (places.Count m)) rest picture
        (digit-read symbols 0 m h (omega (arith, h)) (omega (arith, f)) ∙ ap (λ k. Ok (at symbols (places.Count k))) same) g

    more : (m : ℕ) (ds : List ℕ) → 10 ≤ m → Counts (m / 10) ds → Counts m (ds ++ (48 + m % 10) ∷ [])
    more m ds large before symbols rest picture small f g =
        let same : m / 10 * 10 + m % 10 ≡ m = omega arith in
        subst (λ list. Gives (at symbols (places.Count 0)) list picture) (sym (append_assoc ds ((48 + m % 10) ∷ []) rest))
        (before symbols ((48 + m % 10) ∷ rest) picture (omega (arith, small)) (omega (arith, f))
        (byte-on (48 + m % 10) (at symbols (places.Count (m / 10))) (at symbols (places.Count m)) rest picture
        (digit-read symbols (m / 10) (m % 10) (omega arith) (omega (arith, small)) (omega (arith, f)) ∙ ap (λ k. Ok (at symbols (places.Count k))) same) g))

-- ---- a run of a symbol

-- a symbol that may have a count
abbrev IsCounted : ℕ → Type 0
IsCounted symbol = (to_ascii_uppercase symbol ≡ symbol) × ((symbol == symbol_s || symbol == symbol_v) ≡ false) × ((symbol == left_parenthesis) ≡ false)

-- no count is being read
abbrev IsBetween : SymbolPosition → Type 0
IsBetween (places.Count count) = ⊥
IsBetween _ = Unit {0}

symbol-read : (symbol : ℕ) (symbols : PictureSymbols) (place : SymbolPosition) (shape : PictureShape) → IsCounted symbol → IsBetween place → behind symbol symbols.shape ≡ Some shape → Fits 1 (record symbols { shape = shape }) →
    step (to_ascii_uppercase symbol) (at symbols place) ≡ Ok (at (counted 1 (record symbols { shape = shape }) shape) places.Behind)
unfolding step
symbol-read symbol symbols place shape is between e f = ap (λ b. step b (at symbols place)) is.0 ∙ go place between
  where
    by : symbol_by symbol (behind symbol symbols.shape) symbols ≡ Ok (at (counted 1 (record symbols { shape = shape }) shape) places.Behind)
    by =
        ap (λ o. symbol_by symbol o symbols) e
        ∙ ap (λ t. if t then placed places.Open (added 0 (record symbols { shape = shape })) else placed places.Behind (added 1 (record symbols { shape = shape }))) is.1
        ∙ ap (placed places.Behind) (fits 1 (record symbols { shape = shape }) f)

    go : (p : SymbolPosition) → IsBetween p → step_by p symbol (at symbols p) ≡ Ok (at (counted 1 (record symbols { shape = shape }) shape) places.Behind)
    go places.Open b = by
    go places.Behind b =
        ap (λ t. if t then Ok (at symbols (places.Count 0)) else symbol_by symbol (behind symbol symbols.shape) symbols) is.2 ∙ by
    go (places.Count count) b = absurd b

opened : (symbols : PictureSymbols) → step (to_ascii_uppercase left_parenthesis) (at symbols places.Behind) ≡ Ok (at symbols (places.Count 0))
unfolding step
opened symbols = refl

not-zero : (n : ℕ) → 1 ≤ n → (n == 0) ≡ false
not-zero n h = grind (arith, nat_tests)

closed-by : (symbols : PictureSymbols) (count : ℕ) → 1 ≤ count → Fits (count - 1) symbols → step (to_ascii_uppercase right_parenthesis) (at symbols (places.Count count)) ≡ Ok (at (counted (count - 1) symbols symbols.shape) places.Open)
unfolding step
closed-by symbols count some f =
    ap (λ t. if t then Err flaws.Order else placed places.Open (added (count - 1) symbols)) (not-zero count some) ∙ ap (placed places.Open) (fits (count - 1) symbols f)

-- where a run leaves the reading
abbrev run_place : ℕ → SymbolPosition
run_place count = if count == 1 then places.Behind else places.Open

counted-on : (symbols : PictureSymbols) (count : ℕ) → 1 ≤ count → counted (count - 1) (counted 1 symbols symbols.shape) symbols.shape ≡ counted count symbols symbols.shape
counted-on symbols count h = go symbols.shape
  where
    left : (a : ℕ) → a + 1 + (count - 1) ≡ a + count
    left a = omega (arith, h)

    go : (shape : PictureShape) → counted (count - 1) (counted 1 symbols shape) shape ≡ counted count symbols shape
    go (shapes.Point signed) = ap (λ n. record symbols { part = n }) (left symbols.part)
    go shapes.Start = ap (λ n. record symbols { whole = n }) (left symbols.whole)
    go shapes.Nines = ap (λ n. record symbols { whole = n }) (left symbols.whole)
    go shapes.Signed = ap (λ n. record symbols { whole = n }) (left symbols.whole)
    go shapes.Letters = ap (λ n. record symbols { whole = n }) (left symbols.whole)
    go shapes.Any = ap (λ n. record symbols { whole = n }) (left symbols.whole)

-- how many there are behind one more
one-more : (symbols : PictureSymbols) → (counted 1 symbols symbols.shape).whole + (counted 1 symbols symbols.shape).part ≡ symbols.whole + symbols.part + 1
one-more symbols = go symbols.shape
  where
    go : (shape : PictureShape) → (counted 1 symbols shape).whole + (counted 1 symbols shape).part ≡ symbols.whole + symbols.part + 1
    go (shapes.Point signed) = omega arith
    go shapes.Start = omega arith
    go shapes.Nines = omega arith
    go shapes.Signed = omega arith
    go shapes.Letters = omega arith
    go shapes.Any = omega arith

same-shape : (count : ℕ) (symbols : PictureSymbols) (shape : PictureShape) → (counted count symbols shape).shape ≡ symbols.shape
same-shape count symbols (shapes.Point signed) = refl
same-shape count symbols shapes.Start = refl
same-shape count symbols shapes.Nines = refl
same-shape count symbols shapes.Signed = refl
same-shape count symbols shapes.Letters = refl
same-shape count symbols shapes.Any = refl

-- behind a symbol of this shape
abbrev shaped : PictureSymbols → PictureShape → PictureSymbols
shaped symbols shape = record symbols { shape = shape }

abbrev once : PictureSymbols → PictureShape → PictureSymbols
once symbols shape = counted 1 (shaped symbols shape) shape

run-behind : (count : ℕ) (symbols : PictureSymbols) (shape : PictureShape) → 1 ≤ count → Fits count (shaped symbols shape) → Fits (count - 1) (once symbols shape)
run-behind count symbols shape some f =
    let more = one-more (shaped symbols shape) in
    let kept : most (once symbols shape).shape ≡ most shape = ap most (same-shape 1 (shaped symbols shape) shape) in
    omega (arith, f, some, more, kept)

run-counted : (count : ℕ) (symbols : PictureSymbols) (shape : PictureShape) → 1 ≤ count →
    at (counted (count - 1) (once symbols shape) (once symbols shape).shape) places.Open ≡ at (counted count (shaped symbols shape) shape) places.Open
run-counted count symbols shape some =
    ap (λ s. at (counted (count - 1) (once symbols shape) s) places.Open) (same-shape 1 (shaped symbols shape) shape)
    ∙ ap (λ s. at s places.Open) (counted-on (shaped symbols shape) count some)

is-one : (count : ℕ) → (count == 1) ≡ true → 1 ≡ count
is-one count e = grind (arith, nat_tests)

run : (symbol count : ℕ) (symbols : PictureSymbols) (place : SymbolPosition) (shape : PictureShape) (rest : List ℕ) (picture : Picture) → IsCounted symbol → IsBetween place → behind symbol symbols.shape ≡ Some shape →
    1 ≤ count → count ≤ 65535 → Fits count (shaped symbols shape) → Gives (at (counted count (shaped symbols shape) shape) (run_place count)) rest picture →
    Gives (at symbols place) (run_text symbol count ++ rest) picture
run symbol count symbols place shape rest picture is between e some small f g =
    byte-on symbol (at symbols place) (at (once symbols shape) places.Behind) _ picture (symbol-read symbol symbols place shape is between e (omega (arith, some, f))) (go (count == 1) refl)
  where
    go : (b : Bool) → (count == 1) ≡ b → Gives (at (once symbols shape) places.Behind) ((if b then [] else left_parenthesis ∷ decimal count ++ right_parenthesis ∷ []) ++ rest) picture
    go true e =
        subst (λ n. Gives (at (counted n (shaped symbols shape) shape) places.Behind) rest picture) (sym (is-one count e))
        (subst (λ p. Gives (at (counted count (shaped symbols shape) shape) p) rest picture) (ap (λ b. if b then places.Behind else places.Open) e) g)
    go false e =
        byte-on left_parenthesis (at (once symbols shape) places.Behind) (at (once symbols shape) (places.Count 0)) _ picture (opened (once symbols shape))
        (subst (λ list. Gives (at (once symbols shape) (places.Count 0)) list picture) (sym (append_assoc (decimal count) (right_parenthesis ∷ []) rest))
        (counts count (omega (arith, small)) (once symbols shape) (right_parenthesis ∷ rest) picture small (run-behind count symbols shape some f)
        (byte-on right_parenthesis (at (once symbols shape) (places.Count count)) (at (counted count (shaped symbols shape) shape) places.Open) rest picture
        (closed-by (once symbols shape) count some (run-behind count symbols shape some f) ∙ ap Ok (run-counted count symbols shape some))
        (subst (λ p. Gives (at (counted count (shaped symbols shape) shape) p) rest picture) (ap (λ b. if b then places.Behind else places.Open) e) g))))

-- ---- the end

finished : (symbols : PictureSymbols) (place : SymbolPosition) (found : Picture) → IsBetween place → picture symbols ≡ Ok found → finish (at symbols place) ≡ Ok found
unfolding finish
finished symbols places.Open found between e = e
finished symbols places.Behind found between e = e
finished symbols (places.Count count) found between e = absurd between

run-between : (count : ℕ) → IsBetween (run_place count)
run-between count = go (count == 1)
  where
    go : (b : Bool) → IsBetween (if b then places.Behind else places.Open)
    go true = tt
    go false = tt

abbrev some_symbols : PictureShape → ℕ → ℕ → PictureSymbols
some_symbols shape whole part = record { shape = shape; whole = whole; part = part }

-- one run alone
letters : (symbol count : ℕ) (shape : PictureShape) (found : Picture) → IsCounted symbol → behind symbol shapes.Start ≡ Some shape → 1 ≤ count → count ≤ 65535 → Fits count (some_symbols shape 0 0) →
    picture (counted count (some_symbols shape 0 0) shape) ≡ Ok found → Gives start (run_text symbol count) found
letters symbol count shape found is e some small f done =
    subst (λ list. Gives start list found) (append-nil (run_text symbol count))
    (run symbol count (some_symbols shapes.Start 0 0) places.Open shape [] found is tt e some small f
    (at-end (at (counted count (some_symbols shape 0 0) shape) (run_place count)) found
    (finished (counted count (some_symbols shape 0 0) shape) (run_place count) found (run-between count) done)))

-- ---- a number

number-made : (signed : Bool) (whole part : ℕ) → 1 ≤ whole + part → whole + part ≤ 18 → number signed whole part ≡ Ok (pictures.Number signed whole part)
number-made signed whole part some few =
    ap (λ t. if t then Err flaws.Order else (if nat_le (whole + part) 18 then Ok (pictures.Number signed whole part) else Err flaws.Digits)) (not-zero (whole + part) some)
    ∙ ap (λ t. if t then Ok (pictures.Number signed whole part) else Err flaws.Digits) (le-leb (whole + part) 18 few)

nines : IsCounted 57
nines = (refl, refl, refl)

-- V
point-read : (signed : Bool) (shape : PictureShape) (whole : ℕ) (place : SymbolPosition) → IsBetween place → behind 86 shape ≡ Some (shapes.Point signed) → whole ≤ 18 →
    step (to_ascii_uppercase 86) (at (some_symbols shape whole 0) place) ≡ Ok (at (some_symbols (shapes.Point signed) whole 0) places.Open)
unfolding step
point-read signed shape whole place between e few = go place between
  where
    by : symbol_by 86 (behind 86 shape) (some_symbols shape whole 0) ≡ Ok (at (some_symbols (shapes.Point signed) whole 0) places.Open)
    by =
        ap (λ o. symbol_by 86 o (some_symbols shape whole 0)) e
        ∙ ap (placed places.Open) (fits 0 (some_symbols (shapes.Point signed) whole 0) (omega (arith, few)))

    go : (p : SymbolPosition) → IsBetween p → step_by p 86 (at (some_symbols shape whole 0) p) ≡ Ok (at (some_symbols (shapes.Point signed) whole 0) places.Open)
    go places.Open b = by
    go places.Behind b = by
    go (places.Count count) b = absurd b

part-read : (signed : Bool) (shape : PictureShape) (whole part : ℕ) (place : SymbolPosition) → IsBetween place → behind 86 shape ≡ Some (shapes.Point signed) → 1 ≤ part → whole + part ≤ 18 →
    Gives (at (some_symbols shape whole 0) place) (86 ∷ run_text 57 part) (pictures.Number signed whole part)
part-read signed shape whole part place between e some few =
    let none : 0 + part ≡ part = omega arith in
    let symbols : PictureSymbols = some_symbols (shapes.Point signed) whole 0 in
    let found : Picture = pictures.Number signed whole part in
    byte-on 86 (at (some_symbols shape whole 0) place) (at symbols places.Open) (run_text 57 part) found (point-read signed shape whole place between e (omega (arith, few)))
    (subst (λ list. Gives (at symbols places.Open) list found) (append-nil (run_text 57 part))
    (run 57 part symbols places.Open (shapes.Point signed) [] found nines tt refl some (omega (arith, few)) (omega (arith, few))
    (at-end (at (counted part symbols (shapes.Point signed)) (run_place part)) found
    (finished (counted part symbols (shapes.Point signed)) (run_place part) found (run-between part)
    (ap (number signed whole) none ∙ number-made signed whole part (omega (arith, some)) few)))))

part-text-read : (signed : Bool) (shape : PictureShape) (whole part : ℕ) (place : SymbolPosition) → IsBetween place → behind 86 shape ≡ Some (shapes.Point signed) → picture_by shape (some_symbols shape whole 0) ≡ number signed whole 0 →
    1 ≤ whole + part → whole + part ≤ 18 → Gives (at (some_symbols shape whole 0) place) (part_text part) (pictures.Number signed whole part)
part-text-read signed shape whole part place between e alone some few = go (part == 0) refl
  where
    go : (b : Bool) → (part == 0) ≡ b → Gives (at (some_symbols shape whole 0) place) (if b then [] else 86 ∷ run_text 57 part) (pictures.Number signed whole part)
    go true is =
        let none : 0 ≡ part = grind (arith, nat_tests) in
        at-end (at (some_symbols shape whole 0) place) (pictures.Number signed whole part)
        (finished (some_symbols shape whole 0) place (pictures.Number signed whole part) between (alone ∙ ap (number signed whole) none ∙ number-made signed whole part some few))
    go false is = part-read signed shape whole part place between e (grind (arith, nat_tests)) few

-- before and behind the nines
abbrev first_shape : Bool → PictureShape
first_shape signed = if signed then shapes.Signed else shapes.Start

abbrev nines_shape : Bool → PictureShape
nines_shape signed = if signed then shapes.Signed else shapes.Nines

whole-read : (signed : Bool) (whole part : ℕ) → 1 ≤ whole → whole + part ≤ 18 → Gives (at (some_symbols (first_shape signed) 0 0) places.Open) (run_text 57 whole ++ part_text part) (pictures.Number signed whole part)
whole-read signed whole part some few = go signed
  where
    none : 0 + whole ≡ whole
    none = omega arith

    found : Bool → Picture
    found signed = pictures.Number signed whole part

    go : (signed : Bool) → Gives (at (some_symbols (first_shape signed) 0 0) places.Open) (run_text 57 whole ++ part_text part) (pictures.Number signed whole part)
    go true =
        run 57 whole (some_symbols shapes.Signed 0 0) places.Open shapes.Signed (part_text part) (pictures.Number true whole part) nines tt refl some (omega (arith, few)) (omega (arith, few))
        (subst (λ n. Gives (at (some_symbols shapes.Signed n 0) (run_place whole)) (part_text part) (pictures.Number true whole part)) (sym none)
        (part-text-read true shapes.Signed whole part (run_place whole) (run-between whole) refl refl (omega (arith, some)) few))
    go false =
        run 57 whole (some_symbols shapes.Start 0 0) places.Open shapes.Nines (part_text part) (pictures.Number false whole part) nines tt refl some (omega (arith, few)) (omega (arith, few))
        (subst (λ n. Gives (at (some_symbols shapes.Nines n 0) (run_place whole)) (part_text part) (pictures.Number false whole part)) (sym none)
        (part-text-read false shapes.Nines whole part (run_place whole) (run-between whole) refl refl (omega (arith, some)) few))

digits-read : (signed : Bool) (whole part : ℕ) → 1 ≤ whole + part → whole + part ≤ 18 → Gives (at (some_symbols (first_shape signed) 0 0) places.Open) (some_run whole ++ part_text part) (pictures.Number signed whole part)
digits-read signed whole part some few = go (whole == 0) refl
  where
    alone : (signed : Bool) → 1 ≤ part → part ≤ 18 → Gives (at (some_symbols (first_shape signed) 0 0) places.Open) (part_text part) (pictures.Number signed 0 part)
    alone true one less = by (part == 0) refl
      where
        by : (b : Bool) → (part == 0) ≡ b → Gives (at (some_symbols shapes.Signed 0 0) places.Open) (if b then [] else 86 ∷ run_text 57 part) (pictures.Number true 0 part)
        by true is = absurd (grind (arith, nat_tests))
        by false is = part-read true shapes.Signed 0 part places.Open tt refl one (omega (arith, less))
    alone false one less = by (part == 0) refl
      where
        by : (b : Bool) → (part == 0) ≡ b → Gives (at (some_symbols shapes.Start 0 0) places.Open) (if b then [] else 86 ∷ run_text 57 part) (pictures.Number false 0 part)
        by true is = absurd (grind (arith, nat_tests))
        by false is = part-read false shapes.Start 0 part places.Open tt refl one (omega (arith, less))

    go : (b : Bool) → (whole == 0) ≡ b → Gives (at (some_symbols (first_shape signed) 0 0) places.Open) ((if b then [] else run_text 57 whole) ++ part_text part) (pictures.Number signed whole part)
    go true is =
        let none : 0 ≡ whole = grind (arith, nat_tests) in
        subst (λ n. Gives (at (some_symbols (first_shape signed) 0 0) places.Open) (part_text part) (pictures.Number signed n part)) none (alone signed (omega (arith, some, none)) (omega (arith, few)))
    go false is = whole-read signed whole part (grind (arith, nat_tests)) few

sign-read : step (to_ascii_uppercase 83) start ≡ Ok (at (some_symbols shapes.Signed 0 0) places.Open)
unfolding step
sign-read = refl

plain-read-back : (text : List ℕ) (picture : Picture) → is_edited text ≡ false → Gives start text picture → picture_of text ≡ Ok picture
plain-read-back text picture plain gives = ap (λ b. if b then edited_picture text else plain_picture text) plain ∙ gives 0

pub pictures_read_back : (picture : Picture) → IsWritable picture → picture_of (picture_text picture) ≡ Ok picture
pictures_read_back (pictures.Number true whole part) h =
    plain-read-back (picture_text (pictures.Number true whole part)) (pictures.Number true whole part)
    (quiet-s (some_run whole ++ part_text part) ∙ digits-plain whole part h.1)
    (byte-on 83 start (at (some_symbols shapes.Signed 0 0) places.Open) (some_run whole ++ part_text part) (pictures.Number true whole part) sign-read (digits-read true whole part h.0 h.1))
pictures_read_back (pictures.Number false whole part) h =
    plain-read-back (picture_text (pictures.Number false whole part)) (pictures.Number false whole part) (digits-plain whole part h.1) (digits-read false whole part h.0 h.1)
pictures_read_back (pictures.Letters count) h =
    let none : 0 + count ≡ count = omega arith in
    plain-read-back (picture_text (pictures.Letters count)) (pictures.Letters count) (letters-plain count h.1)
    (letters 65 count shapes.Letters (pictures.Letters count) (refl, refl, refl) refl h.0 h.1 (omega (arith, h.1)) (ap (λ n. Ok (pictures.Letters n)) none))
pictures_read_back (pictures.Any count) h =
    let none : 0 + count ≡ count = omega arith in
    plain-read-back (picture_text (pictures.Any count)) (pictures.Any count) (any-plain count h.1)
    (letters 88 count shapes.Any (pictures.Any count) (refl, refl, refl) refl h.0 h.1 (omega (arith, h.1)) (ap (λ n. Ok (pictures.Any n)) none))
pictures_read_back (pictures.Edited mask) h = mask-read-back mask h
