-- A picture that is read can be written.
use Rattle.std.proofs.Common.{◌≡◌, ℕ, ◌+◌, ◌-◌, ◌*◌, ◌≤◌, Bool, true, false, ◌&&◌, ◌||◌, if◌then◌else◌, List, [], ◌∷◌, Option, Some, None, Result, Ok, Err, refl, subst, arith}
use Rattle.std.specs.Prelude.{nat_le, ◌==◌}
use Rattle.std.specs.Char.{to_ascii_uppercase}
use Rattle.std.proofs.lemmas.Bool.Decides.{nat_tests}
use Rattle.std.proofs.lemmas.Bool.{leb-true}
use Rattle.cob_base.specs.Bytes.{left_parenthesis, right_parenthesis, digit_0, digit_9}
use Rattle.cob_tree.specs.declared.picture.Picture.{Picture}
use Rattle.cob_tree.specs.declared.picture.Picture.TheVariants as pictures
use Rattle.picture_data.specs.declared.fault.Flaw.{Flaw}
use Rattle.picture_data.specs.declared.fault.Flaw.TheVariants as flaws
use Rattle.picture_data.specs.declared.reading.SymbolPosition.{SymbolPosition}
use Rattle.picture_data.specs.declared.reading.SymbolPosition.TheVariants as places
use Rattle.picture_data.specs.declared.reading.PictureReading.{PictureReading}
use Rattle.picture_data.specs.declared.symbols.PictureShape.{PictureShape}
use Rattle.picture_data.specs.declared.symbols.PictureShape.TheVariants as shapes
use Rattle.picture_data.specs.declared.symbols.PictureSymbols.{PictureSymbols}
use Rattle.picture_data.specs.Symbols.{symbol_s, symbol_v, symbol_9, symbol_a, symbol_x, behind, behind_sign, behind_point, behind_nine, behind_letter, behind_any, most, counted, added, too_many, picture_by, number}
use Rattle.picture_data.specs.Reading.{read_from, step, step_by, symbol_by, placed, kept, digit, closed, in_count, finish, finish_by, ended, start, flaw_of, plain_picture, picture_of}
use Rattle.picture_data.specs.Edited.{first_plain, is_edited, edited_picture, edited_by, picture_by as picture_by_mask}
use Rattle.edit_fields.specs.declared.fault.MaskFault.{MaskFault}
use Rattle.edit_fields.specs.Mask.{held_unless}
use Rattle.edit_fields.specs.Reading.{mask_fault_of}
use Rattle.edit_fields.proofs.HeldMasks.{held_of}
use Rattle.round_trip.specs.declarations.printed_pictures.Writable.{IsWritable}

-- letters and other characters: one at least, and no more than their limit
abbrev Sized : PictureShape → PictureSymbols → Type 0
Sized shapes.Letters symbols = (1 ≤ symbols.whole) × (symbols.whole ≤ 65535)
Sized shapes.Any symbols = (1 ≤ symbols.whole) × (symbols.whole ≤ 65535)
Sized _ symbols = Unit {0}

abbrev AreSized : PictureSymbols → Type 0
AreSized symbols = Sized symbols.shape symbols

-- what is read so far, if there is no flaw, is so
abbrev Keeps : Result PictureReading Flaw → Type 0
Keeps (Err flaw) = Unit {0}
Keeps (Ok reading) = AreSized reading.symbols

abbrev some_symbols : PictureShape → ℕ → ℕ → PictureSymbols
some_symbols shape whole part = record { shape = shape; whole = whole; part = part }

-- letters and other characters are one at least
abbrev IsSome : PictureShape → ℕ → Type 0
IsSome shapes.Letters count = 1 ≤ count
IsSome shapes.Any count = 1 ≤ count
IsSome _ count = Unit {0}

-- so many more of the last symbol
added-keeps : (place : SymbolPosition) (count whole part : ℕ) (shape : PictureShape) → IsSome shape (whole + count) → Keeps (placed place (added count (some_symbols shape whole part)))
added-keeps place count whole part shape some = go shape some (nat_le (whole + part + count) (most shape)) refl
  where
    go : (s : PictureShape) → IsSome s (whole + count) → (b : Bool) → nat_le (whole + part + count) (most s) ≡ b →
        Keeps (placed place (if b then Ok (counted count (some_symbols s whole part) s) else Err (too_many s)))
    go s n false e = tt
    go shapes.Start n true e = tt
    go shapes.Nines n true e = tt
    go shapes.Signed n true e = tt
    go (shapes.Point signed) n true e = tt
    go shapes.Letters n true e = let few = leb-true (whole + part + count) 65535 e in (n, omega (arith, few))
    go shapes.Any n true e = let few = leb-true (whole + part + count) 65535 e in (n, omega (arith, few))

first-some : (whole : ℕ) (shape : PictureShape) → IsSome shape (whole + 1)
first-some whole shapes.Start = tt
first-some whole shapes.Nines = tt
first-some whole shapes.Signed = tt
first-some whole (shapes.Point signed) = tt
first-some whole shapes.Letters = omega arith
first-some whole shapes.Any = omega arith

more-some : (count whole part : ℕ) (shape : PictureShape) → Sized shape (some_symbols shape whole part) → IsSome shape (whole + count)
more-some count whole part shapes.Start h = tt
more-some count whole part shapes.Nines h = tt
more-some count whole part shapes.Signed h = tt
more-some count whole part (shapes.Point signed) h = tt
more-some count whole part shapes.Letters h = omega (arith, h.0)
more-some count whole part shapes.Any h = omega (arith, h.0)

some-is : {x y : PictureShape} → Some x ≡ Some y → x ≡ y
some-is e = cc

sign-some : (shape next : PictureShape) (n : ℕ) → behind_sign shape ≡ Some next → IsSome next n
sign-some shapes.Start next n e = subst (λ s. IsSome s n) (some-is e) tt
sign-some shapes.Nines next n e = absurd cc
sign-some shapes.Signed next n e = absurd cc
sign-some (shapes.Point signed) next n e = absurd cc
sign-some shapes.Letters next n e = absurd cc
sign-some shapes.Any next n e = absurd cc

point-some : (shape next : PictureShape) (n : ℕ) → behind_point shape ≡ Some next → IsSome next n
point-some shapes.Start next n e = subst (λ s. IsSome s n) (some-is e) tt
point-some shapes.Nines next n e = subst (λ s. IsSome s n) (some-is e) tt
point-some shapes.Signed next n e = subst (λ s. IsSome s n) (some-is e) tt
point-some (shapes.Point signed) next n e = absurd cc
point-some shapes.Letters next n e = absurd cc
point-some shapes.Any next n e = absurd cc

-- S and V make a number
number-some : (byte : ℕ) (shape next : PictureShape) (n : ℕ) → (byte == symbol_s || byte == symbol_v) ≡ true → behind byte shape ≡ Some next → IsSome next n
number-some byte shape next n e f = go (byte == symbol_s) (byte == symbol_v) e f
  where
    go : (s v : Bool) → (s || v) ≡ true →
        (if s then behind_sign shape else if v then behind_point shape else if byte == symbol_9 then Some (behind_nine shape) else if byte == symbol_a then behind_letter shape
        else if byte == symbol_x then behind_any shape else None) ≡ Some next →
        IsSome next n
    go true v e f = sign-some shape next n f
    go false true e f = point-some shape next n f
    go false false e f = absurd cc

symbol-keeps : (byte : ℕ) (symbols : PictureSymbols) → Keeps (symbol_by byte (behind byte symbols.shape) symbols)
symbol-keeps byte symbols = go (behind byte symbols.shape) refl
  where
    go : (o : Option PictureShape) → behind byte symbols.shape ≡ o → Keeps (symbol_by byte o symbols)
    go None e = tt
    go (Some next) e = by (byte == symbol_s || byte == symbol_v) refl
      where
        by : (b : Bool) → (byte == symbol_s || byte == symbol_v) ≡ b →
            Keeps (if b then placed places.Open (added 0 (record symbols { shape = next })) else placed places.Behind (added 1 (record symbols { shape = next })))
        by true f = added-keeps places.Open 0 symbols.whole symbols.part next (number-some byte symbols.shape next (symbols.whole + 0) f e)
        by false f = added-keeps places.Behind 1 symbols.whole symbols.part next (first-some symbols.whole next)

-- ---- a count

digit-keeps : (count d : ℕ) (reading : PictureReading) → AreSized reading.symbols → Keeps (digit count d reading)
digit-keeps count d reading h = go (nat_le (count * 10 + d) 65535)
  where
    by : (r : Result PictureSymbols Flaw) → Keeps (kept (places.Count (count * 10 + d)) reading.symbols r)
    by (Ok symbols) = h
    by (Err flaw) = tt

    go : (b : Bool) → Keeps (if b then kept (places.Count (count * 10 + d)) reading.symbols (added (count * 10 + d - 1) reading.symbols) else Err (too_many reading.symbols.shape))
    go true = by (added (count * 10 + d - 1) reading.symbols)
    go false = tt

closed-keeps : (count : ℕ) (reading : PictureReading) → AreSized reading.symbols → Keeps (closed count reading)
closed-keeps count reading h = go (count == 0)
  where
    go : (b : Bool) → Keeps (if b then Err flaws.Order else placed places.Open (added (count - 1) reading.symbols))
    go true = tt
    go false =
        added-keeps places.Open (count - 1) reading.symbols.whole reading.symbols.part reading.symbols.shape
        (more-some (count - 1) reading.symbols.whole reading.symbols.part reading.symbols.shape h)

count-keeps : (count byte : ℕ) (reading : PictureReading) → AreSized reading.symbols → Keeps (in_count count byte reading)
count-keeps count byte reading h = go (nat_le digit_0 byte && nat_le byte digit_9) (byte == right_parenthesis)
  where
    go : (d c : Bool) → Keeps (if d then digit count (byte - digit_0) reading else if c then closed count reading else Err (flaw_of byte))
    go true c = digit-keeps count (byte - digit_0) reading h
    go false true = closed-keeps count reading h
    go false false = tt

-- ---- a byte, and the end

step-keeps : (byte : ℕ) (reading : PictureReading) → AreSized reading.symbols → Keeps (step byte reading)
unfolding step
step-keeps byte reading h = go reading.place
  where
    open_paren : (b : Bool) → Keeps (if b then Ok (record reading { place = places.Count 0 }) else symbol_by byte (behind byte reading.symbols.shape) reading.symbols)
    open_paren true = h
    open_paren false = symbol-keeps byte reading.symbols

    go : (place : SymbolPosition) → Keeps (step_by place byte reading)
    go places.Open = symbol-keeps byte reading.symbols
    go places.Behind = open_paren (byte == left_parenthesis)
    go (places.Count count) = count-keeps count byte reading h

abbrev Writable : {E : Type 0} → Result Picture E → Type 0
Writable (Ok picture) = IsWritable picture
Writable (Err fault) = Unit {0}

number-writable : (signed : Bool) (whole part : ℕ) → Writable (number signed whole part)
number-writable signed whole part = go (whole + part == 0) (nat_le (whole + part) 18) refl refl
  where
    go : (none few : Bool) → (whole + part == 0) ≡ none → nat_le (whole + part) 18 ≡ few →
        Writable (if none then Err flaws.Order else (if few then Ok (pictures.Number signed whole part) else Err flaws.Digits))
    go true few e f = tt
    go false false e f = tt
    go false true e f = (some (whole + part) e, leb-true (whole + part) 18 f)
      where
        some : (n : ℕ) → (n == 0) ≡ false → 1 ≤ n
        some n e = grind (arith, nat_tests)

picture-writable : (shape : PictureShape) (symbols : PictureSymbols) → Sized shape symbols → Writable (picture_by shape symbols)
picture-writable shapes.Start symbols h = tt
picture-writable shapes.Nines symbols h = number-writable false symbols.whole 0
picture-writable shapes.Signed symbols h = number-writable true symbols.whole 0
picture-writable (shapes.Point signed) symbols h = number-writable signed symbols.whole symbols.part
picture-writable shapes.Letters symbols h = h
picture-writable shapes.Any symbols h = h

finish-writable : (reading : PictureReading) → AreSized reading.symbols → Writable (finish reading)
unfolding finish
finish-writable reading h = go reading.place
  where
    go : (place : SymbolPosition) → Writable (finish_by place reading.symbols)
    go (places.Count count) = tt
    go places.Open = picture-writable reading.symbols.shape reading.symbols h
    go places.Behind = picture-writable reading.symbols.shape reading.symbols h

ended-writable : (count : ℕ) (r : Result Picture Flaw) → Writable r → Writable (ended count r)
ended-writable count (Ok picture) h = h
ended-writable count (Err flaw) h = tt

read-writable : (count : ℕ) (r : Result PictureReading Flaw) (text : List ℕ) → Keeps r → Writable (read_from count r text)
unfolding read_from
read-writable count (Err flaw) text h = tt
read-writable count (Ok reading) [] h = ended-writable count (finish reading) (finish-writable reading h)
read-writable count (Ok reading) (byte ∷ text) h = read-writable (count + 1) (step (to_ascii_uppercase byte) reading) text (step-keeps (to_ascii_uppercase byte) reading h)

-- what a text without faults stands for is held
mask-writable : (text : List ℕ) (fault : Option MaskFault) → mask_fault_of text ≡ fault → Writable (picture_by_mask (held_unless fault text))
mask-writable text None e = held_of text e
mask-writable text (Some fault) e = tt

edited-writable : (text : List ℕ) (plain : Option ℕ) → Writable (edited_by plain text)
edited-writable text None = mask-writable text (mask_fault_of text) refl
edited-writable text (Some position) = tt

text-writable : (text : List ℕ) → Writable (picture_of text)
text-writable text = go (is_edited text)
  where
    go : (b : Bool) → Writable (if b then edited_picture text else plain_picture text)
    go true = edited-writable text (first_plain 0 text)
    go false = read-writable 0 (Ok start) text tt

pub read_pictures_are_writable : (text : List ℕ) (picture : Picture) → picture_of text ≡ Ok picture → IsWritable picture
read_pictures_are_writable text picture e = subst Writable e (text-writable text)
