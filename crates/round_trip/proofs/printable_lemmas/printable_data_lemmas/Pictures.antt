-- A picture that is read has 1 to 18 digits, or 1 to 65,535 characters, or is a mask.
use Rattle.std.proofs.Common.{◌≡◌, ℕ, ◌+◌, ◌-◌, ◌*◌, ◌≤◌, Bool, true, false, if◌then◌else◌, List, [], ◌∷◌, Option, Some, None, Result, Ok, Err, refl, ap, sym, ◌∙◌, subst, arith}
use Rattle.std.specs.Prelude.{◌==◌, ◌||◌, ◌&&◌, not, map, nat_le, slice_index, is_some}
use Rattle.std.specs.Char.{to_ascii_uppercase}
use Rattle.std.specs.List.{list_all}
use Rattle.std.proofs.lemmas.Bool.{eq-eqb, eqb-true, leb-true, le-leb}
use Rattle.std.proofs.lemmas.Bool.Decides.{nat_tests}
use Rattle.cob_base.specs.Bytes.{comma, digit_0, digit_9, left_parenthesis, right_parenthesis}
use Rattle.cob_tree.specs.declared.picture.Picture.{Picture}
use Rattle.cob_tree.specs.declared.picture.Picture.TheVariants as pictures
use Rattle.picture_data.specs.declared.fault.Flaw.{Flaw}
use Rattle.picture_data.specs.declared.fault.Flaw.TheVariants as flaws
use Rattle.picture_data.specs.declared.reading.SymbolPosition.{SymbolPosition}
use Rattle.picture_data.specs.declared.reading.SymbolPosition.TheVariants as places
use Rattle.picture_data.specs.declared.reading.PictureReading.{PictureReading}
use Rattle.picture_data.specs.declared.symbols.PictureShape.{PictureShape}
use Rattle.picture_data.specs.declared.symbols.PictureShape.TheVariants as shapes
use Rattle.picture_data.specs.declared.symbols.PictureSymbols.{PictureSymbols}
use Rattle.picture_data.specs.Reading.{start, placed, symbol_by, symbol, kept, digit, closed, in_count, flaw_of, step_by, step, finish_by, finish, ended, read_from, plain_picture, picture_of}
use Rattle.picture_data.specs.Edited.{first_plain, is_edited, edited_picture, edited_by, picture_by as mask_picture}
use Rattle.edit_fields.specs.declared.fault.MaskFault.{MaskFault}
use Rattle.edit_fields.specs.Mask.{held_unless}
use Rattle.edit_fields.specs.Reading.{start as mask_start, step as mask_step, symbol_fault, fault_from, mask_fault_of, written_from, written_out}
use Rattle.edit_fields.specs.Shape.{behind as mask_behind}
use Rattle.edit_fields.proofs.BranchLemmas.{either_way}
use Rattle.edit_fields.proofs.HeldMasks.{held_of}
use Rattle.edit_fields.proofs.MasksAreWrittenOut.{err_none}
use Rattle.edit_fields.proofs.PrintedMasksAreRead.{capital_first, capital_rest}
use Rattle.cobol_lex.specs.Byte.{is_separator}
use Rattle.picture_data.specs.Symbols.{symbol_s, symbol_v, symbol_9, symbol_a, symbol_x, behind_sign, behind_point, behind_nine, behind_letter, behind_any, behind, most, too_many, counted, added, number, picture_by}
use Rattle.declaration_checks.specs.Base.{picture_if}
use Rattle.program_facts.specs.well_scoped.Part.{if_any}
use Rattle.program_facts.proofs.well_scoped_lemmas.Made.{both}
use Rattle.round_trip.specs.printable.printable_tokens.Printable.{begins_well}
use Rattle.round_trip.specs.printable.Whole.{is_capital, is_printable_mask, is_printable_picture}

-- ---- what holds of the symbols so far

abbrev pub is_lettered : PictureShape → Bool
is_lettered shapes.Letters = true
is_lettered shapes.Any = true
is_lettered shapes.Start = false
is_lettered shapes.Nines = false
is_lettered shapes.Signed = false
is_lettered (shapes.Point signed) = false

-- no more than a picture can have, and a letter has been read where there is one
pub record Fine (symbols : PictureSymbols) : Type 0 where
  pub few : symbols.whole ≤ 65535
  pub some : is_lettered symbols.shape ≡ true → 1 ≤ symbols.whole

abbrev SymbolsFine : Result PictureSymbols Flaw → Type 0
SymbolsFine (Ok symbols) = Fine symbols
SymbolsFine (Err flaw) = Unit {0}

abbrev pub ReadingFine : Result PictureReading Flaw → Type 0
ReadingFine (Ok reading) = Fine reading.symbols
ReadingFine (Err flaw) = Unit {0}

apart : {A : Type 0} → false ≡ true → A
apart e = absurd cc

most-few : (shape : PictureShape) → most shape ≤ 65535
most-few shapes.Start = omega arith
most-few shapes.Nines = omega arith
most-few shapes.Signed = omega arith
most-few (shapes.Point signed) = omega arith
most-few shapes.Letters = omega arith
most-few shapes.Any = omega arith

counted-fine : (count : ℕ) (symbols : PictureSymbols) (shape : PictureShape) → symbols.shape ≡ shape → symbols.whole + symbols.part + count ≤ 65535 →
    (is_lettered symbols.shape ≡ true → 1 ≤ symbols.whole + count) → Fine (counted count symbols shape)
counted-fine count symbols (shapes.Point signed) is few some =
    record { few = omega (arith, few); some = λ e. apart (sym (ap is_lettered is) ∙ e) }
counted-fine count symbols shapes.Start is few some = record { few = omega (arith, few); some = some }
counted-fine count symbols shapes.Nines is few some = record { few = omega (arith, few); some = some }
counted-fine count symbols shapes.Signed is few some = record { few = omega (arith, few); some = some }
counted-fine count symbols shapes.Letters is few some = record { few = omega (arith, few); some = some }
counted-fine count symbols shapes.Any is few some = record { few = omega (arith, few); some = some }

added-fine : (count : ℕ) (symbols : PictureSymbols) → (is_lettered symbols.shape ≡ true → 1 ≤ symbols.whole + count) → SymbolsFine (added count symbols)
added-fine count symbols some = go (nat_le (symbols.whole + symbols.part + count) (most symbols.shape)) refl
  where
    go : (v : Bool) → nat_le (symbols.whole + symbols.part + count) (most symbols.shape) ≡ v →
        SymbolsFine (if v then Ok (counted count symbols symbols.shape) else Err (too_many symbols.shape))
    go true e =
        let few = leb-true (symbols.whole + symbols.part + count) (most symbols.shape) e in
        let most_few = most-few symbols.shape in
        counted-fine count symbols symbols.shape refl (omega (arith, few, most_few)) some
    go false e = tt

placed-fine : (place : SymbolPosition) (found : Result PictureSymbols Flaw) → SymbolsFine found → ReadingFine (placed place found)
placed-fine place (Ok symbols) h = h
placed-fine place (Err flaw) h = tt

-- ---- one symbol

-- S and V are no letters of a text
signed-shape : (shape next : PictureShape) → behind_sign shape ≡ Some next → is_lettered next ≡ false
signed-shape shapes.Start next e = sym (ap is_lettered (some_is e))
  where
    some_is : Some shapes.Signed ≡ Some next → shapes.Signed ≡ next
    some_is e = cc
signed-shape shapes.Nines next e = absurd cc
signed-shape shapes.Signed next e = absurd cc
signed-shape (shapes.Point signed) next e = absurd cc
signed-shape shapes.Letters next e = absurd cc
signed-shape shapes.Any next e = absurd cc

point-is : (signed : Bool) (next : PictureShape) → Some (shapes.Point signed) ≡ Some next → is_lettered next ≡ false
point-is signed next e = sym (ap is_lettered (some_is e))
  where
    some_is : Some (shapes.Point signed) ≡ Some next → shapes.Point signed ≡ next
    some_is e = cc

pointed-shape : (shape next : PictureShape) → behind_point shape ≡ Some next → is_lettered next ≡ false
pointed-shape shapes.Start next e = point-is false next e
pointed-shape shapes.Nines next e = point-is false next e
pointed-shape shapes.Signed next e = point-is true next e
pointed-shape (shapes.Point signed) next e = absurd cc
pointed-shape shapes.Letters next e = absurd cc
pointed-shape shapes.Any next e = absurd cc

no-letter : (byte : ℕ) (shape next : PictureShape) → (byte == symbol_s || byte == symbol_v) ≡ true → behind byte shape ≡ Some next → is_lettered next ≡ false
no-letter byte shape next h e = go others (byte == symbol_s) (byte == symbol_v) h e
  where
    others : Option PictureShape
    others =
        if byte == symbol_9 then Some (behind_nine shape) else if byte == symbol_a then behind_letter shape
        else if byte == symbol_x then behind_any shape else None

    go : (others : Option PictureShape) (s v : Bool) → (s || v) ≡ true → (if s then behind_sign shape else if v then behind_point shape else others) ≡ Some next → is_lettered next ≡ false
    go others true v h e = signed-shape shape next e
    go others false true h e = pointed-shape shape next e
    go others false false h e = apart h

symbol-fine : (byte : ℕ) (next : Option PictureShape) (symbols : PictureSymbols) → behind byte symbols.shape ≡ next → Fine symbols → ReadingFine (symbol_by byte next symbols)
symbol-fine byte None symbols is h = tt
symbol-fine byte (Some shape) symbols is h = go (byte == symbol_s || byte == symbol_v) refl
  where
    go : (v : Bool) → (byte == symbol_s || byte == symbol_v) ≡ v →
        ReadingFine (if v then placed places.Open (added 0 (record symbols { shape = shape })) else placed places.Behind (added 1 (record symbols { shape = shape })))
    go true e =
        placed-fine places.Open (added 0 (record symbols { shape = shape }))
        (added-fine 0 (record symbols { shape = shape }) (λ l. apart (sym (no-letter byte symbols.shape shape e is) ∙ l)))
    go false e = placed-fine places.Behind (added 1 (record symbols { shape = shape })) (added-fine 1 (record symbols { shape = shape }) (λ l. omega arith))

-- ---- a count

kept-fine : (place : SymbolPosition) (symbols : PictureSymbols) (found : Result PictureSymbols Flaw) → Fine symbols → ReadingFine (kept place symbols found)
kept-fine place symbols (Ok more) h = h
kept-fine place symbols (Err flaw) h = tt

either : {R : Type 0} (P : R → Type 0) (v : Bool) (x y : R) → P x → P y → P (if v then x else y)
either P true x y h k = h
either P false x y h k = k

closed-fine : (count : ℕ) (reading : PictureReading) → Fine reading.symbols → ReadingFine (closed count reading)
closed-fine count reading h =
    either ReadingFine (count == 0) (Err flaws.Order) (placed places.Open (added (count - 1) reading.symbols)) tt
    (placed-fine places.Open (added (count - 1) reading.symbols) (added-fine (count - 1) reading.symbols (λ l. let some = h.some l in omega (arith, some))))

digit-fine : (count d : ℕ) (reading : PictureReading) → Fine reading.symbols → ReadingFine (digit count d reading)
digit-fine count d reading h =
    either ReadingFine (nat_le (count * 10 + d) 65535)
    (kept (places.Count (count * 10 + d)) reading.symbols (added (count * 10 + d - 1) reading.symbols)) (Err (too_many reading.symbols.shape))
    (kept-fine (places.Count (count * 10 + d)) reading.symbols (added (count * 10 + d - 1) reading.symbols) h) tt

count-fine : (count byte : ℕ) (reading : PictureReading) → Fine reading.symbols → ReadingFine (in_count count byte reading)
count-fine count byte reading h =
    either ReadingFine (nat_le digit_0 byte && nat_le byte digit_9) (digit count (byte - digit_0) reading)
    (if byte == right_parenthesis then closed count reading else Err (flaw_of byte)) (digit-fine count (byte - digit_0) reading h)
    (either ReadingFine (byte == right_parenthesis) (closed count reading) (Err (flaw_of byte)) (closed-fine count reading h) tt)

step-fine : (place : SymbolPosition) (byte : ℕ) (reading : PictureReading) → Fine reading.symbols → ReadingFine (step_by place byte reading)
step-fine places.Open byte reading h = symbol-fine byte (behind byte reading.symbols.shape) reading.symbols refl h
step-fine places.Behind byte reading h =
    either ReadingFine (byte == left_parenthesis) (Ok (record reading { place = places.Count 0 })) (symbol byte reading) h
    (symbol-fine byte (behind byte reading.symbols.shape) reading.symbols refl h)
step-fine (places.Count count) byte reading h = count-fine count byte reading h

-- ---- the picture

abbrev Printable : ℕ → Result Picture Flaw → Type 0
Printable count found = if_any is_printable_picture (picture_if (ended count found)) ≡ true

not-zero : (n : ℕ) → (n == 0) ≡ false → nat_le 1 n ≡ true
not-zero n h = grind (arith, nat_tests)

number-printable : (count : ℕ) (signed : Bool) (whole part : ℕ) → Printable count (number signed whole part)
number-printable count signed whole part = go (whole + part == 0) (nat_le (whole + part) 18) refl refl
  where
    go : (none short : Bool) → (whole + part == 0) ≡ none → nat_le (whole + part) 18 ≡ short →
        Printable count (if none then Err flaws.Order else (if short then Ok (pictures.Number signed whole part) else Err flaws.Digits))
    go true short z e = refl
    go false true z e = both (not-zero (whole + part) z) e
    go false false z e = refl

picture-printable : (count : ℕ) (shape : PictureShape) (symbols : PictureSymbols) → symbols.shape ≡ shape → Fine symbols → Printable count (picture_by shape symbols)
picture-printable count shapes.Start symbols is h = refl
picture-printable count shapes.Nines symbols is h = number-printable count false symbols.whole 0
picture-printable count shapes.Signed symbols is h = number-printable count true symbols.whole 0
picture-printable count (shapes.Point signed) symbols is h = number-printable count signed symbols.whole symbols.part
picture-printable count shapes.Letters symbols is h = both (le-leb 1 symbols.whole (h.some (ap is_lettered is))) (le-leb symbols.whole 65535 h.few)
picture-printable count shapes.Any symbols is h = both (le-leb 1 symbols.whole (h.some (ap is_lettered is))) (le-leb symbols.whole 65535 h.few)

finish-printable : (count : ℕ) (place : SymbolPosition) (symbols : PictureSymbols) → Fine symbols → Printable count (finish_by place symbols)
finish-printable count (places.Count n) symbols h = refl
finish-printable count places.Open symbols h = picture-printable count symbols.shape symbols refl h
finish-printable count places.Behind symbols h = picture-printable count symbols.shape symbols refl h

finished : (count : ℕ) (reading : PictureReading) → Fine reading.symbols → Printable count (finish reading)
unfolding finish
finished count reading h = finish-printable count reading.place reading.symbols h

stepped : (byte : ℕ) (reading : PictureReading) → Fine reading.symbols → ReadingFine (step byte reading)
unfolding step
stepped byte reading h = step-fine reading.place byte reading h

read-printable : (count : ℕ) (reading : Result PictureReading Flaw) (text : List ℕ) → ReadingFine reading →
    if_any is_printable_picture (picture_if (read_from count reading text)) ≡ true
unfolding read_from
read-printable count (Err flaw) text h = refl
read-printable count (Ok reading) [] h = finished count reading h
read-printable count (Ok reading) (byte ∷ text) h =
    read-printable (count + 1) (step (to_ascii_uppercase byte) reading) text (stepped (to_ascii_uppercase byte) reading h)

start-printable : (text : List ℕ) → if_any is_printable_picture (picture_if (plain_picture text)) ≡ true
start-printable text = read-printable 0 (Ok start) text (record { few = omega arith; some = λ e. apart e })

-- ---- a mask

all-capitals : (mask : List ℕ) → map to_ascii_uppercase mask ≡ mask → list_all is_capital mask ≡ true
all-capitals [] e = refl
all-capitals (b ∷ mask) e = both (eq-eqb (to_ascii_uppercase b) b (capital_first b mask e)) (all-capitals mask (capital_rest b mask e))

no-comma : (b : ℕ) → not (is_separator b) ≡ true → (to_ascii_uppercase b == comma) ≡ false
no-comma b h = grind (arith, nat_tests)

-- no mask begins with a parenthesis
no-count : (n : ℕ) (rest : List ℕ) → fault_from n (mask_step n 40 mask_start) rest ≡ None → ⊥
unfolding fault_from mask_step mask_behind
no-count n rest e = err_none n (symbol_fault n 40) rest e

-- it begins as its text does
first-symbol : (text : List ℕ) → begins_well text ≡ true → mask_fault_of text ≡ None → (slice_index (written_out text) 0 == comma) ≡ false
unfolding written_from fault_from
first-symbol [] h e = refl
first-symbol (b ∷ rest) h e =
    either_way (λ (l : List ℕ). (slice_index l 0 == comma) ≡ false) (to_ascii_uppercase b == 40) _ _
    (λ is. absurd (no-count 1 rest (subst (λ c. fault_from 1 (mask_step 1 c mask_start) rest ≡ None) (eqb-true (to_ascii_uppercase b) 40 is) e)))
    (λ _. no-comma b h)

mask-printable : (text : List ℕ) → begins_well text ≡ true → mask_fault_of text ≡ None → is_printable_mask (written_out text) ≡ true
mask-printable text h e =
    let held = held_of text e in
    both
    (both (both (ap (λ o. not (is_some o)) held.is_mask.no_fault) held.is_mask.written_out) (all-capitals (written_out text) held.capitals))
    (ap not (first-symbol text h e))

held-printable : (text : List ℕ) (fault : Option MaskFault) → begins_well text ≡ true → mask_fault_of text ≡ fault → if_any is_printable_picture (picture_if (mask_picture (held_unless fault text))) ≡ true
held-printable text None h e = mask-printable text h e
held-printable text (Some fault) h e = refl

edited-printable : (text : List ℕ) (plain : Option ℕ) → begins_well text ≡ true → if_any is_printable_picture (picture_if (edited_by plain text)) ≡ true
edited-printable text None h = held-printable text (mask_fault_of text) h refl
edited-printable text (Some position) h = refl

pub text-printable : (text : List ℕ) → begins_well text ≡ true → if_any is_printable_picture (picture_if (picture_of text)) ≡ true
text-printable text h = go (is_edited text)
  where
    go : (b : Bool) → if_any is_printable_picture (picture_if (if b then edited_picture text else plain_picture text)) ≡ true
    go true = edited-printable text (first_plain 0 text) h
    go false = start-printable text
