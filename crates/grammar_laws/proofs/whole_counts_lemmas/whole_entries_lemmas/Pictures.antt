-- A number whose picture is read has at most 18 digits.
use Rattle.std.proofs.Common.{Option, Some, None, ◌≡◌, ℕ, ◌+◌, Bool, true, false, if◌then◌else◌, List, [], ◌∷◌, Result, Ok, Err, refl}
use Rattle.std.specs.Prelude.{◌==◌, nat_le}
use Rattle.std.specs.Char.{to_ascii_uppercase}
use Rattle.cob_tree.specs.declared.picture.Picture.{Picture}
use Rattle.cob_tree.specs.declared.picture.Picture.TheVariants as pictures
use Rattle.picture_data.specs.declared.fault.Flaw.{Flaw}
use Rattle.picture_data.specs.declared.fault.Flaw.TheVariants as flaws
use Rattle.picture_data.specs.declared.reading.SymbolPosition.{SymbolPosition}
use Rattle.picture_data.specs.declared.reading.SymbolPosition.TheVariants as places
use Rattle.picture_data.specs.declared.reading.PictureReading.{PictureReading}
use Rattle.picture_data.specs.declared.symbols.PictureShape.{PictureShape}
use Rattle.picture_data.specs.declared.symbols.PictureShape.TheVariants as shapes
use Rattle.picture_data.specs.declared.symbols.PictureSymbols.{PictureSymbols}
use Rattle.edit_fields.specs.declared.fault.MaskFault.{MaskFault}
use Rattle.edit_fields.specs.Mask.{held}
use Rattle.picture_data.specs.Edited.{first_plain, is_edited, edited_picture, edited_by, picture_by as mask_picture}
use Rattle.picture_data.specs.Reading.{start, step, finish_by, finish, ended, read_from, plain_picture, picture_of}
use Rattle.picture_data.specs.Symbols.{number, picture_by}
use Rattle.declaration_checks.specs.Base.{picture_if}
use Rattle.grammar_laws.specs.whole_counts.whole_entries.Fitting.{is_short}

-- what is read behind so many bytes
abbrev Short : ℕ → Result Picture Flaw → Type 0
Short count found = is_short (picture_if (ended count found)) ≡ true

number-short : (count : ℕ) (signed : Bool) (whole part : ℕ) → Short count (number signed whole part)
number-short count signed whole part = go (whole + part == 0) (nat_le (whole + part) 18) refl
  where
    go : (none short : Bool) → nat_le (whole + part) 18 ≡ short →
        Short count (if none then Err flaws.Order else (if short then Ok (pictures.Number signed whole part) else Err flaws.Digits))
    go true short e = refl
    go false true e = e
    go false false e = refl

symbols-short : (count : ℕ) (shape : PictureShape) (symbols : PictureSymbols) → Short count (picture_by shape symbols)
symbols-short count shapes.Start symbols = refl
symbols-short count shapes.Nines symbols = number-short count false symbols.whole 0
symbols-short count shapes.Signed symbols = number-short count true symbols.whole 0
symbols-short count (shapes.Point signed) symbols = number-short count signed symbols.whole symbols.part
symbols-short count shapes.Letters symbols = refl
symbols-short count shapes.Any symbols = refl

finish-short : (count : ℕ) (place : SymbolPosition) (symbols : PictureSymbols) → Short count (finish_by place symbols)
finish-short count (places.Count n) symbols = refl
finish-short count places.Open symbols = symbols-short count symbols.shape symbols
finish-short count places.Behind symbols = symbols-short count symbols.shape symbols

finished-short : (count : ℕ) (reading : PictureReading) → Short count (finish reading)
unfolding finish
finished-short count reading = finish-short count reading.place reading.symbols

read-short : (count : ℕ) (reading : Result PictureReading Flaw) (text : List ℕ) → is_short (picture_if (read_from count reading text)) ≡ true
unfolding read_from
read-short count (Err flaw) text = refl
read-short count (Ok reading) [] = finished-short count reading
read-short count (Ok reading) (byte ∷ text) = read-short (count + 1) (step (to_ascii_uppercase byte) reading) text

-- a mask has a number of digits of its own
mask-short : (found : Result (List ℕ) MaskFault) → is_short (picture_if (mask_picture found)) ≡ true
mask-short (Ok mask) = refl
mask-short (Err fault) = refl

edited-short : (text : List ℕ) (plain : Option ℕ) → is_short (picture_if (edited_by plain text)) ≡ true
edited-short text None = mask-short (held text)
edited-short text (Some position) = refl

pub picture-short : (text : List ℕ) → is_short (picture_if (picture_of text)) ≡ true
picture-short text = go (is_edited text)
  where
    go : (b : Bool) → is_short (picture_if (if b then edited_picture text else plain_picture text)) ≡ true
    go true = edited-short text (first_plain 0 text)
    go false = read-short 0 (Ok start) text
