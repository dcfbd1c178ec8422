-- How long the text of a picture is.
use Rattle.std.proofs.Common.{ℕ, ◌+◌, ◌<◌, ◌≤◌, ◌^◌, Bool, true, false, if◌then◌else◌, [], ◌∷◌, ◌++◌, length, length-append, arith}
use Rattle.std.specs.Prelude.{◌==◌, decimal, codes}
use Rattle.std.specs.Str.{byte}
use Rattle.std.proofs.lemmas.Fmt.{length-decimal-le}
use Rattle.cob_base.specs.Bytes.{left_parenthesis, right_parenthesis}
use Rattle.cob_tree.specs.declared.picture.Picture.{Picture}
use Rattle.cob_tree.specs.declared.picture.Picture.TheVariants as pictures
use Rattle.edit_fields.proofs.PrintedMasksAreShort.{printed_masks_are_short}
use Rattle.cobol_print.specs.units.Picture.{run_text, some_run, part_text, picture_text}
use Rattle.round_trip.specs.declarations.printed_pictures.Writable.{IsWritable}

run-short : (symbol count : ℕ) → count ≤ 65535 → length (run_text symbol count) ≤ 8
run-short symbol count small = go (count == 1)
  where
    few : length (decimal count) ≤ 5
    few = length-decimal-le 5 count (omega arith) (omega (arith, small)) (omega (arith, small))

    go : (b : Bool) → length (symbol ∷ (if b then [] else left_parenthesis ∷ decimal count ++ right_parenthesis ∷ [])) ≤ 8
    go true = omega arith
    go false = let all = length-append (decimal count) (right_parenthesis ∷ []) in omega (arith, few, all)

some-short : (count : ℕ) → count ≤ 18 → length (some_run count) ≤ 8
some-short count small = go (count == 0)
  where
    go : (b : Bool) → length (if b then [] else run_text (byte "9") count) ≤ 8
    go true = omega arith
    go false = run-short (byte "9") count (omega (arith, small))

part-short : (count : ℕ) → count ≤ 18 → length (part_text count) ≤ 9
part-short count small = go (count == 0)
  where
    go : (b : Bool) → length (if b then [] else byte "V" ∷ run_text (byte "9") count) ≤ 9
    go true = omega arith
    go false = let run = run-short (byte "9") count (omega (arith, small)) in omega (arith, run)

number-short : (signed : Bool) (whole part : ℕ) → whole + part ≤ 18 → length (picture_text (pictures.Number signed whole part)) ≤ 18
number-short signed whole part small = go signed
  where
    front : length (some_run whole) ≤ 8
    front = some-short whole (omega (arith, small))

    back : length (part_text part) ≤ 9
    back = part-short part (omega (arith, small))

    digits : length (some_run whole ++ part_text part) ≤ 17
    digits = let all = length-append (some_run whole) (part_text part) in omega (arith, front, back, all)

    go : (b : Bool) → length ((if b then codes "S" else []) ++ some_run whole ++ part_text part) ≤ 18
    go true = omega (arith, digits)
    go false = omega (arith, digits)

pub picture-short : (picture : Picture) → IsWritable picture → length (picture_text picture) < 2 ^ 31
picture-short (pictures.Number signed whole part) h = let all = number-short signed whole part h.1 in omega (arith, all)
picture-short (pictures.Letters count) h = let all = run-short (byte "A") count h.1 in omega (arith, all)
picture-short (pictures.Any count) h = let all = run-short (byte "X") count h.1 in omega (arith, all)
picture-short (pictures.Edited mask) h = let all = printed_masks_are_short mask h.is_mask h.capitals in omega (arith, all)
