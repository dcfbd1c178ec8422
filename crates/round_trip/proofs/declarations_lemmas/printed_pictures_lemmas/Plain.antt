-- What is printed of a picture that isn't edited isn't taken as a mask.
use Rattle.std.proofs.Common.{◌≡◌, ℕ, ◌+◌, ◌/◌, ◌%◌, ◌<◌, ◌≤◌, Bool, true, false, ◌==◌, if◌then◌else◌, List, [], ◌∷◌, ◌++◌, refl, sym, ap, ◌∙◌, arith, append_assoc, append-nil}
use Rattle.std.specs.Prelude.{decimal}
use Rattle.std.specs.Str.{byte}
use Rattle.std.proofs.lemmas.Fmt.{decimal_by_steps}
use Rattle.cob_base.specs.Bytes.{left_parenthesis, right_parenthesis}
use Rattle.picture_data.specs.Edited.{is_edited, is_edited_from}
use Rattle.cobol_print.specs.units.Picture.{run_text, some_run, part_text}
use Rattle.round_trip.proofs.declarations_lemmas.printed_pictures_lemmas.Masks.{marked-digit, marked-open, marked-close, marked-end}

-- the digits of a count say nothing
abbrev Silent : ℕ → List ℕ → Type 0
Silent m ds = (more : List ℕ) → is_edited_from true (ds ++ more) ≡ is_edited_from true more

count-plain : (count : ℕ) → count ≤ 65535 → (more : List ℕ) → is_edited_from true (decimal count ++ more) ≡ is_edited_from true more
count-plain count small = decimal_by_steps Silent one step count (omega (arith, small))
  where
    one : (m : ℕ) → m < 10 → Silent m ((48 + m) ∷ [])
    one m h more = marked-digit m more (omega (arith, h))

    step : (m : ℕ) (ds : List ℕ) → 10 ≤ m → Silent (m / 10) ds → Silent m (ds ++ (48 + m % 10) ∷ [])
    step m ds large before more =
        ap (is_edited_from true) (append_assoc ds ((48 + m % 10) ∷ []) more) ∙ before ((48 + m % 10) ∷ more) ∙ marked-digit (m % 10) more (omega arith)

-- a symbol of pictures that aren't edited
abbrev Quiet : ℕ → Type 0
Quiet symbol = (more : List ℕ) → is_edited_from false (symbol ∷ more) ≡ is_edited_from false more

quiet-9 : Quiet (byte "9")
unfolding is_edited_from
quiet-9 more = refl

quiet-a : Quiet (byte "A")
unfolding is_edited_from
quiet-a more = refl

quiet-x : Quiet (byte "X")
unfolding is_edited_from
quiet-x more = refl

quiet-v : Quiet (byte "V")
unfolding is_edited_from
quiet-v more = refl

pub quiet-s : Quiet (byte "S")
unfolding is_edited_from
quiet-s more = refl

run-plain : (symbol count : ℕ) → Quiet symbol → count ≤ 65535 → (more : List ℕ) → is_edited_from false (run_text symbol count ++ more) ≡ is_edited_from false more
run-plain symbol count quiet small more = go (count == 1)
  where
    counted : is_edited_from false (left_parenthesis ∷ (decimal count ++ right_parenthesis ∷ []) ++ more) ≡ is_edited_from false more
    counted =
        marked-open ((decimal count ++ right_parenthesis ∷ []) ++ more)
        ∙ ap (is_edited_from true) (append_assoc (decimal count) (right_parenthesis ∷ []) more)
        ∙ count-plain count small (right_parenthesis ∷ more) ∙ marked-close more

    go : (b : Bool) → is_edited_from false ((symbol ∷ (if b then [] else left_parenthesis ∷ decimal count ++ right_parenthesis ∷ [])) ++ more) ≡ is_edited_from false more
    go true = quiet more
    go false = quiet (left_parenthesis ∷ (decimal count ++ right_parenthesis ∷ []) ++ more) ∙ counted

alone-plain : (symbol count : ℕ) → Quiet symbol → count ≤ 65535 → is_edited (run_text symbol count) ≡ false
alone-plain symbol count quiet small =
    ap (is_edited_from false) (sym (append-nil (run_text symbol count))) ∙ run-plain symbol count quiet small [] ∙ marked-end

pub letters-plain : (count : ℕ) → count ≤ 65535 → is_edited (run_text (byte "A") count) ≡ false
letters-plain count small = alone-plain (byte "A") count quiet-a small

pub any-plain : (count : ℕ) → count ≤ 65535 → is_edited (run_text (byte "X") count) ≡ false
any-plain count small = alone-plain (byte "X") count quiet-x small

part-plain : (part : ℕ) → part ≤ 18 → is_edited_from false (part_text part) ≡ false
part-plain part small = go (part == 0)
  where
    go : (b : Bool) → is_edited_from false (if b then [] else byte "V" ∷ run_text (byte "9") part) ≡ false
    go true = marked-end
    go false = quiet-v (run_text (byte "9") part) ∙ alone-plain (byte "9") part quiet-9 (omega (arith, small))

pub digits-plain : (whole part : ℕ) → whole + part ≤ 18 → is_edited_from false (some_run whole ++ part_text part) ≡ false
digits-plain whole part small = go (whole == 0)
  where
    go : (b : Bool) → is_edited_from false ((if b then [] else run_text (byte "9") whole) ++ part_text part) ≡ false
    go true = part-plain part (omega (arith, small))
    go false = run-plain (byte "9") whole quiet-9 (omega (arith, small)) (part_text part) ∙ part-plain part (omega (arith, small))
