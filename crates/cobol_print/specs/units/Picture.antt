-- Pictures as text.
use Rattle.std.specs.Prelude.{ℕ, ◌==◌, List, [], ◌∷◌, ◌++◌, codes, decimal, if◌then◌else◌}
use Rattle.std.specs.Str.{byte}
use Rattle.cob_base.specs.Bytes.{left_parenthesis, right_parenthesis}
use Rattle.cob_tree.specs.declared.picture.Picture.{Picture}
use Rattle.cob_tree.specs.declared.picture.Picture.TheVariants.{Number, Letters, Any, Edited}
use Rattle.edit_fields.specs.Laws.{printed}

-- a run of a symbol, as `9` or `9(4)`
abbrev pub run_text : (symbol count : ℕ) → List ℕ
run_text symbol count =
    symbol ∷ (if count == 1 then []
    else left_parenthesis ∷ decimal count ++ right_parenthesis ∷ [])

-- a run of 9, or nothing where there are none
abbrev pub some_run : (count : ℕ) → List ℕ
some_run count = if count == 0 then [] else run_text (byte "9") count

-- the digits after the decimal point, with the V before them
abbrev pub part_text : (count : ℕ) → List ℕ
part_text count = if count == 0 then [] else byte "V" ∷ run_text (byte "9") count

-- a picture
abbrev pub picture_text : Picture → List ℕ
picture_text (Number signed whole part) =
    (if signed then codes "S" else []) ++ some_run whole ++ part_text part
picture_text (Letters count) = run_text (byte "A") count
picture_text (Any count) = run_text (byte "X") count
picture_text (Edited mask) = printed mask
