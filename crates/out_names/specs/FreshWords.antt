-- Words with a number that aren't in a table.
use Rattle.std.specs.Prelude.{ℕ, zero, suc, ◌≡◌, ◌≤◌, ◌<◌, Bool, true, false, if◌then◌else◌, List, length, ◌++◌}
use Rattle.std.specs.List.{list_any}
use Rattle.std.specs.Str.{bytes_eq}
use Rattle.std.specs.Fmt.{decimal}
use Rattle.out_names.specs.declared.fresh_words.FreshWord.{FreshWord}

-- the table has the stem with this number
abbrev pub is_taken : List (List ℕ) → List ℕ → ℕ → Bool
is_taken words stem number = list_any (bytes_eq (stem ++ decimal number)) words

-- the first number from this one on that isn't taken, after so many that are tried at most
abbrev pub first_free : ℕ → List (List ℕ) → List ℕ → ℕ → ℕ
first_free zero words stem from = from
first_free (suc room) words stem from =
    if is_taken words stem from then first_free room words stem (suc from) else from

-- the first number from this one on with which the stem is no word; no more numbers are taken than
-- there are words
abbrev pub fresh_number : List (List ℕ) → List ℕ → ℕ → ℕ
fresh_number words stem from = first_free (length words) words stem from

-- the stem with the first number from this one on that isn't taken
abbrev pub fresh_word : List (List ℕ) → List ℕ → ℕ → FreshWord
fresh_word words stem from =
    let number = fresh_number words stem from in
    record { word = stem ++ decimal number; number = number }

-- the least number from this one on that isn't taken
pub record IsFresh (words : List (List ℕ)) (stem : List ℕ) (from number : ℕ) : Type 0 where
  -- it isn't below this number
  pub least : from ≤ number
  -- it isn't taken
  pub free : is_taken words stem number ≡ false
  -- each number before it is taken
  pub passed : (earlier : ℕ) → from ≤ earlier → earlier < number →
      is_taken words stem earlier ≡ true
