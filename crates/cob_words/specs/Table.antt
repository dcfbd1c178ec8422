-- Words by number: a table is a list of words, each numbered by its place.
use Rattle.std.specs.Prelude.{ℕ, List, [], ◌∷◌, ◌++◌, length, position, unwrap_or, if◌then◌else◌}
use Rattle.std.specs.List.{list_any}
use Rattle.std.specs.Str.{bytes_eq}

-- the place of a word, or the next one where it isn't there
abbrev pub number_in : List (List ℕ) → List ℕ → ℕ
number_in words word = unwrap_or (position (bytes_eq word) words) (length words)

-- the words with this one, which is added after them where it isn't there
abbrev pub with_word : List (List ℕ) → List ℕ → List (List ℕ)
with_word words word = if list_any (bytes_eq word) words then words else words ++ word ∷ []
