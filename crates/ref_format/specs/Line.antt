-- The lines of a source.
use Rattle.std.specs.Prelude.{ℕ, ◌+◌, if◌then◌else◌, List, [], ◌∷◌, ◌++◌, map}
use Rattle.std.specs.Str.Lines.{lines}
use Rattle.cob_base.specs.Bytes.{line_feed}
use Rattle.ref_format.specs.Column.{card_of}
use Rattle.ref_format.specs.Entry.{is_dropped}

-- a line's columns 1 to 72 with its number, from 1
pub record Line : Type 0 where
  pub number : ℕ
  -- columns 1 to 72
  pub card : List ℕ

-- the line with this number and these columns
abbrev pub line_of : ℕ → List ℕ → Line
line_of number card = record { number = number; card = card }

-- the kept ones of the lines, which are numbered from `number`, where those come before them
abbrev pub kept_behind : List (List ℕ) → ℕ → List (List ℕ) → List Line
kept_behind before number [] = []
kept_behind before number (card ∷ cards) =
    if is_dropped before card
    then kept_behind (card ∷ before) (number + 1) cards
    else line_of number card ∷ kept_behind (card ∷ before) (number + 1) cards

-- the kept lines of a source
unfoldable pub kept_lines : List ℕ → List Line
kept_lines bytes = kept_behind [] 1 (map card_of (lines bytes))

-- the lines as a source, each with its end
abbrev pub source_of : List (List ℕ) → List ℕ
source_of [] = []
source_of (line ∷ lines) = line ++ line_feed ∷ source_of lines
