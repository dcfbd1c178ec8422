-- Lines as they are written, continued ones too, and the text that they are.
use Rattle.std.specs.Prelude.{ℕ, ◌+◌, ◌≤◌, ◌≡◌, ◌≢◌, nat_le, true, List, [], ◌∷◌, ◌++◌, length, replicate, drop}
use Rattle.std.specs.List.{list_all}
use Rattle.cob_base.specs.Bytes.{line_feed, space, quote, apostrophe, hyphen}
use Rattle.ref_format.specs.declared.placed.Placed.{Placed}
use Rattle.ref_format.specs.declared.joining.Literal.{Literal}
use Rattle.ref_format.specs.declared.joining.Literal.TheVariants.{Closed, InQuotes, InApostrophes}
use Rattle.ref_format.specs.Column.{filled}
use Rattle.ref_format.specs.Joining.{behind}
use Rattle.ref_format.specs.Placed.{placed}
use Rattle.ref_format.specs.Plain.{IsPlainLine, plain_line}

-- a line with nothing in column 7 and its text from column 8, or a continuation and its text from
-- column 12
pub data Row : Type 0 where
  Begins : List ℕ → Row
  GoesOn : List ℕ → Row

-- ---- lines

-- the line as it is written
abbrev pub row_line : Row → List ℕ
row_line (Begins text) = plain_line text
row_line (GoesOn text) = replicate 6 space ++ (hyphen ∷ replicate 4 space) ++ text

-- ---- the text

-- what is left of a continuation: less the mark of the literal that is open
abbrev pub less_mark : Literal → List ℕ → List ℕ
less_mark Closed bytes = bytes
less_mark _ bytes = drop 1 bytes

-- what a line adds to the text, where this literal is open before it
abbrev pub row_text : Literal → Row → List ℕ
row_text literal (Begins text) = filled 65 text
row_text literal (GoesOn text) = less_mark literal (filled 61 text)

-- the literal that is open after a line
abbrev pub literal_behind : Literal → Row → Literal
literal_behind literal (Begins text) = behind Closed (filled 65 text)
literal_behind literal (GoesOn text) = behind literal (less_mark literal (filled 61 text))

-- the end of this line, where the next is no continuation
abbrev pub end_before : (number : ℕ) → Row → List Placed
end_before number (Begins text) = placed number (line_feed ∷ [])
end_before number (GoesOn text) = []

-- the text of the lines after line `number`
abbrev pub rows_text : (number : ℕ) → Literal → List Row → List Placed
rows_text number literal [] = []
rows_text number literal (row ∷ rows) =
    end_before number row ++ placed (number + 1) (row_text literal row)
    ++ rows_text (number + 1) (literal_behind literal row) rows

-- the text of lines of which the first is this plain one
abbrev pub text_of_rows : List ℕ → List Row → List Placed
text_of_rows text rows =
    placed 1 (filled 65 text) ++ rows_text 1 (behind Closed (filled 65 text)) rows

-- ---- which lines can be written so

-- the last byte, or the one before where there is none
abbrev pub last_of : (before : ℕ) → List ℕ → ℕ
last_of before [] = before
last_of before (b ∷ bytes) = last_of b bytes

-- a continuation begins with the mark of the literal that is open; where none is, no space is
-- at the cut
abbrev pub TakesUp : Literal → (last : ℕ) → List ℕ → Type 0
TakesUp literal last [] = ⊥
TakesUp Closed last (b ∷ text) = (b ≢ space) × (last ≢ space)
TakesUp InQuotes last (b ∷ text) = b ≡ quote
TakesUp InApostrophes last (b ∷ text) = b ≡ apostrophe

-- this text may be written on a continuation, after a text with this open literal and last byte
pub record IsContinuation (literal : Literal) (last : ℕ) (text : List ℕ) : Type 0 where
  pub short : length text ≤ 61
  -- without control characters
  pub printable : list_all (nat_le space) text ≡ true
  -- it takes up the literal that is open
  pub takes_up : TakesUp literal last text

-- the line may be written there
abbrev pub IsRow : Literal → (last : ℕ) → Row → Type 0
IsRow literal last (Begins text) = IsPlainLine text
IsRow literal last (GoesOn text) = IsContinuation literal last text

-- each line is a plain one or a continuation, after a text with this open literal and last byte
abbrev pub AreRows : Literal → (last : ℕ) → List Row → Type 0
AreRows literal last [] = Unit {0}
AreRows literal last (row ∷ rows) =
    IsRow literal last row
    × AreRows (literal_behind literal row) (last_of space (row_text literal row)) rows
