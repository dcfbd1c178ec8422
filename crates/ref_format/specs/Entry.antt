-- Which lines are dropped: comments, blank lines and comment entries.
use Rattle.std.specs.Prelude.{ℕ, ◌≡◌, ◌==◌, ◌&&◌, ◌||◌, not, Bool, true, false, List, [], ◌∷◌, codes}
use Rattle.std.specs.Char.{to_ascii_uppercase}
use Rattle.std.specs.List.{list_any}
use Rattle.cob_base.specs.Bytes.{asterisk, slash, capital_d, small_d}
use Rattle.ref_format.specs.Column.{card_of, columns, indicator, is_ordinary, is_blank, unspaced}

-- `*`, `/`, `D` or `d` in column 7
abbrev pub is_comment : List ℕ → Bool
is_comment card =
    indicator card == asterisk || indicator card == slash
    || indicator card == capital_d || indicator card == small_d

-- the word, which is in capitals, is in front of the text, in either case
abbrev pub starts_folded : (word text : List ℕ) → Bool
starts_folded [] text = true
starts_folded (w ∷ word) [] = false
starts_folded (w ∷ word) (b ∷ text) = to_ascii_uppercase b == w && starts_folded word text

-- one of the words is in front of the text
abbrev pub starts_one : List (List ℕ) → List ℕ → Bool
starts_one words text = list_any (λ word. starts_folded word text) words

-- the line begins with one of the words: its first byte that is no space is in columns 8 to 11, and
-- there the word begins
abbrev pub begins_one : List (List ℕ) → List ℕ → Bool
begins_one words card =
    not (is_blank (columns 8 11 card)) && starts_one words (unspaced (columns 8 72 card))

-- the words that begin the header of a division after the first
unfoldable pub division_headers : List (List ℕ)
division_headers = codes "ENVIRONMENT " ∷ codes "DATA " ∷ codes "PROCEDURE " ∷ []

-- the words that begin a comment entry
unfoldable pub comment_headers : List (List ℕ)
comment_headers =
    codes "AUTHOR." ∷ codes "INSTALLATION." ∷ codes "DATE-WRITTEN." ∷ codes "DATE-COMPILED."
    ∷ codes "SECURITY." ∷ codes "REMARKS." ∷ []

-- the line begins a division, after which no comment entry begins
abbrev pub is_division : List ℕ → Bool
is_division card = is_ordinary card && begins_one division_headers card

-- the line begins a comment entry, where no division header is before it
abbrev pub is_comment_header : List ℕ → Bool
is_comment_header card = is_ordinary card && begins_one comment_headers card

-- a comment entry goes on over such a line
abbrev pub entry_goes_on : List ℕ → Bool
entry_goes_on card = is_comment card || is_blank (columns 8 11 card)

-- a comment entry begins with this line, after those lines
abbrev pub begins_entry : List (List ℕ) → List ℕ → Bool
begins_entry before card = is_comment_header card && not (list_any is_division before)

-- the first of these lines, the last first, belongs to a comment entry, which it begins or which
-- goes on over it
abbrev pub in_entry : List (List ℕ) → Bool
in_entry [] = false
in_entry (card ∷ before) = begins_entry before card || (entry_goes_on card && in_entry before)

-- a comment line or a blank one
abbrev pub is_without_text : List ℕ → Bool
is_without_text card = is_comment card || is_blank (columns 7 72 card)

-- the line is dropped, where these come before it, the last first
abbrev pub is_dropped : List (List ℕ) → List ℕ → Bool
is_dropped before card = is_without_text card || in_entry (card ∷ before)

-- none of these lines begins a comment entry, where `over` says that a division header comes
-- before them
abbrev pub NoEntry : (over : Bool) → List (List ℕ) → Type 0
NoEntry over [] = Unit {0}
NoEntry over (line ∷ lines) =
    ((is_comment_header (card_of line) && not over) ≡ false)
    × NoEntry (is_division (card_of line) || over) lines
