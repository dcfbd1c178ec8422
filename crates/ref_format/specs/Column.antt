-- The columns of a line.
use Rattle.std.specs.Prelude.{ℕ, ◌+◌, ◌-◌, ◌%◌, ◌==◌, nat_lt, if◌then◌else◌, Bool, List, [], ◌∷◌, ◌++◌, length, take, drop, replicate, slice_index}
use Rattle.std.specs.List.{list_all, list_any}
use Rattle.cob_base.specs.Bytes.{tab, space, hyphen}

-- a line that begins after so many columns, with each tab as the spaces up to the next of columns
-- 9, 17, 25 and so on
abbrev pub untabbed : ℕ → List ℕ → List ℕ
untabbed before [] = []
untabbed before (b ∷ bs) =
    if b == tab
    then replicate (8 - before % 8) space ++ untabbed (before + (8 - before % 8)) bs
    else b ∷ untabbed (before + 1) bs

-- the bytes in columns 1 to 72 of a line
unfoldable pub card_of : List ℕ → List ℕ
card_of line = take 72 (untabbed 0 line ++ replicate 72 space)

-- a line without tabs, as its 72 columns
abbrev pub plain_card : List ℕ → List ℕ
plain_card line = take 72 (line ++ replicate 72 space)

-- there is a tab in the line
abbrev pub has_tab : List ℕ → Bool
has_tab bytes = list_any (λ b. b == tab) bytes

-- the bytes from one column to another, which count from 1
abbrev pub columns : ℕ → ℕ → List ℕ → List ℕ
columns from to card = take (to + 1 - from) (drop (from - 1) card)

-- the byte in column 7
abbrev pub indicator : List ℕ → ℕ
indicator card = slice_index card 6

-- column 7 is a space
abbrev pub is_ordinary : List ℕ → Bool
is_ordinary card = indicator card == space

-- column 7 is a hyphen
abbrev pub is_continuation : List ℕ → Bool
is_continuation card = indicator card == hyphen

-- the bytes are spaces alone
abbrev pub is_blank : List ℕ → Bool
is_blank bytes = list_all (λ b. b == space) bytes

-- there is a control character among the bytes
abbrev pub has_control : List ℕ → Bool
has_control bytes = list_any (λ b. nat_lt b space) bytes

-- the bytes from the first one on that is no space
abbrev pub unspaced : List ℕ → List ℕ
unspaced [] = []
unspaced (b ∷ bs) = if b == space then unspaced bs else b ∷ bs

-- the bytes with spaces after them, up to so many
abbrev pub filled : ℕ → List ℕ → List ℕ
filled width text = text ++ replicate (width - length text) space
