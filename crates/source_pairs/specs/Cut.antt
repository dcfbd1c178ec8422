-- Two programs in one source, cut at a line.
use Rattle.std.specs.Prelude.{ℕ, zero, suc, ◌≡◌, ◌≤◌, ◌⊎◌, ◌==◌, if◌then◌else◌, List, [], ◌∷◌, ◌++◌, length, Option, Some, None, codes}
use Rattle.cob_base.specs.Bytes.{line_feed}

-- `=`
abbrev pub equals : ℕ
equals = 61

-- the carriage return, which may come before a line feed
abbrev pub carriage_return : ℕ
carriage_return = 13

-- six `=`
abbrev pub bar : List ℕ
bar = codes "======"

-- a line begins behind these bytes: they are none, or end with a line feed
abbrev pub BeginsLine : List ℕ → Type 0
BeginsLine before = (before ≡ []) ⊎ ((front : List ℕ) × (before ≡ front ++ line_feed ∷ []))

-- the bytes begin with a line that is exactly six `=`, and then there are these: it ends with a line
-- feed, with a carriage return and a line feed, or with the bytes
abbrev pub IsBar : (bytes behind : List ℕ) → Type 0
IsBar bytes behind =
    (bytes ≡ bar ++ line_feed ∷ behind) ⊎ (bytes ≡ bar ++ carriage_return ∷ line_feed ∷ behind)
    ⊎ (bytes ≡ bar) × (behind ≡ [])

-- the bytes are cut into these two at their first line that is exactly six `=`
pub record IsCut (bytes first second : List ℕ) : Type 0 where
  -- the line and what is behind it
  pub rest : List ℕ
  pub whole : bytes ≡ first ++ rest
  -- it is a line
  pub begins : BeginsLine first
  -- of six `=`, and the second is behind it
  pub here : IsBar rest second
  -- no such line comes before
  pub least : (before rest behind : List ℕ) → bytes ≡ before ++ rest → BeginsLine before →
      IsBar rest behind → length first ≤ length before

-- no line of the bytes is exactly six `=`
abbrev pub IsUncut : List ℕ → Type 0
IsUncut bytes = (before rest behind : List ℕ) → bytes ≡ before ++ rest → BeginsLine before →
    IsBar rest behind → ⊥

-- ---- as it is found

-- how many bytes the line has, where a line feed is the first of these behind its carriage return
abbrev pub return_length : List ℕ → Option ℕ
return_length [] = None
return_length (byte ∷ bytes) = if byte == line_feed then Some 8 else None

-- how many bytes six `=` and the end of their line have, where the line ends here
abbrev pub end_length : List ℕ → Option ℕ
end_length [] = Some 6
end_length (byte ∷ bytes) =
    if byte == line_feed then Some 7
    else if byte == carriage_return then return_length bytes
    else None

-- how many bytes the line has, where so many `=` more are first
abbrev pub signs_length : ℕ → List ℕ → Option ℕ
signs_length zero bytes = end_length bytes
signs_length (suc more) [] = None
signs_length (suc more) (byte ∷ bytes) =
    if byte == equals then signs_length more bytes else None

-- how many bytes the line of the cut has with its end, where the bytes begin with it
abbrev pub bar_length : List ℕ → Option ℕ
bar_length bytes = signs_length 6 bytes
