-- Lines with nothing in them that the format treats in its own way.
use Rattle.std.specs.Prelude.{ℕ, ◌≡◌, ◌≤◌, ◌+◌, nat_le, true, false, List, [], ◌∷◌, ◌++◌, length, replicate}
use Rattle.std.specs.List.{list_all}
use Rattle.cob_base.specs.Bytes.{space, line_feed}
use Rattle.ref_format.specs.declared.placed.Placed.{Placed}
use Rattle.ref_format.specs.Column.{is_blank, filled}
use Rattle.ref_format.specs.Placed.{placed}

-- a text that can be written from column 8 on
pub record IsPlainLine (text : List ℕ) : Type 0 where
  pub short : length text ≤ 65
  -- without control characters
  pub printable : list_all (nat_le space) text ≡ true
  -- and not blank
  pub some : is_blank text ≡ false

-- it is there
abbrev pub plain_line : List ℕ → List ℕ
plain_line text = replicate 7 space ++ text

-- the texts, filled to column 72 and numbered after `number`, after the line before them
abbrev pub laid_behind : (number : ℕ) → List (List ℕ) → List Placed
laid_behind number [] = []
laid_behind number (text ∷ texts) =
    placed number (line_feed ∷ []) ++ placed (number + 1) (filled 65 text)
    ++ laid_behind (number + 1) texts

-- the texts, filled to column 72, with an end of line between them
abbrev pub laid : List (List ℕ) → List Placed
laid [] = []
laid (text ∷ texts) = placed 1 (filled 65 text) ++ laid_behind 1 texts
