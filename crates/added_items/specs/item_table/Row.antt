-- The cells of shaped ranges in one row: those of the first range, then those of the next one.
use Rattle.std.specs.Prelude.{ℕ, ◌+◌, nat_lt, if◌then◌else◌, List, [], ◌∷◌, ◌++◌, length}
use Rattle.control_flow_theory.specs.language.Language.{Stmts, none, Range, same_range}
use Rattle.control_flow_theory.specs.graph_rules.Families.{Added}
use Rattle.added_items.specs.mentions.CellUse.{cells_named}

-- a range that was shaped: what its cells are for, and its body
pub record CellRange : Type 0 where
  pub range : Range
  -- what each cell is for
  pub added : List Added
  pub body : Stmts

-- the first of these with the range; where there is none, one without cells
abbrev pub of_range : List CellRange → Range → CellRange
of_range [] range = record { range = range; added = []; body = none }
of_range (one ∷ others) range = if same_range one.range range then one else of_range others range

-- how many cells come before the range's own
abbrev pub cells_before : List CellRange → Range → ℕ
cells_before [] range = 0
cells_before (one ∷ others) range =
    if same_range one.range range then 0 else length one.added + cells_before others range

-- what each is for
abbrev pub kinds_of_row : List CellRange → List Added
kinds_of_row [] = []
kinds_of_row (one ∷ others) = one.added ++ kinds_of_row others

-- those of so many cells after so many, in the order in which they are named
abbrev pub in_row : (before count : ℕ) → List ℕ → List ℕ
in_row before count [] = []
in_row before count (cell ∷ cells) =
    if nat_lt cell count then (before + cell) ∷ in_row before count cells
    else in_row before count cells

-- the places in the row that the bodies name, in the order of the text, after so many cells
abbrev pub named_behind : ℕ → List CellRange → List ℕ
named_behind before [] = []
named_behind before (one ∷ others) =
    in_row before (length one.added) (cells_named one.body)
    ++ named_behind (before + length one.added) others
