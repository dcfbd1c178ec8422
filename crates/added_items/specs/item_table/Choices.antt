-- The first choice by each cell.
use Rattle.std.specs.Prelude.{ℕ, ◌≡◌, ◌<◌, ◌==◌, if◌then◌else◌, List, length, Option, None, slice_index_or}
use Rattle.added_items.specs.mentions.CellUse.{arms_or, first_arms}
use Rattle.added_items.specs.declared.mentions.cell_use.CellUse.{CellUse}

-- the list says at each cell how many arms the first choice by it has
abbrev pub AreFirst : List CellUse → List (Option ℕ) → Type 0
AreFirst told arms =
    (cell : ℕ) → cell < length arms → slice_index_or arms cell None ≡ first_arms cell told

-- the mention comes before the others
abbrev pub IsPut : (before : List (Option ℕ)) → CellUse → (after : List (Option ℕ)) → Type 0
IsPut before mention after = (cell : ℕ) → cell < length before →
    slice_index_or after cell None
    ≡ (if mention.cell == cell then arms_or (slice_index_or before cell None) mention.arms
    else slice_index_or before cell None)
