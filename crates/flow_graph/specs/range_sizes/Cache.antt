-- What is known of the trees at labels.
use Rattle.std.specs.Prelude.{ℕ, ◌≡◌, ◌*◌, ◌⊎◌, true, List, [], ◌∷◌, ◌++◌, length, set, Option, Some, None, slice_get}
use Rattle.control_flow_theory.specs.semantics.Graph as graph
use Rattle.pending_returns.specs.levels.Reach.{IsMarked}
use Rattle.statement_lowering.specs.declared.context.LoweringContext.{LoweringContext}
use Rattle.statement_lowering.specs.declared.continuations.continuation.Continuation.{Continuation}
use Rattle.flow_graph.specs.declared.range_sizes.exits.Passing.{Passing}
use Rattle.flow_graph.specs.declared.range_sizes.exits.Passing.TheVariants.{Falls, Returns, Leaves}
use Rattle.flow_graph.specs.declared.range_sizes.cache.TreeSizeCache.{TreeSizeCache}
use Rattle.flow_graph.specs.declared.range_sizes.cache.Row.{Row}
use Rattle.flow_graph.specs.declared.range_sizes.parts.Jumps.{Jumps}
use Rattle.flow_graph.specs.declared.range_sizes.parts.TreeCount.{TreeCount}
use Rattle.flow_graph.specs.range_sizes.Exits.{AllGoWithin}
use Rattle.flow_graph.specs.range_sizes.Parts.{IsPartBy, IsPartOf}

-- the number of the part that is kept for ranges that go on so
abbrev pub number_in : Row → Passing → Option ℕ
number_in row Falls = row.falls
number_in row Returns = row.returns
number_in row Leaves = row.leaves

-- the row with this part for ranges that go on so
abbrev pub with_number : Row → Passing → ℕ → Row
with_number row Falls number = record row { falls = Some number }
with_number row Returns number = record row { returns = Some number }
with_number row Leaves number = record row { leaves = Some number }

-- the part with this number, if there is one
abbrev pub part_at : List TreeCount → Option ℕ → Option TreeCount
part_at parts None = None
part_at parts (Some number) = slice_get parts number

-- the part of a row for ranges that go on so
abbrev pub part_in : List TreeCount → Option Row → Passing → Option TreeCount
part_in parts None passing = None
part_in parts (Some row) passing = part_at parts (number_in row passing)

-- that part
abbrev pub kept_in : TreeSizeCache → ℕ → Passing → Option TreeCount
kept_in known label passing =
    part_in known.parts.items (slice_get known.rows.items label) passing

-- it is what is counted of the tree at a label in each range that goes on so; its jumps are those
-- of its number
pub record IsPartAt (telling : LoweringContext) (spots : List Continuation) (lists : List Jumps)
    (label : ℕ)
    (passing : Passing) (part : TreeCount) : Type 0 where
  pub jumps : Jumps
  -- the labels to which the part jumps
  pub there : slice_get lists part.jumps ≡ Some jumps
  -- it is counted of that tree
  pub is : IsPartBy telling spots label passing part.size jumps.labels.items

-- each part that is kept of a table is one of the tree at its label
pub record IsKnown (telling : LoweringContext) (spots : List Continuation)
    (known : TreeSizeCache) : Type 0 where
  -- there is a row for each label
  pub rows : length known.rows.items ≡ 3 * length spots
  -- each part of a row is one of the tree at its label
  pub parts : (label number : ℕ) (row : Row) (passing : Passing) →
      slice_get known.rows.items label ≡ Some row → number_in row passing ≡ Some number →
      (part : TreeCount) × (slice_get known.parts.items number ≡ Some part)
      × IsPartAt telling spots known.jumps.items label passing part
  -- the marks are on the labels that were seen
  pub marked : IsMarked known.seen.places.items known.seen.marks.items
  -- there is a mark for each label
  pub size : length known.seen.marks.items ≡ 3 * length spots
  -- parts are shared only where all rests go on within their sections
  pub shared : known.shared ≡ true → AllGoWithin spots

-- what is kept is right, whatever lowering knows
abbrev pub IsKnownAnyhow : List Continuation → TreeSizeCache → Type 0
IsKnownAnyhow spots known = (telling : LoweringContext) → IsKnown telling spots known

-- one part more is kept, at this label
pub record IsKept (label : ℕ) (passing : Passing) (part : TreeCount)
    (old new : TreeSizeCache) : Type 0 where
  pub row : Row
  -- the label's row
  pub there : slice_get old.rows.items label ≡ Some row
  -- the row has the part now
  pub rows : new.rows.items
      ≡ set old.rows.items label (with_number row passing (length old.parts.items))
  -- the part comes after the others
  pub parts : new.parts.items ≡ old.parts.items ++ part ∷ []

-- or none
abbrev pub Keeps : ℕ → Passing → TreeCount → (old new : TreeSizeCache) → Type 0
Keeps label passing part old new =
    ((new.rows.items ≡ old.rows.items) × (new.parts.items ≡ old.parts.items))
    ⊎ IsKept label passing part old new

-- it is what is counted of this tree; its jumps are kept then too
pub record Counts (tree : graph.Tree) (part : TreeCount) (old new : TreeSizeCache) : Type 0 where
  pub jumps : Jumps
  -- its jumps come after the others
  pub lists : new.jumps.items ≡ old.jumps.items ++ jumps ∷ []
  -- and have this number
  pub number : part.jumps ≡ length old.jumps.items
  -- it is counted of this tree
  pub is : IsPartOf tree part.size jumps.labels.items
  pub rows : new.rows ≡ old.rows
  pub parts : new.parts ≡ old.parts
  -- parts are shared as before
  pub shared : new.shared ≡ old.shared
  pub marked : IsMarked new.seen.places.items new.seen.marks.items
  pub size : length new.seen.marks.items ≡ length old.seen.marks.items
