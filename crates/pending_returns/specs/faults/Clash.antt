-- Pairs of ranges, of which one faults on the other's end.
use Rattle.std.specs.Prelude.{ℕ, ◌≡◌, List, Some, slice_get, ◌⊎◌}
use Rattle.cob_tree.specs.declared.ending.FlowFault.{FlowFault}
use Rattle.cob_tree.specs.declared.ending.FlowFault.TheVariants.{Overlap, Reentry}
use Rattle.pending_returns.specs.levels.Reach.{Holds}
use Rattle.pending_returns.specs.declared.facts.RangeFacts.{RangeFacts}
use Rattle.pending_returns.specs.declared.faults.clash.Clash.{Clash}

-- calls lead from this range to the one with this number
pub data LeadsFrom (levels : List RangeFacts) (base : ℕ) : ℕ → Type 0 where
  begins : LeadsFrom levels base base
  calls : (from to : ℕ) (facts : RangeFacts) → LeadsFrom levels base from →
      slice_get levels from ≡ Some facts → Holds facts.calls to → LeadsFrom levels base to

-- one of the ranges with these numbers ends there
abbrev pub EndsOne : List RangeFacts → List ℕ → ℕ → Type 0
EndsOne levels numbers end = (number : ℕ) × (facts : RangeFacts) × Holds numbers number
    × (slice_get levels number ≡ Some facts) × (facts.range.exit ≡ Some end)

-- the level does this fault, where a range that ends there is pending
abbrev pub FaultsAt : List RangeFacts → RangeFacts → ℕ → FlowFault → Type 0
FaultsAt levels facts end fault = ((fault ≡ Reentry end) × EndsOne levels facts.calls end)
    ⊎ ((fault ≡ Overlap end) × Holds facts.ends end)

-- the level doesn't fault on that end
abbrev pub IsFine : List RangeFacts → RangeFacts → ℕ → Type 0
IsFine levels facts end = (EndsOne levels facts.calls end → ⊥) × (Holds facts.ends end → ⊥)

-- calls lead from this range, which ends there, to a level that faults on that end
pub record IsClash (levels : List RangeFacts) (base end : ℕ) (clash : Clash) : Type 0 where
  -- the clash names the base
  pub is_base : clash.base ≡ base
  -- calls lead from the base to the last range
  pub leads : LeadsFrom levels base clash.last
  pub facts : RangeFacts
  -- these are the facts of the last range
  pub level : slice_get levels clash.last ≡ Some facts
  -- which faults on the end
  pub faults : FaultsAt levels facts end clash.fault

-- the clash is of some range that ends somewhere
abbrev pub HasClash : List RangeFacts → Clash → Type 0
HasClash levels clash = (base : ℕ) × (end : ℕ) × (facts : RangeFacts)
    × (slice_get levels base ≡ Some facts) × (facts.range.exit ≡ Some end)
    × IsClash levels base end clash

-- no level to which calls lead from this range faults on that end
abbrev pub NoneBelow : List RangeFacts → ℕ → ℕ → Type 0
NoneBelow levels base end = (number : ℕ) (facts : RangeFacts) → LeadsFrom levels base number →
    slice_get levels number ≡ Some facts → IsFine levels facts end

-- none faults on this range's end
abbrev pub NoneFrom : List RangeFacts → ℕ → Type 0
NoneFrom levels base = (end : ℕ) (facts : RangeFacts) → slice_get levels base ≡ Some facts →
    facts.range.exit ≡ Some end → NoneBelow levels base end

-- no two ranges clash
abbrev pub NoClash : List RangeFacts → Type 0
NoClash levels = (base end : ℕ) (facts : RangeFacts) → slice_get levels base ≡ Some facts →
    facts.range.exit ≡ Some end → NoneBelow levels base end
