-- A range is looked for by halves.
use Rattle.std.proofs.Common.{ℕ, ◌≡◌, ◌<◌, ◌≤◌, List, length, Some}
use Rattle.std.specs.Prelude.{slice_get}
use Rattle.statement_builders.specs.arms.Placing.{AreInOrder, IsBefore}
use Rattle.statement_builders.specs.declared.arms.placing.ProcedurePlace.{ProcedurePlace}

-- what stands below low comes before the range, and what stands from high on behind it
pub record IsSplit (places : List ProcedurePlace) (entry exit low high : ℕ) : Type 0 where
  pub ordered : low ≤ high
  pub within : high ≤ length places
  pub below : AreInOrder places → (at : ℕ) (placed : ProcedurePlace) → at < low → slice_get places at ≡ Some placed →
      IsBefore placed.entry placed.exit entry exit
  pub above : AreInOrder places → (at : ℕ) (placed : ProcedurePlace) → high ≤ at → slice_get places at ≡ Some placed →
      IsBefore entry exit placed.entry placed.exit
