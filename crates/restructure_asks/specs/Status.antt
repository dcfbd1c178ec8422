-- The numbers of the statuses.
use Rattle.std.specs.Prelude.{ℕ, ◌≡◌, ◌⊎◌, List, [], ◌∷◌}
use Rattle.restructure_asks.specs.declared.status.Status.{Status}
use Rattle.restructure_asks.specs.declared.status.Status.TheVariants as status

-- they are the exit statuses, and don't change
abbrev pub status_number : Status → ℕ
status_number status.Done = 0
status_number status.Usage = 1
status_number status.NotSubset = 2
status_number status.Flow = 3
status_number status.Limit = 4
status_number status.ReadFault = 5
status_number status.WriteFault = 6
status_number status.DeviceFault = 7
status_number status.Abend = 8
status_number status.Budget = 9
status_number status.NoMemory = 10
status_number status.Differ = 11

-- the status is one of these
abbrev pub IsOneOf : List Status → Status → Type 0
IsOneOf [] status = ⊥
IsOneOf (first ∷ others) status = (status ≡ first) ⊎ IsOneOf others status
