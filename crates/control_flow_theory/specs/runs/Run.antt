-- What a run shows, and whether it is over.
use Rattle.std.specs.Prelude.{◌≡◌, ◌≢◌, List, ◌++◌}

-- an end is whatever a run comes to: the kind of stop, with all that it leaves
pub data Standing (End : Type 0) : Type 0 where
  Going : Standing End
  Over : End → Standing End

-- what a run has shown, and how it stands
pub record Run (Event End : Type 0) : Type 0 where
  pub trace : List Event
  pub standing : Standing End

-- the run came to its end
abbrev pub IsOver : {Event End : Type 0} → Run Event End → Type 0
IsOver run = run.standing ≢ Going

-- what the first shows begins what the second shows
abbrev pub Begins : {Event : Type 0} → List Event → List Event → Type 0
Begins {Event} first whole = (more : List Event) × (whole ≡ first ++ more)

-- the second run shows all that the first shows, and where the first is over it is the same run
pub record Covers {Event End : Type 0} (first second : Run Event End) : Type 0 where
  -- it shows all that the first shows
  pub shows : Begins first.trace second.trace
  -- where the first is over, it is the same run
  pub ends : IsOver first → second ≡ first
