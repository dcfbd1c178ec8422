-- Two meanings are the same behaviour.
use Rattle.std.specs.Prelude.{ℕ, ◌≡◌, ◌+◌, ◌*◌}
use Rattle.control_flow_theory.specs.runs.Run.{Going, Over, Begins}
use Rattle.control_flow_theory.specs.runs.Tied.{Meaning}
use Rattle.control_flow_theory.specs.semantics.Outcome.{Event, How, Ending, Stopped, Faulted, Returned, Lost, Run, Standing}

-- the run goes on, or it stopped
abbrev pub EndsFairly : {Left : Type 0} → Standing Left → Type 0
EndsFairly Going = Unit {0}
EndsFairly (Over (Stopped how left)) = Unit {0}
EndsFairly (Over (Faulted fault)) = ⊥
EndsFairly (Over (Returned left)) = ⊥
EndsFairly (Over Lost) = ⊥

-- the second run has shown all that the first has, and has stopped where the first has, in the same
-- way, with the same events and the same left
pub record IsMatchedBy {Left : Type 0} (first second : Run Left) : Type 0 where
  -- the second shows all that the first shows
  pub shown : Begins first.trace second.trace
  -- where the first has stopped, the second has stopped so with the same trace
  pub stopped : (how : How) (left : Left) → first.standing ≡ Over (Stopped how left) →
      (second.standing ≡ Over (Stopped how left)) × (second.trace ≡ first.trace)

-- each run of one is matched by a run of the other, which takes so many times as long at most; the
-- two numbers are chosen before the world and the lengths
pub record SameBehaviour {World Left : Type 0} (source result : Meaning World Event (Ending Left))
    : Type 0 where
  -- how many units of the result one step of the source may take
  pub units_per_step : ℕ
  -- how many steps of the source one unit of the result may take
  pub steps_per_unit : ℕ
  -- each run of the source is matched by one of the result
  pub there : (world : World) (steps : ℕ) →
      IsMatchedBy (source world steps) (result world (units_per_step * (steps + 1)))
  -- each run of the result is matched by one of the source
  pub back : (world : World) (units : ℕ) →
      IsMatchedBy (result world units) (source world (steps_per_unit * (units + 1)))
