-- A program and a structured program behave the same.
use Rattle.std.specs.Prelude.{ℕ, ◌≡◌, ◌+◌, ◌*◌, List}
use Rattle.control_flow_theory.specs.runs.Run.{Over, Begins}
use Rattle.cob_tree.specs.declared.program.Program as tree
use Rattle.meanings.specs.plain.World.{World, File, Stopping, Stopped, Run}
use Rattle.meanings.specs.plain.Source.{source_run}
use Rattle.meanings.specs.plain.Structural.{structural_run}

-- the second run has shown all that the first has, and has stopped where the first has, in the same
-- way, with the same events and files
pub record IsMatchedBy (first second : Run) : Type 0 where
  -- the second shows all that the first shows
  pub shown : Begins first.trace second.trace
  -- where the first has stopped, the second has stopped so with the same trace
  pub stopped : (how : Stopping) (files : List File) → first.standing ≡ Over (Stopped how files) →
      (second.standing ≡ Over (Stopped how files)) × (second.trace ≡ first.trace)

-- each run of one is matched by a run of the other, which takes so many times as long at most; the
-- two numbers are chosen before the world and the lengths
pub record SameBehaviour (program structured : tree.Program) : Type 0 where
  -- how many units of the result one step of the source may take
  pub units_per_step : ℕ
  -- how many steps of the source one unit of the result may take
  pub steps_per_unit : ℕ
  -- each run of the source is matched by one of the result
  pub there : (world : World) (steps : ℕ) →
      IsMatchedBy (source_run program world steps)
      (structural_run structured world (units_per_step * (steps + 1)))
  -- each run of the result is matched by one of the source
  pub back : (world : World) (units : ℕ) →
      IsMatchedBy (structural_run structured world units)
      (source_run program world (steps_per_unit * (units + 1)))
