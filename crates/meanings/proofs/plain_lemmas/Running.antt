-- From a state the source comes to a run, within a number of steps.
use Rattle.std.proofs.Common.{◌≡◌, ℕ, suc, ◌+◌, ◌≤◌, List, [], ap, ◌∙◌}
use Rattle.control_flow_theory.specs.runs.Run.{Going, Over, IsOver}
use Rattle.control_flow_theory.specs.runs.Tied.{ComesToWithin}
use Rattle.control_flow_theory.specs.runs.Machine.{ReachesWithin, meaning}
use Rattle.control_flow_theory.proofs.runs_lemmas.Machines.{within-refl, within-step, within-more, within-trans}
use Rattle.meanings.specs.plain.Language.{Program, Item}
use Rattle.meanings.specs.plain.World.{World, Trace, Normally, Stopped, Run}
use Rattle.meanings.specs.plain.Laws.{RunsTo}
use Rattle.meanings.specs.plain.Source.{SourceState, source_step, source_begun, source_machine}

-- a run that goes on, in this paragraph, with no return pending
abbrev pub going_at : ℕ → List Item → World → Trace → SourceState
going_at paragraph rest world trace =
    record { paragraph = paragraph; rest = rest; pending = []; world = world; run = record { trace = trace; standing = Going } }

-- a run that stopped, with nothing done to the files
abbrev pub stopped : World → Trace → Run
stopped world trace = record { trace = trace; standing = Over (Stopped Normally world.files) }

pub stopped-over : (world : World) (trace : Trace) → IsOver (stopped world trace)
stopped-over world trace going = cc

module _ (p : Program) where
  pub runs-itself : (state : SourceState) (run : Run) → state.run ≡ run → RunsTo p 0 state run
  runs-itself state run is = (state, within-refl (source_step p) state, is)

  pub runs-step : (most : ℕ) (state : SourceState) (run : Run) → RunsTo p most (source_step p state) run → RunsTo p (suc most) state run
  runs-step most state run h = (h.0, within-step (source_step p) most state h.0 h.1, h.2)

  pub runs-more : (m n : ℕ) (state : SourceState) (run : Run) → m ≤ n → RunsTo p m state run → RunsTo p n state run
  runs-more m n state run le h = (h.0, within-more (source_step p) m n state h.0 le h.1, h.2)

  -- what is reached runs to it, and so does what reaches it
  pub runs-reached : (m n : ℕ) (first second : SourceState) (run : Run) → ReachesWithin m (source_step p) first second → RunsTo p n second run → RunsTo p (m + n) first run
  runs-reached m n first second run reaches h = (h.0, within-trans (source_step p) m n first second h.0 reaches h.1, h.2)

  -- the program comes to what its first state runs to
  pub runs-comes : (most : ℕ) (world : World) (run : Run) → RunsTo p most (source_begun p world) run → ComesToWithin most (meaning (source_machine p)) world run
  runs-comes most world run h = (h.1.0, h.1.1, ap (λ s. s.run) h.1.2 ∙ h.2)
