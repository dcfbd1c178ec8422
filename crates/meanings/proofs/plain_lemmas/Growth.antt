-- A step of the source shows more, and a state that is over stays.
use Rattle.std.proofs.Common.{◌≡◌, ◌≢◌, ℕ, suc, Bool, true, false, if◌then◌else◌, ◌==◌, List, [], ◌∷◌, Option, Some, None, slice_get, refl, sym, append-nil}
use Rattle.control_flow_theory.specs.runs.Run.{Going, Over, Begins, Covers}
use Rattle.control_flow_theory.specs.runs.Tied.{Steady}
use Rattle.control_flow_theory.specs.runs.Machine.{meaning, Grows}
use Rattle.control_flow_theory.proofs.runs_lemmas.Ties.{covers-refl}
use Rattle.control_flow_theory.proofs.runs_lemmas.Machines.{machine-steady}
use Rattle.cob_tree.specs.declared.ending.FlowFault.TheVariants.{Overlap, Reentry}
use Rattle.meanings.specs.plain.Language.{Stmt, Display, Go, Perform, StopRun, Other, Paragraph, Program, Item, Do, SentenceEnd}
use Rattle.meanings.specs.plain.World.{Trace, Faulted, Standing, displayed}
use Rattle.meanings.specs.plain.World as outside
use Rattle.meanings.specs.plain.Source.{Pending, SourceState, ends_at, comes_to, goes_to, stmt_step, falls, end_step, rest_step, step_by, source_machine}

begins-itself : (trace : Trace) → Begins trace trace
begins-itself trace = ([], sym (append-nil trace))

module _ (p : Program) (state : SourceState) where
  -- the next state shows more
  abbrev ShowsMore : SourceState → Type 0
  ShowsMore next = Begins state.run.trace next.run.trace

  performs-shows : (rest : List Item) (entry exit : ℕ) (t : Bool) →
      ShowsMore (if t then comes_to (Faulted (Reentry exit)) state
      else goes_to p entry (record state { pending = record { end = exit; paragraph = state.paragraph; rest = rest } ∷ state.pending }))
  performs-shows rest entry exit true = begins-itself state.run.trace
  performs-shows rest entry exit false = begins-itself state.run.trace

  stmt-shows : (rest : List Item) (stmt : Stmt) → ShowsMore (stmt_step p state rest stmt)
  stmt-shows rest (Display items advance) = (outside.Display (displayed items advance) ∷ [], refl)
  stmt-shows rest (Go to) = begins-itself state.run.trace
  stmt-shows rest (Perform entry exit) = performs-shows rest entry exit (ends_at exit state.pending)
  stmt-shows rest StopRun = begins-itself state.run.trace
  stmt-shows rest Other = begins-itself state.run.trace

  falls-shows : (next : Option Paragraph) → ShowsMore (falls p state next)
  falls-shows None = begins-itself state.run.trace
  falls-shows (Some next) = begins-itself state.run.trace

  behind-shows : (t : Bool) → ShowsMore (if t then comes_to (Faulted (Overlap state.paragraph)) state else falls p state (slice_get p.paragraphs (suc state.paragraph)))
  behind-shows true = begins-itself state.run.trace
  behind-shows false = falls-shows (slice_get p.paragraphs (suc state.paragraph))

  end-shows : (returns : List Pending) → ShowsMore (end_step p state returns)
  end-shows [] = falls-shows (slice_get p.paragraphs (suc state.paragraph))
  end-shows (top ∷ others) =
      elim (top.end == state.paragraph) as (λ t. ShowsMore (if t
      then record state { paragraph = top.paragraph; rest = top.rest; pending = others }
      else (if ends_at state.paragraph others then comes_to (Faulted (Overlap state.paragraph)) state else falls p state (slice_get p.paragraphs (suc state.paragraph))))) [
        | true ↦ begins-itself state.run.trace
        | false ↦ behind-shows (ends_at state.paragraph others)
      ]

  rest-shows : (rest : List Item) → ShowsMore (rest_step p state rest)
  rest-shows [] = end-shows state.pending
  rest-shows (Do stmt ∷ rest) = stmt-shows rest stmt
  rest-shows (SentenceEnd ∷ rest) = begins-itself state.run.trace

  step-covers : (standing : Standing) → state.run.standing ≡ standing → Covers state.run (step_by p state standing).run
  step-covers Going is = record { shows = rest-shows state.rest; ends = λ over. absurd (over is) }
  step-covers (Over ending) is = covers-refl state.run

  step-stays : (standing : Standing) → standing ≢ Going → step_by p state standing ≡ state
  step-stays Going over = absurd (over refl)
  step-stays (Over ending) over = refl

pub source-grows : (p : Program) → Grows (source_machine p)
source-grows p = record {
  more = λ state. step-covers p state state.run.standing refl;
  stays = λ state. step-stays p state state.run.standing;
}

pub source-steady : (p : Program) → Steady (meaning (source_machine p))
source-steady p = machine-steady (source_machine p) (source-grows p)
