-- What a run leaves of its bench, by its status.
use Rattle.std.proofs.Common.{◌≡◌, ◌⊎◌, ℕ, List, Ok, Err, sym, subst, inl, inr}
use Rattle.cob_base.specs.Source.{SourceCall}
use Rattle.cob_base.specs.Sink.{SinkCall}
use Rattle.cob_tree.specs.declared.program.Program.{Program}
use Rattle.file_model.specs.World.{World}
use Rattle.file_model.specs.operations.Calls.{addresses_of}
use Rattle.file_model.specs.operations.Shutting.{LeavesFiles}
use Rattle.cobol_theory.specs.cobol_meaning.Runs.{Files}
use Rattle.cobol_run.specs.Falling.{Names}
use Rattle.cobol_run.specs.Over.{ComesTo}
use Rattle.cobol_run.specs.Points.{world_after, world_at}
use Rattle.cobol_run.specs.declared.machine.Ending.TheVariants as ending
use Rattle.cobol_run.specs.declared.running.Ran.{Ran}
use Rattle.cobol_run.specs.declared.running.Ran.TheVariants as ran
use Rattle.restructure_core.specs.run.Answers.{Came, ComesOver}
use Rattle.restructure_core.specs.run.Bench.{BenchCall, StaysAsWas, devices_after}
use Rattle.restructure_asks.specs.declared.refusal.Refusal.{Refusal}
use Rattle.restructure_asks.specs.declared.refusal.Refusal.TheVariants as refusal
use Rattle.restructure_asks.specs.declared.status.Status.{Status}
use Rattle.restructure_asks.specs.Reading.{Tells}
use Rattle.restructure_asks.specs.Refusal.{status_of}
use Rattle.restructure_asks.specs.Running.{TellsCame, refusal_of, refusal_of_run}
use Rattle.restructure_asks.specs.Writing.{Notes}
use Rattle.restructure_asks.specs.Laws.{BenchIsLeft, FailedAt, LeavesBench}

-- which devices failed

module _ (notes : SinkCall) (gone : List (List ℕ)) where
  -- what was noted has its status, or memory ran out
  failed-noted : (r : Refusal) (answer : Status) → FailedAt (status_of r) notes gone → Notes r notes answer → FailedAt answer notes gone
  failed-noted r answer h (inl g) = subst (λ s. FailedAt s notes gone) (sym g.0) h
  failed-noted r answer h (inr g) = subst (λ s. FailedAt s notes gone) (sym g.0) tt

  failed-device : (name : List ℕ) (answer : Status) → Names (ran.DeviceFault name) gone → Notes (refusal.Device name) notes answer → FailedAt answer notes gone
  failed-device name answer h (inl g) = subst (λ s. FailedAt s notes gone) (sym g.0) (name, h.0, h.1, g.1)
  failed-device name answer h (inr g) = subst (λ s. FailedAt s notes gone) (sym g.0) tt

  failed-told : (steps : ℕ) (program : Program) (one : Ran) (answer : Status) → Names one gone → TellsCame (refusal_of_run steps program one) notes answer → FailedAt answer notes gone
  failed-told steps program (ran.Ended ending.Stopped) answer h g = subst (λ s. FailedAt s notes gone) (sym g.0) h
  failed-told steps program (ran.Ended (ending.Abended abend)) answer h g = failed-noted (refusal.Abend abend) answer h g
  failed-told steps program (ran.Ended (ending.Faulted fault)) answer h g = failed-noted (refusal.Fault program fault) answer h g
  failed-told steps program ran.Budget answer h g = failed-noted (refusal.Budget steps) answer h g
  failed-told steps program (ran.DeviceFault name) answer h g = failed-device name answer h g
  failed-told steps program ran.WriteFault answer h g = subst (λ s. FailedAt s notes gone) (sym g.0) tt
  failed-told steps program ran.NoMemory answer h g = failed-noted refusal.NoMemory answer tt g

-- what is left of the world

left-world : (program : Program) (files : Files) (steps : ℕ) (sink : SinkCall) (Left : World → Type 0) (one : Ran) → ComesTo program files steps sink Left one → (world : World) × Left world
left-world program files steps sink Left (ran.Ended end) h = (world_after program files steps, h.1)
left-world program files steps sink Left ran.Budget h = (world_after program files steps, h.1)
left-world program files steps sink Left (ran.DeviceFault name) h = (world_at program files h.0 h.1, h.5)
left-world program files steps sink Left ran.WriteFault h = (world_after program files h.0, h.6)
left-world program files steps sink Left ran.NoMemory h = (world_at program files h.0 h.1, h.5)

-- the whole

module _ (steps : ℕ) (source : SourceCall) (out notes : SinkCall) (bench : BenchCall) (answer : Status) (bytes : List ℕ) (told : Tells source.told bytes) where
  came-left : (c : Came) → ComesOver bytes steps out bench c → TellsCame (refusal_of steps c) notes answer → StaysAsWas bench ⊎ LeavesBench source notes bench answer
  came-left (Ok run) h g =
      let ends = h.2.0 in
      inr (record {
        bytes = bytes;
        told = told;
        program = run.program;
        reads = h.0;
        gone = ends.gone;
        failed = failed-told notes ends.gone steps run.program run.ran answer ends.names g;
        left = ends.bench;
        closed = λ files tells. left-world run.program files steps out (LeavesFiles (addresses_of run.program.files) ends.gone (devices_after bench)) run.ran (ends.files files h.1 tells);
      })
  came-left (Err why) h g = inl h

pub bench-left : BenchIsLeft
bench-left steps source out notes bench answer (inl h) =
    came-left steps source out notes bench answer h.told.run.bytes h.told.run.told h.told.came h.over h.told.told
bench-left steps source out notes bench answer (inr h) = inl h.1
