use Rattle.std.proofs.Common.{◌≡◌, ◌≤◌, map, take}
use Rattle.file_model.specs.contracts.operations.watched.BoxDynDeviceWatched.TheImpl.{seen-value}
use Rattle.cob_tree.specs.declared.program.Program.{Program}
use Rattle.cobol_theory.specs.cobol_meaning.Runs.{Files}
use Rattle.cobol_run.specs.Falling.{SameBench}
use Rattle.cobol_run.specs.Over.{SoFarOver}
use Rattle.cobol_run.specs.Own.{IsOwn}
use Rattle.cobol_run.specs.Plain.{IsPlain}
use Rattle.cobol_run.specs.Running.{SoFar, since}
use Rattle.cobol_run.proofs.running.run_on.Given as goal

abbrev pub invariant-loop-turn : goal.invariant-loop-turn
invariant-loop-turn g l = record {
  plan : l.machine.plan ≡ l.initial.machine.plan;
  room : l.room ≡ l.initial.room;
  later : g.K.Sink.faults l.initial.out ≤ g.K.Sink.faults l.out;
  so_far : (program : Program) → SoFar program l.initial.machine 0 (since (g.K.Sink.held l.initial.out) (g.K.Sink.faults l.initial.out) (g.K.Sink.held l.initial.out) (g.K.Sink.faults l.initial.out)) →
      SoFar program l.machine l.turn (since (g.K.Sink.held l.initial.out) (g.K.Sink.faults l.initial.out) (g.K.Sink.held l.out) (g.K.Sink.faults l.out));
  over : (program : Program) (files : Files) → IsOwn program →
      SoFarOver program files l.initial.machine (take l.initial.bench.left (map (seen-value g.dyn-1).it l.initial.bench.devices.items)) 0 (since (g.K.Sink.held l.initial.out) (g.K.Sink.faults l.initial.out) (g.K.Sink.held l.initial.out) (g.K.Sink.faults l.initial.out)) →
      SoFarOver program files l.machine (take l.bench.left (map (seen-value g.dyn-1).it l.bench.devices.items)) l.turn (since (g.K.Sink.held l.initial.out) (g.K.Sink.faults l.initial.out) (g.K.Sink.held l.out) (g.K.Sink.faults l.out));
  kept : (program : Program) → SoFar program l.initial.machine 0 (since (g.K.Sink.held l.initial.out) (g.K.Sink.faults l.initial.out) (g.K.Sink.held l.initial.out) (g.K.Sink.faults l.initial.out)) → IsPlain program →
      (l.bench ≡ l.initial.bench) × (l.machine.table ≡ l.initial.machine.table);
  falls : SameBench l.initial.machine.plan.program.now.files l.initial.bench.left l.bench.left (map (seen-value g.dyn-1).it l.initial.bench.devices.items) (map (seen-value g.dyn-1).it l.bench.devices.items);
}
