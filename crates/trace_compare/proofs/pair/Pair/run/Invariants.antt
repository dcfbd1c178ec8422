use Rattle.std.proofs.Common.{◌≡◌, ℕ, map, take}
use Rattle.file_model.specs.contracts.operations.watched.BoxDynDeviceWatched.TheImpl.{seen-value}
use Rattle.cob_tree.specs.declared.program.Program.{Program}
use Rattle.cobol_theory.specs.cobol_meaning.Runs.{Files}
use Rattle.cobol_run.specs.Falling.{SameBench}
use Rattle.cobol_run.specs.Own.{IsOwn}
use Rattle.trace_compare.specs.Pair.{BothStand, HasRoom, steps_left}
use Rattle.trace_compare.specs.Side.{files_of}
use Rattle.trace_compare.proofs.pair.Pair.run.Given as goal

abbrev pub invariant-turns : goal.invariant-turns
invariant-turns g l = record {
  room : HasRoom l.self;
  first : l.self.first.machine.plan ≡ l.initial.self.first.machine.plan;
  second : l.self.second.machine.plan ≡ l.initial.self.second.machine.plan;
  first_falls : SameBench (files_of l.initial.self.first) l.initial.bench.left l.bench.left (map (seen-value g.dyn-1).it l.initial.bench.devices.items) (map (seen-value g.dyn-1).it l.bench.devices.items);
  second_falls : SameBench (files_of l.initial.self.second) l.initial.other.left l.other.left (map (seen-value g.dyn-1).it l.initial.other.devices.items) (map (seen-value g.dyn-1).it l.other.devices.items);
  stands : (p q : Program) (files other_files : Files) (steps : ℕ) → IsOwn p → IsOwn q →
      BothStand p q files other_files l.initial.self (take l.initial.bench.left (map (seen-value g.dyn-1).it l.initial.bench.devices.items)) (take l.initial.other.left (map (seen-value g.dyn-1).it l.initial.other.devices.items)) steps →
      BothStand p q files other_files l.self (take l.bench.left (map (seen-value g.dyn-1).it l.bench.devices.items)) (take l.other.left (map (seen-value g.dyn-1).it l.other.devices.items)) steps;
}

abbrev pub decreases-turns : goal.decreases-turns
decreases-turns g l = steps_left l.self
