use Rattle.std.proofs.Common.{◌-◌, arith, map, subst, sym, take}
use Rattle.file_model.specs.contracts.operations.watched.BoxDynDeviceWatched.TheImpl.{seen-value}
use Rattle.cobol_run.specs.declared.machine.Machine.{Machine}
use Rattle.trace_compare.specs.Side.{StepLeaves, files_of}
use Rattle.trace_compare.proofs.SideLemmas.{step_leaves, stepped, tracks_here}
use Rattle.trace_compare.proofs.side.ComparedSide.step.Goals as goal

pub returns-clause-stands : goal.returns-clause-stands
returns-clause-stands g c = λ program files steps compared own going empty stands.
    stepped program files (record c.args.self.now { machine = c.advance-made.new.machine; left = c.args.self.now.left - 1 }) c.take-advanced.new.self c.advance-made.new.machine
    (take c.advance-made.new.bench.left (map (seen-value g.dyn-1).it c.advance-made.new.bench.devices.items)) stands.done steps compared
    c.take-advanced.ensures.same going (let e = stands.counted in let l = c.take-advanced.ensures.left in let some = c.requires.left in omega (arith, e, l, some))
    c.advance-made.result c.take-advanced.result c.take-advanced.ensures.made
    (c.advance-made.ensures.tracks program files stands.done compared own (tracks_here program files c.args.self.now (take c.args.bench.now.left (map (seen-value g.dyn-1).it c.args.bench.now.devices.items)) steps compared stands going empty))

pub returns-clause-falls : goal.returns-clause-falls
returns-clause-falls g c = λ left old same.
    subst (λ (m : Machine). StepLeaves c.take-advanced.result (files_of c.args.self.now) left c.advance-made.new.bench.left old (map (seen-value g.dyn-1).it c.advance-made.new.bench.devices.items) m.table.rows) (sym c.take-advanced.ensures.same)
    (step_leaves c.advance-made.result c.take-advanced.result (record c.args.self.now { machine = c.advance-made.new.machine; left = c.args.self.now.left - 1 }) c.take-advanced.new.self (files_of c.args.self.now) left c.advance-made.new.bench.left old (map (seen-value g.dyn-1).it c.advance-made.new.bench.devices.items) c.advance-made.new.machine.table.rows
    c.take-advanced.ensures.made (c.advance-made.ensures.falls left old same))
