use Rattle.std.proofs.Common.{map, take}
use Rattle.file_model.specs.contracts.operations.watched.BoxDynDeviceWatched.TheImpl.{seen-value}
use Rattle.cobol_run.proofs.FallLemmas.{step_after}
use Rattle.cobol_run.proofs.TrackLemmas.{advances}
use Rattle.cobol_run.proofs.events.advance.Goals as goal

pub returns-clause-tracks : goal.returns-clause-tracks
returns-clause-tracks g c = λ program files done trace own tracks.
    advances program files c.args.machine.now (take c.args.bench.now.left (map (seen-value g.dyn-1).it c.args.bench.now.devices.items)) done trace own tracks
    c.step.new.self c.step.new.bench.left (map (seen-value g.dyn-1).it c.step.new.bench.devices.items) c.step.ensures.plan c.step.ensures.keeps c.step.result c.step.ensures.over c.step.ensures.events

pub returns-clause-falls : goal.returns-clause-falls
returns-clause-falls g c = λ left old same.
    step_after c.step.result c.args.machine.now.plan.program.now.files left c.args.bench.now.left c.step.new.bench.left old (map (seen-value g.dyn-1).it c.args.bench.now.devices.items) (map (seen-value g.dyn-1).it c.step.new.bench.devices.items) c.step.new.self.table.rows same c.step.ensures.falls
