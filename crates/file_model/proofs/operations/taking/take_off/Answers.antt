use Rattle.file_model.specs.contracts.operations.watched.BoxDynDeviceWatched.TheImpl.{seen-value}
use Rattle.file_model.proofs.operations_lemmas.CallLemmas.{rotated}
use Rattle.file_model.proofs.operations.taking.take_off.Goals as goal

pub returns-clause-taken : goal.returns-clause-taken
returns-clause-taken g c =
    rotated (seen-value g.dyn-1).it c.args.bench.now.devices.items c.deref_mut.result.now c.rotate_left.new.self c.args.bench.now.devices.len c.args.bench.now.left c.args.at
    c.deref_mut.ensures.value c.args.bench.now.devices.ok.0 c.requires c.args.bench.now.within c.rotate_left.ensures.after
