use Rattle.std.proofs.Common.{arith}
use Rattle.file_model.specs.contracts.operations.watched.BoxDynDeviceWatched.TheImpl.{seen-value}
use Rattle.file_model.proofs.operations_lemmas.CallLemmas.{called_of}
use Rattle.file_model.proofs.operations_lemmas.TellLemmas.{opens_tell}
use Rattle.file_model.proofs.operations.calls.open_at.Goals as goal

pub returns-clause-called : goal.returns-clause-called
returns-clause-called g c =
    let fits = c.args.bench.now.within in
    called_of (seen-value g.dyn-1).it c.args.bench.now.devices.items c.args.bench.now.devices.len c.args.at c.index_mut.result.now _ _ _
    c.args.bench.now.devices.ok.0 (omega (arith, fits)) c.index_mut.ensures.value c.open_one-answer.ensures.name c.open_one-answer.ensures.told (opens_tell _ _ _ _ _ c.open_one-answer.ensures.told) c.open_one-answer.ensures.cause
