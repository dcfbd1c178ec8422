use Rattle.std.proofs.Common.{◌∙◌, ap, length}
use Rattle.file_model.specs.operations.Seen.{Seen}
use Rattle.file_model.specs.operations.Calls.{addresses_of}
use Rattle.file_model.specs.contracts.operations.watched.BoxDynDeviceWatched.TheImpl.{seen-value}
use Rattle.file_model.proofs.operations_lemmas.TakingLemmas.{behind_seen, closed_if, length_closed}
use Rattle.file_model.proofs.operations.taking.fail.Goals as goal

pub returns-clause-table : goal.returns-clause-table
returns-clause-table g c =
    closed_if _ c.args.at c.take_off.ensures.taken.device c.device_name.result.now (addresses_of c.args.files.now) c.args.table.now.rows c.close_rows.new.table.rows c.take_off.ensures.taken.here
    (c.device_name.ensures ∙ ap (λ (d : Seen). d.name) (behind_seen (seen-value g.dyn-1).it c.take_off.new.bench.devices.items _ c.take_off.new.bench.devices.len c.args.bench.now.left c.take_off.new.bench.left c.args.at c.index.result.now
    c.take_off.new.bench.devices.ok.0 c.take_off.ensures.within c.index.ensures c.take_off.ensures.taken))
    c.close_rows.ensures

pub returns-clause-rows : goal.returns-clause-rows
returns-clause-rows g c = ap length c.close_rows.ensures ∙ length_closed c.device_name.result.now (addresses_of c.args.files.now) c.args.table.now.rows
