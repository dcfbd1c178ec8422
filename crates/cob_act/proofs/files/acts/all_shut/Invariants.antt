use Rattle.std.proofs.Common.{◌≡◌, [], drop, map, take}
use Rattle.file_model.specs.World.{World}
use Rattle.meanings.specs.statements.Does.{declared_with}
use Rattle.meanings.specs.statements.Filing.{each_file, shut}
use Rattle.file_model.specs.operations.Calls.{addresses_of}
use Rattle.file_model.specs.operations.Falling.{LeftOf, is_used}
use Rattle.file_model.specs.contracts.operations.watched.BoxDynDeviceWatched.TheImpl.{seen-value}
use Rattle.cob_act.specs.files.Over.{IsOver}
use Rattle.cob_act.proofs.files_lemmas.EachLemmas.{Begun}
use Rattle.cob_act.proofs.files.acts.all_shut.Given as goal

abbrev pub invariant-loop-file : goal.invariant-loop-file
invariant-loop-file g l =
    LeftOf (is_used (addresses_of l.program.files)) [] l.initial.bench.left l.bench.left (map (seen-value g.dyn-1).it l.initial.bench.devices.items) (map (seen-value g.dyn-1).it l.bench.devices.items) × ((world : World) → IsOver l.program.files
    (take l.initial.bench.left (map (seen-value g.dyn-1).it l.initial.bench.devices.items)) l.initial.table.rows world →
    Begun (shut (declared_with l.program l.areas)) l.program.files (each_file (shut (declared_with l.program l.areas)) l.initial.store world l.files) world (drop l.file-index l.files) l.store
    (take l.bench.left (map (seen-value g.dyn-1).it l.bench.devices.items)) l.table.rows l.initial.work l.work) × (l.work.keeps ≡ l.initial.work.keeps)
