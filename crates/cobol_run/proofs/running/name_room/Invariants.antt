use Rattle.std.proofs.Common.{◌≡◌, ℕ, ◌<◌, ◌≤◌, Some, length, map, slice_get}
use Rattle.std.specs.Prelude.{vec_capacity}
use Rattle.file_model.specs.operations.Seen.{Seen}
use Rattle.file_model.specs.contracts.operations.watched.BoxDynDeviceWatched.TheImpl.{seen-value}
use Rattle.cobol_run.proofs.running.name_room.Given as goal

abbrev pub invariant-loop-at : goal.invariant-loop-at
invariant-loop-at g l = (k : ℕ) (device : Seen) → k < l.at → slice_get (map (seen-value g.dyn-1).it l.bench.devices.items) k ≡ Some device → length device.name ≤ vec_capacity l.room
