use Rattle.std.proofs.Common.{◌≡◌, ℕ, List, length, map}
use Rattle.file_model.specs.operations.Calls.{addresses_of}
use Rattle.file_model.specs.operations.Falling.{AreShut, LeftOf, is_used}
use Rattle.file_model.specs.operations.Seen.{Seen}
use Rattle.file_model.specs.operations.Shutting.{Shuts}
use Rattle.file_model.specs.contracts.operations.watched.BoxDynDeviceWatched.TheImpl.{seen-value}
use Rattle.file_model.proofs.operations.closing.close_open.Given as goal

abbrev pub invariant-loop-file : goal.invariant-loop-file
invariant-loop-file g l =
    (length l.table.rows ≡ length l.initial.table.rows) ×
    ((gone : List (List ℕ)) (left : ℕ) (old : List Seen) → AreShut gone (addresses_of l.files) l.initial.table.rows →
    LeftOf (is_used (addresses_of l.files)) gone left l.initial.bench.left old (map (seen-value g.dyn-1).it l.initial.bench.devices.items) →
    Shuts 0 l.file l.failed (addresses_of l.files) gone left l.initial.bench.left l.bench.left old (map (seen-value g.dyn-1).it l.initial.bench.devices.items) (map (seen-value g.dyn-1).it l.bench.devices.items) l.initial.table.rows l.table.rows)
