use Rattle.std.proofs.Common.{◌≡◌, ℕ, ◌<◌, false, IfSome, map, slice_get}
use Rattle.std.specs.Str.{bytes_eq}
use Rattle.file_model.specs.contracts.operations.watched.BoxDynDeviceWatched.TheImpl.{seen-value}
use Rattle.file_model.proofs.operations.finding.first_of.Given as goal

abbrev pub invariant-loop-at : goal.invariant-loop-at
invariant-loop-at g l = (k : ℕ) → k < l.at → IfSome (slice_get (map (seen-value g.dyn-1).it l.bench.devices.items) k) (λ device. bytes_eq device.name l.name ≡ false)
