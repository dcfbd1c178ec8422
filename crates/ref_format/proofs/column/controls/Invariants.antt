use Rattle.std.proofs.Common.{◌≡◌, take}
use Rattle.ref_format.specs.Column.{has_control}
use Rattle.ref_format.proofs.column.controls.Given as goal

abbrev pub invariant-loop-byte : goal.invariant-loop-byte
invariant-loop-byte l = l.found ≡ has_control (take l.byte-index l.bytes)
