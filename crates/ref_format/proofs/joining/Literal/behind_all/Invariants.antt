use Rattle.std.proofs.Common.{◌≡◌, drop}
use Rattle.ref_format.specs.Joining.{behind}
use Rattle.ref_format.proofs.joining.Literal.behind_all.Given as goal

abbrev pub invariant-loop-byte : goal.invariant-loop-byte
invariant-loop-byte l = behind l.literal (drop l.byte-index l.bytes) ≡ behind l.fn.self l.bytes
