use Rattle.std.proofs.Common.{◌≡◌, drop}
use Rattle.meanings.specs.statements.Text.{spaces_beside}
use Rattle.cob_act.proofs.text.spaces_beside.Given as goal

abbrev pub invariant-loop-byte : goal.invariant-loop-byte
invariant-loop-byte l = spaces_beside (drop l.byte-index l.bytes) ≡ spaces_beside l.bytes
