use Rattle.std.proofs.Common.{◌≡◌, drop}
use Rattle.meanings.specs.statements.Text.{beside_spaces}
use Rattle.cob_act.proofs.text.beside_spaces.Given as goal

abbrev pub invariant-loop-byte : goal.invariant-loop-byte
invariant-loop-byte l = beside_spaces (drop l.byte-index l.bytes) ≡ beside_spaces l.bytes
