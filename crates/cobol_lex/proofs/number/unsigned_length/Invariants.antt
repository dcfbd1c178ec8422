use Rattle.std.proofs.Common.{◌≡◌, ◌+◌, drop}
use Rattle.cobol_lex.specs.Number.{unsigned_length}
use Rattle.cobol_lex.proofs.number.unsigned_length.Given as goal

abbrev pub invariant-loop-at : goal.invariant-loop-at
invariant-loop-at l = l.at + unsigned_length (drop l.at l.bytes) ≡ unsigned_length l.bytes
