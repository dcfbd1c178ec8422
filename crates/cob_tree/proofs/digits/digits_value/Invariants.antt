use Rattle.std.proofs.Common.{◌≡◌, ◌^◌, ◌<◌, drop}
use Rattle.cob_tree.specs.Digits.{digits_after}
use Rattle.cob_tree.proofs.digits.digits_value.Given as goal

abbrev pub invariant-loop-byte : goal.invariant-loop-byte
invariant-loop-byte l = record { short : l.number < 10 ^ l.byte-index; same : digits_after l.number (drop l.byte-index l.bytes) ≡ digits_after 0 l.bytes }
