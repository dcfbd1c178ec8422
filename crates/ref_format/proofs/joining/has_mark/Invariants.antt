use Rattle.std.proofs.Common.{◌≡◌, ◌==◌, take}
use Rattle.std.specs.List.{list_any}
use Rattle.ref_format.proofs.joining.has_mark.Given as goal

abbrev pub invariant-loop-byte : goal.invariant-loop-byte
invariant-loop-byte l = record {
  quote : l.quote ≡ list_any (λ b. b == 34) (take l.byte-index l.bytes);
  apostrophe : l.apostrophe ≡ list_any (λ b. b == 39) (take l.byte-index l.bytes);
}
