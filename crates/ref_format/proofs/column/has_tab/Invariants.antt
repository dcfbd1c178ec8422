use Rattle.std.proofs.Common.{◌≡◌, take}
use Rattle.ref_format.specs.Column.{has_tab}
use Rattle.ref_format.proofs.column.has_tab.Given as goal

abbrev pub invariant-loop-byte : goal.invariant-loop-byte
invariant-loop-byte l = l.found ≡ has_tab (take l.byte-index l.card)
