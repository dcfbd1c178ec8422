use Rattle.std.proofs.Common.{◌≡◌, drop}
use Rattle.out_names.specs.Naming.{has_entry}
use Rattle.out_names.proofs.naming.has_entry.Given as goal

abbrev pub invariant-loop-range : goal.invariant-loop-range
invariant-loop-range l = has_entry (drop l.range-index l.ranges) l.entry ≡ has_entry l.ranges l.entry
