use Rattle.std.proofs.Common.{◌≡◌, ◌≤◌, length, reverse, take}
use Rattle.declaration_checks.specs.Redefining.{last_alike}
use Rattle.declaration_checks.proofs.table.last_alike.Given as goal

abbrev pub invariant-loop-at : goal.invariant-loop-at
invariant-loop-at l = record {
  within : l.at ≤ length l.alikes;
  same : last_alike l.entry (reverse (take l.at l.entries)) ≡ last_alike l.entry (reverse (take (length l.alikes) l.entries));
}

abbrev pub decreases-loop-at : goal.decreases-loop-at
decreases-loop-at l = l.at
