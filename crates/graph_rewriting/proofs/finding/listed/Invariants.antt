use Rattle.std.proofs.Common.{◌≡◌, ◌++◌}
use Rattle.std.specs.Map.{keys_of}
use Rattle.graph_rewriting.proofs.finding.listed.Given as goal

abbrev pub invariant-loop-label : goal.invariant-loop-label
invariant-loop-label l = l.labels.items ++ l.label-iterator ≡ keys_of l.keys.entries
