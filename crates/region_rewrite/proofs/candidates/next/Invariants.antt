use Rattle.std.specs.BTreeSet.{btree_set_len}
use Rattle.graph_rewriting.specs.Helds.{seen_work}
use Rattle.region_rewrite.specs.Candidates.{AllIn}
use Rattle.region_rewrite.specs.Rules.{applies}
use Rattle.region_rewrite.proofs.candidates.next.Given as goal

abbrev pub invariant-loop-label : goal.invariant-loop-label
invariant-loop-label l = AllIn (applies l.rule (seen_work l.work)) l.labels

abbrev pub decreases-loop-label : goal.decreases-loop-label
decreases-loop-label l = btree_set_len l.labels
