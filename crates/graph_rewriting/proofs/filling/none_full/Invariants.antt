use Rattle.graph_rewriting.specs.Filling.{NoneFull}
use Rattle.graph_rewriting.proofs.filling.none_full.Given as goal

abbrev pub invariant-loop-key : goal.invariant-loop-key
invariant-loop-key l = NoneFull l.slots l.key-iterator → NoneFull l.slots l.keys.entries
