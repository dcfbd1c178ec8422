use Rattle.std.proofs.Common.{◌≡◌, length}
use Rattle.pending_returns.proofs.levels_lemmas.Marking.{IsLeft}
use Rattle.pending_returns.proofs.levels.reach.Reach.clear.Given as goal

abbrev pub invariant-loop-at : goal.invariant-loop-at
invariant-loop-at l = record {
  places : l.self.places.items ≡ l.fn.self.places.items;
  size : length l.self.marks.items ≡ length l.fn.self.marks.items;
  left : IsLeft l.self.places.items l.self.marks.items l.at;
}
