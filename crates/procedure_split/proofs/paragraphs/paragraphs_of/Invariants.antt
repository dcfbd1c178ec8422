use Rattle.std.proofs.Common.{◌≡◌, ◌≤◌, ℕ, length, get_or}
use Rattle.procedure_split.specs.declared.shaped_ranges.shaping.Closed.{Closed}
use Rattle.procedure_split.proofs.ParagraphRows.{AreDone}
use Rattle.procedure_split.proofs.paragraphs.paragraphs_of.Given as goal

abbrev pub invariant-loop-at : goal.invariant-loop-at
invariant-loop-at l = record {
  done : AreDone l.order l.fn.closed l.cells l.places l.names l.at l.made;
  size : length l.closed ≡ length l.fn.closed;
  unvisited : (k : ℕ) (d : Closed) → l.at ≤ k → get_or l.closed k d ≡ get_or l.fn.closed k d;
}
