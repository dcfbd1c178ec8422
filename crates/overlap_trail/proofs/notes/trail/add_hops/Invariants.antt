use Rattle.std.proofs.Common.{◌≡◌, ◌++◌, drop}
use Rattle.overlap_trail.specs.notes.Trail.{hop_lines}
use Rattle.overlap_trail.proofs.notes.trail.add_hops.Given as goal

abbrev pub invariant-loop-hop : goal.invariant-loop-hop
invariant-loop-hop l = l.text ++ hop_lines l.paragraphs (drop l.hop-index l.hops) ≡ l.fn.text ++ hop_lines l.paragraphs l.hops
