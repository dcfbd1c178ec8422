use Rattle.std.proofs.Common.{◌≡◌, ◌+◌, suc, drop}
use Rattle.control_flow_theory.specs.language.Control.{section_last}
use Rattle.overlap_trail.proofs.leg.section_last.Given as goal

abbrev pub invariant-loop-next : goal.invariant-loop-next
invariant-loop-next l = record {
  up : l.next ≡ l.last + 1;
  last : section_last l.number (drop (suc l.number) l.paragraphs) ≡ section_last l.last (drop (suc l.last) l.paragraphs);
}
