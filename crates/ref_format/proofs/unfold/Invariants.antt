use Rattle.std.proofs.Common.{◌≡◌, ◌+◌, ◌≤◌, length}
use Rattle.ref_format.specs.Joining.{program_text, IsSound}
use Rattle.ref_format.proofs.UnfoldLemmas.{text_behind}
use Rattle.ref_format.proofs.unfold.Given as goal

abbrev pub invariant-loop-rest : goal.invariant-loop-rest
invariant-loop-rest l = record {
  lines_left : l.number + length l.rest ≤ length l.bytes;
  sound : IsSound l.joining;
  text : text_behind l.entries.over l.entries.inside (l.number + 1) l.joining.last l.joining.text l.rest ≡ program_text l.bytes;
}

abbrev pub decreases-loop-rest : goal.decreases-loop-rest
decreases-loop-rest l = length l.rest
