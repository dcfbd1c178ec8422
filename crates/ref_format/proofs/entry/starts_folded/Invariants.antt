use Rattle.std.proofs.Common.{◌≡◌, length}
use Rattle.ref_format.specs.Entry.{starts_folded}
use Rattle.ref_format.proofs.entry.starts_folded.Given as goal

abbrev pub invariant-loop-word : goal.invariant-loop-word
invariant-loop-word l = starts_folded l.word l.text ≡ starts_folded l.fn.word l.fn.text

abbrev pub decreases-loop-word : goal.decreases-loop-word
decreases-loop-word l = length l.word
