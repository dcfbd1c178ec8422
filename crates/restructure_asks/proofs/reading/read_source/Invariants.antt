use Rattle.std.proofs.Common.{◌+◌, ◌-◌, ◌≡◌, length}
use Rattle.cob_base.specs.Limit.{max_source}
use Rattle.restructure_asks.proofs.ReadingLemmas.{ReadSoFar}
use Rattle.restructure_asks.proofs.reading.read_source.Given as goal

abbrev pub invariant-loop-buffer : goal.invariant-loop-buffer
invariant-loop-buffer g l =
    (length l.buffer ≡ 4096) × ReadSoFar (g.S.Source.left l.initial.source) l.text (g.S.Source.left l.source) (g.S.Source.faults l.initial.source) (g.S.Source.faults l.source)

abbrev pub decreases-loop-buffer : goal.decreases-loop-buffer
decreases-loop-buffer g l = max_source + 1 - length l.text
