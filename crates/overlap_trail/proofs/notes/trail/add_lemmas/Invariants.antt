use Rattle.std.proofs.Common.{◌≡◌, ◌++◌, drop}
use Rattle.overlap_trail.specs.notes.Trail.{lemma_lines}
use Rattle.overlap_trail.proofs.notes.trail.add_lemmas.Given as goal

abbrev pub invariant-loop-number : goal.invariant-loop-number
invariant-loop-number l = l.text ++ lemma_lines l.paragraphs l.number (drop l.number l.lemmas) ≡ l.fn.text ++ lemma_lines l.paragraphs 0 l.lemmas
