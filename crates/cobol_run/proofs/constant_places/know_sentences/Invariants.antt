use Rattle.std.proofs.Common.{◌≡◌}
use Rattle.cobol_run.proofs.constant_places.know_sentences.Given as goal

abbrev pub invariant-loop-sentence : goal.invariant-loop-sentence
invariant-loop-sentence l = l.areas ≡ l.initial.areas
