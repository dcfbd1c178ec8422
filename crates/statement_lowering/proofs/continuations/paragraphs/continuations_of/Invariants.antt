use Rattle.std.proofs.Common.{◌≡◌}
use Rattle.statement_lowering.proofs.continuations_lemmas.ProgramContinuations.{Paragraphs}
use Rattle.statement_lowering.proofs.continuations.paragraphs.continuations_of.Given as goal

abbrev pub invariant-loop-paragraph : goal.invariant-loop-paragraph
invariant-loop-paragraph l = (l.number ≡ l.paragraph-index) × Paragraphs l.telling l.program l.paragraph-index l.last l.spots.items
