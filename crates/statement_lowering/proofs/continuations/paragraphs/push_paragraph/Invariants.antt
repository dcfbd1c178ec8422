use Rattle.statement_lowering.proofs.continuations_lemmas.ParagraphContinuations.{Sentences}
use Rattle.statement_lowering.proofs.continuations.paragraphs.push_paragraph.Given as goal

abbrev pub invariant-loop-sentence : goal.invariant-loop-sentence
invariant-loop-sentence l = Sentences l.telling l.paragraph l.number l.last l.sentence-index l.fn.spots.items l.spots.items l.begins.items
