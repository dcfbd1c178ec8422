use Rattle.std.proofs.Common.{◌≡◌, ◌-◌, ◌^◌, min, take, sum_by}
use Rattle.cob_tree.specs.Places.{stmt_places}
use Rattle.cob_tree.specs.declared.program.Sentence.{Sentence}
use Rattle.lowering_labels.proofs.points.size.paragraph_size.Given as goal

abbrev pub invariant-loop-sentence : goal.invariant-loop-sentence
invariant-loop-sentence l =
    l.count ≡ min (sum_by (λ (s : Sentence). sum_by stmt_places s.stmts) (take l.sentence-index l.sentence-items)) (2 ^ 64 - 1)
