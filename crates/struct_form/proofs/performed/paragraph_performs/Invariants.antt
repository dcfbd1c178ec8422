use Rattle.std.proofs.Common.{◌≡◌, drop, map}
use Rattle.cob_tree.specs.declared.program.Sentence.{Sentence}
use Rattle.struct_form.specs.Performed.{any, stmts_perform}
use Rattle.struct_form.proofs.performed.paragraph_performs.Given as goal

abbrev pub invariant-loop-sentence : goal.invariant-loop-sentence
invariant-loop-sentence l =
    any (map (λ (s : Sentence). stmts_perform l.number s.stmts) (drop l.sentence-index l.sentence-items)) ≡ any (map (λ (s : Sentence). stmts_perform l.number s.stmts) l.sentence-items)
