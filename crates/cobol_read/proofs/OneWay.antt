-- A source is read one way: a program or refused, for one cause.
use Rattle.std.proofs.Common.{◌≡◌, Ok, Err, sym, ◌∙◌}
use Rattle.cob_tree.specs.declared.program.Program.{Program}
use Rattle.cobol_read.specs.declared.refusal.ReadRefusal.{ReadRefusal}
use Rattle.cobol_read.specs.Answer.{Answer}
use Rattle.cobol_read.specs.Laws.{ReadsOneWay}
use Rattle.cobol_read.proofs.AnswerLemmas.{reads_answer, cause_answer}

same_program : (p q : Program) → ◌≡◌ {A = Answer} (Ok p) (Ok q) → p ≡ q
same_program p q e = cc

same_refusal : (p q : ReadRefusal) → ◌≡◌ {A = Answer} (Err p) (Err q) → p ≡ q
same_refusal p q e = cc

no_program : (p : Program) (q : ReadRefusal) → ◌≡◌ {A = Answer} (Ok p) (Err q) → ⊥
no_program p q e = cc

pub one_way : ReadsOneWay
one_way = record {
  program = λ bytes p q h k. same_program p q (sym (reads_answer bytes p h) ∙ reads_answer bytes q k);
  refused = λ bytes p refusal h n k. no_program p refusal (sym (reads_answer bytes p h) ∙ cause_answer bytes refusal n k);
  cause = λ bytes one other m n h k. same_refusal one other (sym (cause_answer bytes one m h) ∙ cause_answer bytes other n k);
}
