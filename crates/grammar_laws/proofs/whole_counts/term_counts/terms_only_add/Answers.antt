use Rattle.grammar_laws.proofs.whole_counts_lemmas.term_counts_lemmas.TermLaws as terms
use Rattle.grammar_laws.proofs.whole_counts.term_counts.terms_only_add.Goals as goal

pub returns : goal.returns
returns c = record {
  reference = λ names levels. terms.is_counted _
      (λ before count. terms.reference names before (terms.inner names before levels) count);
  operand = λ names levels. terms.is_counted _
      (λ before count. terms.operand names before (terms.inner names before levels) count);
  expr = λ names levels. terms.is_counted _
      (λ before count. terms.expr names before (terms.inner names before levels) count);
}
