use Rattle.cobol_lex.proofs.WordLemmas.{word_kind-word, word_kind-none}
use Rattle.std.proofs.lemmas.Bool.{false≢true}
use Rattle.std.proofs.Common.{refl}
use Rattle.cobol_lex.proofs.word.word_kind.Goals as goal

pub returns-in-None : goal.returns-in-None
returns-in-None c = word_kind-none c.args.line c.args.run.now (λ w. false≢true (c.in-None.ensures.whole.1 w))

pub returns-in-Some : goal.returns-in-Some
returns-in-Some c = word_kind-word c.args.line c.args.run.now c.in-Some.word (c.in-Some.ensures.whole.0 refl) c.in-Some.ensures.value
