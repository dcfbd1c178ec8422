use Rattle.grammar_laws.proofs.well_scoped_lemmas.named_tokens_lemmas.Tokens.{numbered}
use Rattle.grammar_laws.proofs.well_scoped.named_tokens.tokens_are_numbered.Goals as goal

pub returns : goal.returns
returns c = numbered
