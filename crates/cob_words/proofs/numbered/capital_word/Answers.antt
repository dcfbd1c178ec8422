use Rattle.std.proofs.Common.{◌≡◌, false, true, ◌∙◌}
use Rattle.cob_words.proofs.numbered.capital_word.Goals as goal

apart : false ≡ true → ⊥
apart e = cc

pub unreachable-requires : goal.unreachable-requires
unreachable-requires c = apart (c.in-None.ensures.whole.1 c.requires.word)

pub returns : goal.returns
returns c = c.in-Some.ensures.value ∙ c.requires.capital
