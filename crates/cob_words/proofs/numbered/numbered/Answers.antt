use Rattle.std.proofs.Common.{sym, subst, ◌∙◌, arith}
use Rattle.cob_base.specs.Spelling.{IsCapitalWord}
use Rattle.cob_words.proofs.numbered_lemmas.NumberedLemmas.{numbered_is_capital_word}
use Rattle.cob_words.proofs.numbered.numbered.Goals as goal

pub capital_word-requires : goal.capital_word-requires
capital_word-requires c =
    subst IsCapitalWord (sym (c.as_slice.ensures ∙ c.in_ok-text.ensures))
    (numbered_is_capital_word c.args.stem.now c.args.number c.requires (omega arith))
