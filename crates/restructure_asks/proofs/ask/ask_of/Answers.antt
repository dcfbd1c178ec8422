use Rattle.std.specs.Prelude.{string_bytes}
use Rattle.restructure_asks.proofs.WordsLemmas.{one-asked, two-asked, three-asked}
use Rattle.restructure_asks.proofs.ask.ask_of.Goals as goal

pub returns-in-len1-clause-asked : goal.returns-in-len1-clause-asked
returns-in-len1-clause-asked c =
    one-asked string_bytes c.args.words.now c.word-item.result _ _ c.in-len1.len_at_least c.in-len1.len_below c.word-item.is c.as_str.ensures.value c.ask_of_word.ensures.asked

pub returns-in-len2-clause-asked : goal.returns-in-len2-clause-asked
returns-in-len2-clause-asked c =
    two-asked string_bytes c.args.words.now c.word-item-then-words-lt3.result c.other-item.result _ _ _ c.in-len2.len_at_least c.in-len2.len_below c.word-item-then-words-lt3.is c.other-item.is c.as_str-in-len2.ensures.value c.as_str-in-len2-2.ensures.value c.ask_of_two.ensures.asked

pub returns-in-len3-clause-asked : goal.returns-in-len3-clause-asked
returns-in-len3-clause-asked c =
    three-asked string_bytes c.args.words.now c.word-item-then-words-lt4.result c.option-item.result c.number-item.result _ _ _ _ c.in-len3.len_at_least c.in-len3.len_below c.word-item-then-words-lt4.is c.option-item.is c.number-item.is c.as_str-in-len3.ensures.value c.as_str-in-len3-2.ensures.value c.as_str-in-len3-3.ensures.value c.steps_of.ensures.asked
