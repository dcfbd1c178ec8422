use Rattle.std.proofs.Common.{rules}
use Rattle.cob_words.specs.Lists.{reserved_words}
use Rattle.cob_words.proofs.ByRow.{words_in_row}
use Rattle.cob_words.proofs.lists.reserved_row.Goals as goal

pub returns : goal.returns
unfolding reserved_words
returns c = search (words_in_row, rules, c.requires)
