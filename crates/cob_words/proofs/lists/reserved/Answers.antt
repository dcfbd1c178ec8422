use Rattle.cob_words.specs.Lists.{reserved_words}
use Rattle.cob_words.proofs.ByRow.{is_listed-of_row}
use Rattle.cob_words.proofs.lists.reserved.Goals as goal

pub returns : goal.returns
returns c =
    let by_row = is_listed-of_row reserved_words c.args.word.now in
    cc (c.is_in_row.ensures, c.reserved_row.ensures, c.row_of.ensures.value)
