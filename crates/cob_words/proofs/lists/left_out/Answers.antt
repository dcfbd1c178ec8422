use Rattle.cob_words.specs.Lists.{left_out_words}
use Rattle.cob_words.proofs.ByRow.{is_listed-of_row}
use Rattle.cob_words.proofs.lists.left_out.Goals as goal

pub returns : goal.returns
returns c =
    let by_row = is_listed-of_row left_out_words c.args.word.now in
    cc (c.is_in_row.ensures, c.left_out_row.ensures, c.row_of.ensures.value)
