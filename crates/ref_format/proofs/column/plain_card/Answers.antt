use Rattle.std.proofs.Common.{◌∙◌, arith}
use Rattle.ref_format.proofs.ColumnLemmas.{plain_card-long, plain_card-short}
use Rattle.ref_format.proofs.column.plain_card.Goals as goal

pub returns-then-width-ge72 : goal.returns-then-width-ge72
returns-then-width-ge72 c = c.copy_from_slice.ensures.after ∙ plain_card-long c.args.line.now c.if-width-ge72.true

pub returns : goal.returns
returns c = c.put_front.ensures ∙ plain_card-short c.args.line.now (omega arith)
