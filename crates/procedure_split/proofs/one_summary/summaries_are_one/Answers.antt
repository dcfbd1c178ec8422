use Rattle.procedure_split.proofs.one_summary_lemmas.Facts.{summaries-same}
use Rattle.procedure_split.proofs.one_summary.summaries_are_one.Goals as goal

pub returns : goal.returns
returns c = summaries-same
