use Rattle.procedure_split.proofs.one_split_lemmas.OneSplit.{one-split}
use Rattle.procedure_split.proofs.one_split.splits_are_one.Goals as goal

pub returns : goal.returns
returns c = one-split
