use Rattle.grammar_laws.proofs.well_scoped_lemmas.named_data_lemmas.Data.{divisions}
use Rattle.grammar_laws.proofs.well_scoped.named_data.divisions_give.Goals as goal

pub returns : goal.returns
returns g c counts S = divisions counts S
