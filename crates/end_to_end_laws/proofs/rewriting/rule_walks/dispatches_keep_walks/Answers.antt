use Rattle.end_to_end_laws.proofs.rewriting_lemmas.Applied.{dispatch-keeps-walks}
use Rattle.end_to_end_laws.proofs.rewriting.rule_walks.dispatches_keep_walks.Goals as goal

pub returns : goal.returns
returns g c = dispatch-keeps-walks
