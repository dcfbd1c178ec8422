use Rattle.end_to_end_laws.proofs.rewriting_lemmas.Applied.{inline-keeps-walks}
use Rattle.end_to_end_laws.proofs.rewriting.rule_walks.inlining_keeps_walks.Goals as goal

pub returns : goal.returns
returns g c = inline-keeps-walks
