use Rattle.end_to_end_laws.proofs.rewriting_lemmas.Applied.{loop-keeps-walks}
use Rattle.end_to_end_laws.proofs.rewriting.rule_walks.loops_keep_walks.Goals as goal

pub returns : goal.returns
returns g c = loop-keeps-walks
