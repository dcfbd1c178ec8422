use Rattle.end_to_end_laws.proofs.rewriting_lemmas.Applied.{exits-keep-walks}
use Rattle.end_to_end_laws.proofs.rewriting.rule_walks.loops_with_exits_keep_walks.Goals as goal

pub returns : goal.returns
returns g c = exits-keep-walks
