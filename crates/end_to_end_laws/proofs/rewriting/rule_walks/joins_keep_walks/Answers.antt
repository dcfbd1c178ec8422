use Rattle.end_to_end_laws.proofs.rewriting_lemmas.Applied.{join-keeps-walks, join-tree-keeps}
use Rattle.end_to_end_laws.proofs.rewriting.rule_walks.joins_keep_walks.Goals as goal

pub returns-clause-tree : goal.returns-clause-tree
returns-clause-tree g c = join-tree-keeps

pub returns-clause-graph : goal.returns-clause-graph
returns-clause-graph g c = join-keeps-walks
