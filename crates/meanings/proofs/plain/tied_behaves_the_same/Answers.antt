use Rattle.meanings.proofs.plain_lemmas.Tying.{covers-matched, tied-same}
use Rattle.meanings.proofs.plain.tied_behaves_the_same.Goals as goal

pub returns-clause-matches : goal.returns-clause-matches
returns-clause-matches c = covers-matched

pub returns-clause-same : goal.returns-clause-same
returns-clause-same c = tied-same
