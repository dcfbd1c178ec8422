use Rattle.control_flow_theory.proofs.runs_lemmas.Ties.{tied-sym, tied-shows, tied-comes}
use Rattle.control_flow_theory.proofs.runs.tie.tied_meanings_do_the_same.Goals as goal

pub returns-clause-show : goal.returns-clause-show
returns-clause-show g c = tied-shows

pub returns-clause-end : goal.returns-clause-end
returns-clause-end g c = λ a b tied world run over. (tied-comes a b tied world run over, tied-comes b a (tied-sym a b tied) world run over)
