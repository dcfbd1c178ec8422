use Rattle.control_flow_theory.proofs.semantics_agree_lemmas.Units.{structural-steady}
use Rattle.control_flow_theory.proofs.semantics_agree_lemmas.Faultless.{structural-fair}
use Rattle.control_flow_theory.proofs.semantics_agree.more_units_show_more.Goals as goal

pub returns-clause-steady : goal.returns-clause-steady
returns-clause-steady g c = structural-steady

pub returns-clause-fair : goal.returns-clause-fair
returns-clause-fair g c = structural-fair
