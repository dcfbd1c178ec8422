use Rattle.control_flow_theory.proofs.language_lemmas.Losing.{control-loses_nothing}
use Rattle.control_flow_theory.proofs.language_lemmas.OwnStatements.{paragraphs-own}
use Rattle.control_flow_theory.proofs.language.control_loses_nothing.Goals as goal

pub returns-clause-any : goal.returns-clause-any
returns-clause-any c = control-loses_nothing

pub returns-clause-source : goal.returns-clause-source
returns-clause-source c program other own = control-loses_nothing program other (paragraphs-own 0 program.paragraphs own)
