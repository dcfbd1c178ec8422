use Rattle.control_flow_theory.specs.runs.Machine.{meaning}
use Rattle.control_flow_theory.specs.semantics.Doing.{alone}
use Rattle.control_flow_theory.specs.semantics.Source.{source_machine}
use Rattle.control_flow_theory.specs.semantics.Structural.{structural}
use Rattle.control_flow_theory.proofs.semantics_agree_lemmas.Tying.{tied-same}
use Rattle.control_flow_theory.proofs.semantics_agree_lemmas.Agreement.{structured-tied}
use Rattle.control_flow_theory.proofs.semantics_agree_lemmas.Faultless.{structured-faultless}
use Rattle.control_flow_theory.proofs.semantics_agree.a_structured_program_agrees.Goals as goal

pub returns-clause-tied : goal.returns-clause-tied
returns-clause-tied g c = structured-tied

pub returns-clause-same : goal.returns-clause-same
returns-clause-same g c = λ acting left program structured.
    tied-same (meaning (source_machine (alone acting) left program)) (structural (alone acting) left program) (structured-tied (alone acting) left program structured)

pub returns-clause-faultless : goal.returns-clause-faultless
returns-clause-faultless g c = structured-faultless
