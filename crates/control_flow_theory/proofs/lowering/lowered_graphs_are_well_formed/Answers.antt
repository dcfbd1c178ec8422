use Rattle.control_flow_theory.specs.lowering.flow.Comes.{entry_of}
use Rattle.control_flow_theory.proofs.lowering_lemmas.graphs.Families.{within-program}
use Rattle.control_flow_theory.proofs.lowering_lemmas.graphs.WellFormed.{all-well, named-label}
use Rattle.control_flow_theory.proofs.lowering_lemmas.graphs.KeptWell.{kept-well}
use Rattle.control_flow_theory.proofs.lowering.lowered_graphs_are_well_formed.Goals as goal

pub returns-clause-all : goal.returns-clause-all
returns-clause-all c = λ told program range source lt. (all-well told program range source, named-label told program range (entry_of range) lt, within-program told program range 0 0 program.paragraphs)

pub returns-clause-reached : goal.returns-clause-reached
returns-clause-reached c = λ told program range keep source lt just. kept-well told program range keep just source lt
