use Rattle.control_flow_theory.specs.language.Control.{control_of}
use Rattle.program_points.specs.numbering.Kind.{never_first_of}
use Rattle.program_gen.specs.Generated.{generated}
use Rattle.program_gen.proofs.PathLemmas.{no-fault}
use Rattle.program_gen.proofs.FlatLemmas.{flat}
use Rattle.program_gen.proofs.RangeLemmas.{few-ranges}
use Rattle.program_gen.proofs.laws.generated_programs_are_faultless.Goals as goal

pub returns-clause-never : goal.returns-clause-never
returns-clause-never c n faulty = no-fault (never_first_of (generated n).files) (control_of (generated n)) (flat n) faulty

pub returns-clause-few : goal.returns-clause-few
returns-clause-few c = few-ranges
