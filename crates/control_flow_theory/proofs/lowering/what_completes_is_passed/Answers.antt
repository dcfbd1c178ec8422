use Rattle.control_flow_theory.specs.semantics.Source.{rest_of}
use Rattle.control_flow_theory.proofs.lowering_lemmas.flow.Passes.{stmt-passes}
use Rattle.control_flow_theory.proofs.lowering.what_completes_is_passed.Goals as goal

pub returns : goal.returns
returns c = λ told program paragraphs exact range number stmt rest own k come. stmt-passes told program paragraphs 0 (rest_of program 0) exact range number stmt rest own k come
