use Rattle.control_flow_theory.proofs.rendering_lemmas.Example.{small-procedures, small-written, small-structured}
use Rattle.control_flow_theory.proofs.rendering.a_small_family_is_written_as_said.Goals as goal

pub returns-clause-writable : goal.returns-clause-writable
returns-clause-writable c = small-procedures

pub returns-clause-written : goal.returns-clause-written
returns-clause-written c = small-written

pub returns-clause-structured : goal.returns-clause-structured
returns-clause-structured c = small-structured
