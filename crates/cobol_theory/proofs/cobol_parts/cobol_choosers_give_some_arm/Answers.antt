use Rattle.cobol_theory.proofs.cobol_parts_lemmas.SomeArm.{gives-some}
use Rattle.cobol_theory.proofs.cobol_parts.cobol_choosers_give_some_arm.Goals as goal

pub returns : goal.returns
returns c = gives-some
