use Rattle.std.proofs.Common.{subst}
use Rattle.cob_base.specs.Answers.{Makes}
use Rattle.cob_tree.specs.declared.program.Program.{Program}
use Rattle.cobol_print.specs.Program.{printed}
use Rattle.restructure_asks.proofs.made.program_text.Goals as goal

pub returns : goal.returns
returns c =
    subst (λ (program : Program). Makes (printed program) c.print.result)
    c.in_ok-program.ensures c.print.ensures
