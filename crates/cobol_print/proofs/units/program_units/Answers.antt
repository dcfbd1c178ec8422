use Rattle.std.proofs.Common.{◌≤◌, List, sym, subst}
use Rattle.std.specs.Prelude.{All}
use Rattle.cobol_print.specs.declared.units.unit.PrintUnit.{PrintUnit}
use Rattle.cobol_print.proofs.units_lemmas.LineLemmas.{units-narrow}
use Rattle.cobol_print.proofs.units.program_units.Goals as goal

pub returns-clause-narrow : goal.returns-clause-narrow
returns-clause-narrow c =
    subst (λ (units : List PrintUnit). All (λ unit. unit.column ≤ 32) units) (sym c.in_ok-units.ensures)
    (units-narrow c.args.program.now)
