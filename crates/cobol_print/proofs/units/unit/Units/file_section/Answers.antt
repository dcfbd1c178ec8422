use Rattle.std.proofs.Common.{List, [], ◌∷◌}
use Rattle.std.specs.Prelude.{codes}
use Rattle.cobol_print.specs.declared.units.unit.PrintUnit.{PrintUnit}
use Rattle.cobol_print.specs.units.Unit.{header}
use Rattle.cobol_print.specs.units.Division.{fd_unit}
use Rattle.cobol_print.proofs.units_lemmas.UnitLemmas.{added_on}
use Rattle.cobol_print.proofs.units.unit.Units.file_section.Goals as goal

pub returns : goal.returns
returns c =
    let first : List PrintUnit = header (codes "FILE") (codes "SECTION") ∷ [] in
    added_on c.fd.result c.args.self.now c.header.new.self c.fd.new.self first
    (fd_unit c.args.program.now c.args.file ∷ []) c.in_ok-header.ensures c.fd.ensures
