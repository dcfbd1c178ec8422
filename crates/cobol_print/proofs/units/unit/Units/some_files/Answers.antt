use Rattle.std.proofs.Common.{List, [], ◌∷◌, ◌++◌}
use Rattle.std.specs.Prelude.{codes}
use Rattle.cobol_lex.specs.declared.token.TokenKind.TheVariants as kind
use Rattle.cobol_print.specs.declared.units.unit.PrintUnit.{PrintUnit}
use Rattle.cobol_print.specs.units.Unit.{unit_at, header}
use Rattle.cobol_print.specs.units.Division.{file_units}
use Rattle.cobol_print.proofs.units_lemmas.UnitLemmas.{joined_on, added_on}
use Rattle.cobol_print.proofs.units.unit.Units.some_files.Goals as goal

pub returns : goal.returns
returns c =
    let old : List PrintUnit = c.args.self.now in
    let first : List PrintUnit = header (codes "ENVIRONMENT") (codes "DIVISION") ∷ [] in
    let second : List PrintUnit = header (codes "INPUT-OUTPUT") (codes "SECTION") ∷ [] in
    let third : List PrintUnit = unit_at 8 (kind.Word (codes "FILE-CONTROL") ∷ kind.Period ∷ []) ∷ [] in
    added_on c.files.result old c.word_line.new.self c.files.new.self (first ++ second ++ third)
    (file_units c.args.program.now c.args.files.now)
    (joined_on old c.header-2.new.self c.word_line.new.self (first ++ second) third
    (joined_on old c.header.new.self c.header-2.new.self first second c.in_ok-header.ensures c.in_ok-header-2.ensures)
    c.in_ok-word_line.ensures)
    c.files.ensures
