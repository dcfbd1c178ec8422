-- The divisions of a program that is read.
use Rattle.std.proofs.Common.{ℕ, List}
use Rattle.cob_tree.specs.declared.place.Place.{Place}
use Rattle.cob_tree.specs.declared.program.Program.{Program}
use Rattle.cobol_read.specs.Reading.{Reads}
use Rattle.parser_combinators.specs.Form.{Form}
use Rattle.round_trip.specs.declarations.Laws.{ReadBack}
use Rattle.round_trip.specs.declarations.Named.{AreStated}
use Rattle.round_trip.proofs.declarations_lemmas.Declared.{declared_programs_keep_rules}
use Rattle.round_trip.proofs.declarations_lemmas.ReadBack.{read-back}
use Rattle.round_trip.specs.fitting_statements.own_fits.Own.{own_names}
use Rattle.end_to_end_laws.specs.read_programs.readable_parts.Laws.{FitStatusesAreStated, NamesAreReadable, ProgramsThatAreReadAreStated, ProgramsThatAreReadHaveFitStatuses, ProgramsThatAreReadKeepRules}
use Rattle.end_to_end_laws.proofs.read_programs_lemmas.readable_parts_lemmas.Declared.{read-divisions}
use Rattle.end_to_end_laws.proofs.read_programs_lemmas.readable_parts_lemmas.Names.{file, entry}
use Rattle.end_to_end_laws.proofs.read_programs_lemmas.readable_parts_lemmas.Status.{each-stated, status-spells}
use Rattle.end_to_end_laws.proofs.read_programs_lemmas.readable_parts_lemmas.Titled.{read-titled}

pub names_are_readable : NamesAreReadable
names_are_readable program = record {
  file = file program;
  entry = entry program;
  status = status-spells (own_names program) program;
}

pub read-keeps : ProgramsThatAreReadKeepRules
read-keeps bytes program reads =
    let d = read-divisions bytes program reads in declared_programs_keep_rules program d.0 d.1.literal d.1.declares.1

pub read-statuses : ProgramsThatAreReadHaveFitStatuses
read-statuses bytes program reads = (read-divisions bytes program reads).1.fit

pub fit-stated : FitStatusesAreStated
fit-stated program h = each-stated (own_names program) program program.files h

pub read-stated : ProgramsThatAreReadAreStated
read-stated bytes program reads fit = fit-stated program (read-statuses bytes program reads fit)

pub reads-back : (status : Form Place) (taken : ℕ) (bytes : List ℕ) (program : Program) → Reads bytes program → AreStated status program program.files → ReadBack status taken program
reads-back status taken bytes program reads stated =
    let d = read-divisions bytes program reads in
    read-back status taken program d.0 d.1.literal d.1.declares (read-titled bytes program reads) stated
