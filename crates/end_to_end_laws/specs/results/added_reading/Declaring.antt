-- What a program has so that its divisions, up to the PROCEDURE DIVISION, are read back.
use Rattle.std.specs.Prelude.{List}
use Rattle.cob_tree.specs.declared.entry.Entry.{Entry}
use Rattle.cob_tree.specs.declared.program.Program.{Program}
use Rattle.cobol_read.specs.Status.{status}
use Rattle.round_trip.specs.spelling.data_spelling.Sections.{Fd}
use Rattle.round_trip.specs.declarations.printed_declarations.FileRules.{KeepsRules}
use Rattle.round_trip.specs.declarations.Named.{IsTitled, AreStated}
use Rattle.round_trip.specs.fitting_statements.own_fits.Own.{own_names}

-- its names may be names, its entries are in such sections that they keep the rules, and its
-- status items are spelled
pub record DeclaresReadably (program : Program) : Type 0 where
  pub titled : IsTitled program
  pub fds : List Fd
  pub storage : List Entry
  -- in these sections its entries keep the rules
  pub keeps : KeepsRules program fds storage
  -- its status items are spelled
  pub stated :
      AreStated (status (own_names program) program.entries) program program.files
