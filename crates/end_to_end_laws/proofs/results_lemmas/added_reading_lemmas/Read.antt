-- A program that is read, with items behind its entries, declares readably.
use Rattle.std.proofs.Common.{◌++◌, refl}
use Rattle.cob_tree.specs.declared.program.Program.{Program}
use Rattle.grammar_laws.proofs.form_results_lemmas.Giving.{hence}
use Rattle.round_trip.specs.printable.printable_tokens.Printable.{IsPrintable}
use Rattle.round_trip.proofs.procedures_lemmas.readable_exprs_lemmas.Named.{finds_by}
use Rattle.round_trip.proofs.procedures_lemmas.readable_exprs_lemmas.Expressions as expressions
use Rattle.round_trip.specs.fitting_statements.own_fits.Own.{own_names}
use Rattle.end_to_end_laws.specs.read_programs.readable_parts.Read.{ReferencesAreFit}
use Rattle.end_to_end_laws.proofs.read_programs_lemmas.readable_parts_lemmas.Read.{fit-stated, read-keeps, read-statuses}
use Rattle.end_to_end_laws.proofs.read_programs_lemmas.readable_parts_lemmas.Titled.{read-titled}
use Rattle.round_trip.specs.declarations.added_entries.Items.{whole_entries}
use Rattle.round_trip.proofs.declarations_lemmas.added_entries_lemmas.Kept.{added_entries_keep_rules}
use Rattle.end_to_end_laws.specs.results.added_reading.Laws.{ProgramsWithItemsDeclareReadably}
use Rattle.end_to_end_laws.proofs.results_lemmas.added_reading_lemmas.Statuses.{statuses-still}

references-fit : (program : Program) → ReferencesAreFit (own_names program) program
references-fit program =
    let names = own_names program in
    hence (λ side s. record { fit = s.fit; room = s.room; kept = s.kept }) (expressions.data_reference IsPrintable names program (finds_by names program refl))

pub declare-readably : ProgramsWithItemsDeclareReadably
declare-readably bytes program made items reads has name may =
    let kept = read-keeps bytes program reads in
    let statuses = read-statuses bytes program reads (references-fit program) in
    record {
      titled = added_entries_keep_rules.titles program made items has name may.titled (read-titled bytes program reads);
      fds = kept.0;
      storage = kept.1 ++ whole_entries items;
      keeps = added_entries_keep_rules.rules program made items kept.0 kept.1 has may.sized kept.2;
      stated = fit-stated made (statuses-still program made items has may.new statuses);
    }
