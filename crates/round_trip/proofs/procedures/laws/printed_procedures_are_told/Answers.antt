use Rattle.grammar_laws.proofs.no_periods_lemmas.Plainly as plainly
use Rattle.cobol_grammar.proofs.PartLaws as part_laws
use Rattle.cobol_grammar.specs.Whole.{parts_of}
use Rattle.round_trip.specs.spelling.Kept.{kept_of}
use Rattle.round_trip.proofs.spelling_lemmas.Told.{parts_are_told}
use Rattle.round_trip.proofs.procedures_lemmas.Printed.{named-header, procedures-told}
use Rattle.round_trip.proofs.procedures.laws.printed_procedures_are_told.Goals as goal

pub returns : goal.returns
returns c names entries table program taken h tokens e =
    procedures-told (part_laws.parts names entries table) (plainly.parts names entries table) (parts_are_told names entries table program) program
    (named-header (parts_of names entries table) (kept_of names program) program) taken h tokens e
