-- What is read is as splitting asks.
use Rattle.end_to_end_laws.proofs.read_programs_lemmas.few_reading_lemmas.Few.{read-few}
use Rattle.end_to_end_laws.proofs.read_programs_lemmas.fit_reading_lemmas.Read.{read-fit, read-recorded}
use Rattle.end_to_end_laws.proofs.read_programs_lemmas.named_reading_lemmas.Whole.{read-named}
use Rattle.end_to_end_laws.proofs.read_programs_lemmas.proper_programs_lemmas.Proper.{proper}
use Rattle.end_to_end_laws.proofs.read_programs_lemmas.whole_reading_lemmas.Whole.{read-whole}
use Rattle.end_to_end_laws.proofs.read_programs_lemmas.exit_reading_lemmas.Alone.{read-alone}
use Rattle.procedure_split.proofs.split_behaviour_lemmas.Joined.{behave-alike}
use Rattle.procedure_split.proofs.split_form_lemmas.Formed.{are-structured}
use Rattle.end_to_end_laws.specs.results.read_headline.Laws.{ProgramsThatAreReadAreWellMade, ProgramsThatAreReadBehaveAlike, ProgramsThatAreReadAreStructured}

pub well-made : ProgramsThatAreReadAreWellMade
well-made bytes program reads =
    let named = read-named bytes program reads in
    record {
      proper = proper program named.0 named.1;
      whole = read-whole bytes program reads;
      fit = record {
        own = named.0.own;
        records = read-recorded bytes program reads;
        entries = read-fit bytes program reads;
        few = read-few bytes program reads;
      };
    }

pub read-alike : ProgramsThatAreReadBehaveAlike
read-alike bytes program made summary reads =
    behave-alike program made summary (well-made bytes program reads)

pub read-structured : ProgramsThatAreReadAreStructured
read-structured bytes program made summary reads =
    are-structured program made summary (well-made bytes program reads)
    (read-alone bytes program reads)
