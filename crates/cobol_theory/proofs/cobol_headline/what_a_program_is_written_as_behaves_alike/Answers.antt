use Rattle.cobol_theory.proofs.cobol_headline_lemmas.Joined.{alike}
use Rattle.cobol_theory.proofs.cobol_headline.what_a_program_is_written_as_behaves_alike.Goals as goal

pub returns : goal.returns
returns c program result writing proper can is = alike program result writing proper can is
