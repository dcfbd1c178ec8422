use Rattle.control_flow_theory.proofs.language_lemmas.OwnStatements.{paragraphs-own}
use Rattle.control_flow_theory.proofs.language.own_items_make_no_added_words.Goals as goal

pub returns : goal.returns
returns c program own = paragraphs-own 0 program.paragraphs own
