use Rattle.program_facts.specs.well_scoped.Named.{counts_of}
use Rattle.cobol_theory.proofs.own_paragraphs_lemmas.OwnParagraphs.{paragraphs-own}
use Rattle.cobol_theory.proofs.own_paragraphs.named_programs_name_own_paragraphs.Goals as goal

pub returns : goal.returns
returns c program own = paragraphs-own (counts_of program) program.paragraphs own.statements
