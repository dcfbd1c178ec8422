use Rattle.program_facts.specs.well_scoped.Named.{counts_of}
use Rattle.program_facts.proofs.well_scoped_lemmas.OwnItems.{paragraphs-own}
use Rattle.program_facts.proofs.well_scoped.named_programs_name_own_items.Goals as goal

pub returns : goal.returns
returns c program few own = paragraphs-own (counts_of program) few program.paragraphs own.statements
