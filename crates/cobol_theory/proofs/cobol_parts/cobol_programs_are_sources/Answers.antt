use Rattle.cobol_theory.proofs.cobol_parts_lemmas.Sources.{source}
use Rattle.cobol_theory.proofs.cobol_parts.cobol_programs_are_sources.Goals as goal

pub returns : goal.returns
returns c = source
