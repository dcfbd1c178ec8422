use Rattle.end_to_end_laws.proofs.rewriting_lemmas.LoweredFamily.{lowered-sound, split-sound}
use Rattle.end_to_end_laws.proofs.rewriting.lowered_families.lowered_graphs_are_sound.Goals as goal

pub returns-clause-lowered : goal.returns-clause-lowered
returns-clause-lowered g c = lowered-sound

pub returns-clause-split : goal.returns-clause-split
returns-clause-split g c = split-sound
