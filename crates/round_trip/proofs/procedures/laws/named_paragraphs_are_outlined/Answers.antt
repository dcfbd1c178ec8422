use Rattle.round_trip.proofs.procedures_lemmas.Named.{named-outlined}
use Rattle.round_trip.proofs.procedures.laws.named_paragraphs_are_outlined.Goals as goal

pub returns : goal.returns
returns c p list h = named-outlined p list h
