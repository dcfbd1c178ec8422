use Rattle.std.proofs.Common.{◌∙◌}
use Rattle.restructure_asks.proofs.WritingLemmas.{line-or-not}
use Rattle.restructure_asks.proofs.writing.note_if_room.Goals as goal

pub returns-in-Ok : goal.returns-in-Ok
returns-in-Ok g c = line-or-not _ _ _ _ _ (c.as_slice.ensures ∙ c.in-Ok.ensures) c.note_line.ensures
