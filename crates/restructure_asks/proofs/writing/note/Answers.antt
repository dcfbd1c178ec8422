use Rattle.std.proofs.Common.{◌∙◌}
use Rattle.restructure_asks.proofs.WritingLemmas.{line-noted, no-memory-noted}
use Rattle.restructure_asks.proofs.writing.note.Goals as goal

pub returns-in-Ok : goal.returns-in-Ok
returns-in-Ok g c = line-noted _ _ _ _ _ (c.as_slice.ensures ∙ c.in-Ok.ensures) c.status.ensures c.note_line.ensures

pub returns-in-Err : goal.returns-in-Err
returns-in-Err g c = no-memory-noted _ _ _ c.note_line-in-Err.ensures
