use Rattle.std.proofs.Common.{inl, inr, refl}
use Rattle.restructure_asks.proofs.WritingLemmas.{front-from}
use Rattle.restructure_asks.proofs.writing.note_line.Goals as goal

pub returns-then-is_err : goal.returns-then-is_err
returns-then-is_err g c = inr (refl, c.ready.ensures.kept)

pub returns : goal.returns
returns g c = inl (refl, front-from _ _ _ _ _ _ _ _ c.give_all.ensures.front refl c.ready.ensures.kept c.ready.ensures.count)
