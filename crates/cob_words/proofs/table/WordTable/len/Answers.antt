use Rattle.std.specs.Str.{bytes_eq}
use Rattle.std.proofs.lemmas.Slice.Eq.{bytes_eq-Decides}
use Rattle.std.proofs.lemmas.Map.Made.{AllPairs-from_IsDistinct}
use Rattle.cob_words.proofs.table.WordTable.len.Goals as goal

pub returns-clause-apart : goal.returns-clause-apart
returns-clause-apart c = rw (← c.self.view_is) (AllPairs-from_IsDistinct {eq = bytes_eq} bytes_eq-Decides _ c.len.ensures.unique)
