use Rattle.std.proofs.Common.{◌∙◌, Bool, List, not, map, ap}
use Rattle.dead_paragraphs.proofs.Missing.{are-dropped}
use Rattle.dead_paragraphs.proofs.dead.Goals as goal

pub returns : goal.returns
returns c = are-dropped c.args.summary.now c.as_slice-2.result.now c.in_ok-numbers.numbers (c.as_slice-2.ensures.value ∙ c.in_ok-missed.ensures ∙ ap (λ (bs : List Bool). map not bs) c.as_slice.ensures) c.in_ok-numbers.ensures
