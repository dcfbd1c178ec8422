use Rattle.std.proofs.Common.{◌+◌, ◌-◌, sym, ◌∙◌, arith}
use Rattle.edit_fields.proofs.ReadingLemmas.{none_on, once_more}
use Rattle.edit_fields.proofs.reading.Reading.repeated.Goals as goal

pub returns-in-None : goal.returns-in-None
returns-in-None c =
    sym (once_more c.args.count c.loop-turn.turn c.args.symbol c.loop-turn.reading _ _ (omega arith) c.in-None.ensures c.loop-turn.invariant
    ∙ none_on (c.args.count - (c.loop-turn.turn + 1)) c.args.symbol)

pub loop-turn-preserved : goal.loop-turn-preserved
loop-turn-preserved c = once_more c.args.count c.loop-turn.turn c.args.symbol c.loop-turn.reading _ _ (omega arith) c.in-Some.ensures c.loop-turn.invariant
