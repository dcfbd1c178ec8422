use Rattle.restructure_asks.proofs.MadeLemmas.{refusal-made}
use Rattle.restructure_asks.proofs.made.reported.Goals as goal

pub returns-in-Err : goal.returns-in-Err
returns-in-Err c =
    refusal-made c.args.bytes.now c.in-Err.refused c.from.result c.from.ensures
    c.in-Err.ensures.refused
