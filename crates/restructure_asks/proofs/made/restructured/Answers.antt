use Rattle.std.proofs.Common.{refl, inl}
use Rattle.restructure_asks.proofs.MadeLemmas.{refusal-made}
use Rattle.restructure_asks.proofs.made.restructured.Goals as goal

pub returns-in-Ok : goal.returns-in-Ok
returns-in-Ok c = inl (c.in-Ok.done, c.in-Ok.ensures.done, refl)

pub returns-in-Err : goal.returns-in-Err
returns-in-Err c =
    refusal-made c.args.bytes.now c.in-Err.refused c.from.result c.from.ensures
    c.in-Err.ensures.refused
