use Rattle.meanings.proofs.plain_lemmas.Stepping.{begun-is}
use Rattle.meanings.proofs.plain.step.begun.Goals as goal

pub returns : goal.returns
returns c =
    begun-is c.args.program.now c.in_ok-rest.rest c.new.result c.new-2.result c.in_ok-rest.ensures c.new.ensures c.new-2.ensures
