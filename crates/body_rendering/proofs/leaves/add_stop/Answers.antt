use Rattle.std.proofs.lemmas.Result.{on_ok_weaker}
use Rattle.body_rendering.proofs.BodyRows.{stop_added}
use Rattle.body_rendering.proofs.leaves.add_stop.Goals as goal

pub returns : goal.returns
returns c = on_ok_weaker c.push.result (λ e. stop_added c.args.made.now c.push.new.self e) c.push.ensures.ok
