use Rattle.std.proofs.lemmas.Result.{on_ok_weaker}
use Rattle.control_flow_theory.specs.language.Language as language
use Rattle.body_rendering.proofs.BodyRows.{adds_one}
use Rattle.body_rendering.proofs.leaves.add_set.Goals as goal

pub returns : goal.returns
returns c =
    on_ok_weaker c.push.result
    (λ e way are. adds_one way c.args.made.now c.push.new.self c.in_ok-stmt.stmt (language.Do (language.Set c.args.cell c.args.value)) e (c.in_ok-stmt.ensures way are))
    c.push.ensures.ok
