use Rattle.std.proofs.Common.{ap}
use Rattle.branch_tree.specs.Tree.{return_within}
use Rattle.body_rendering.proofs.BodyRows.{adds_nothing}
use Rattle.body_rendering.proofs.leaves.add_return.Goals as goal

pub returns-in-Silent : goal.returns-in-Silent
returns-in-Silent c = λ way are.
    adds_nothing way c.args.made.now (return_within c.args.leaves.now) (ap return_within c.in-Silent.is)
