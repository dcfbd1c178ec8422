use Rattle.std.proofs.Common.{◌==◌, ap, sym, ◌∙◌}
use Rattle.control_flow_theory.specs.structuring.Dispatches.{set_to, number_in}
use Rattle.branch_tree.specs.Tree.{jump_within}
use Rattle.body_rendering.proofs.BodyRows.{adds_nothing}
use Rattle.body_rendering.proofs.LeafRows.{jumps_on}
use Rattle.body_rendering.proofs.leaves.add_jump.Goals as goal

pub returns-in-Silent : goal.returns-in-Silent
returns-in-Silent c = λ way are.
    adds_nothing way c.args.made.now (jump_within c.args.leaves.now c.args.to) (ap (λ l. jump_within l c.args.to) c.in-Silent.is)

pub returns-then-eq : goal.returns-then-eq
returns-then-eq c = λ way are.
    adds_nothing way c.args.made.now (jump_within c.args.leaves.now c.args.to)
    (ap (λ l. jump_within l c.args.to) c.in-Flag.is ∙ jumps_on (c.args.to == c.in-Flag.label) (set_to c.in-Flag.cell 1) (sym c.eq.ensures ∙ c.if-eq.true))

pub returns-then-eq-2 : goal.returns-then-eq-2
returns-then-eq-2 c = λ way are.
    adds_nothing way c.args.made.now (jump_within c.args.leaves.now c.args.to)
    (ap (λ l. jump_within l c.args.to) c.in-Exit.is
    ∙ jumps_on (c.args.to == c.in-Exit.label) (set_to c.in-Exit.cell (number_in c.in-Exit.targets c.args.to)) (sym c.eq-in-Exit.ensures ∙ c.if-eq-2.true))
