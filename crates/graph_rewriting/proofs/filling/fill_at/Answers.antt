use Rattle.std.proofs.Common.{ap, sym, ◌∙◌}
use Rattle.std.specs.Option.{option_copied}
use Rattle.branch_tree.specs.Tree.{seen_tree}
use Rattle.graph_rewriting.proofs.FillRows.{filled_none, filled_at}
use Rattle.graph_rewriting.proofs.filling.fill_at.Goals as goal

pub returns-in-None : goal.returns-in-None
returns-in-None c =
    filled_none c.args.label (seen_tree c.args.tree) c.args.keys.now c.args.slots.now
    (sym c.get.ensures.value ∙ ap option_copied c.in-None.is)

pub returns-in-Some : goal.returns-in-Some
returns-in-Some c =
    filled_at c.args.label c.args.tree c.args.keys.now c.in-Some.key.now c.args.slots.now c.count_tree.new.slots c.put_in.new.slots
    (sym c.get.ensures.value ∙ ap option_copied c.in-Some.is) c.count_tree.ensures c.put_in.ensures
