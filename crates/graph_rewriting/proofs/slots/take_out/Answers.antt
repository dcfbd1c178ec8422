use Rattle.std.proofs.Common.{◌≡◌, Some, refl, ap, sym, ◌∙◌}
use Rattle.std.specs.Option.{option_copied_mut}
use Rattle.slab.specs.Slab.{get}
use Rattle.branch_tree.specs.Tree.{seen_tree}
use Rattle.graph_rewriting.proofs.CountRows.{rewrites_value, retreed}
use Rattle.graph_rewriting.proofs.slots.take_out.Goals as goal

pub returns-in-Some : goal.returns-in-Some
returns-in-Some c =
    let kept = c.in-Some.kept.now in
    let found : get c.args.slots.now c.args.key ≡ Some kept = sym c.get_mut.ensures.value ∙ ap option_copied_mut c.in-Some.is in
    let after = retreed kept c.replace.new.dest in (
      kept,
      after,
      rewrites_value c.args.slots.now c.args.key kept after found,
      (refl, refl),
      c.replace.ensures.value,
      ap seen_tree c.replace.ensures.after ∙ c.bare_tree.ensures,
    )
