use Rattle.std.proofs.Common.{◌≡◌, Some, ap, sym, ◌∙◌}
use Rattle.std.specs.Option.{option_copied_mut}
use Rattle.slab.specs.Slab.{get}
use Rattle.graph_rewriting.proofs.CountRows.{rewrites_value, retreed}
use Rattle.graph_rewriting.proofs.slots.put_in.Goals as goal

pub returns-in-Some : goal.returns-in-Some
returns-in-Some c = λ before had.
    let kept = c.in-Some.kept.now in
    let found : get c.args.slots.now c.args.key ≡ Some kept = sym c.get_mut.ensures.value ∙ ap option_copied_mut c.in-Some.is in
    let same : kept ≡ before = cc in
    let after = retreed kept c.replace.new.dest in (
      after,
      rewrites_value c.args.slots.now c.args.key before after had,
      (ap (λ k. k.node.label) same, ap (λ k. k.incoming) same),
      c.replace.ensures.after,
    )
