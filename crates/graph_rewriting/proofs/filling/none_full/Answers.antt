use Rattle.std.proofs.Common.{◌≡◌, ◌<◌, ◌-◌, ◌^◌, Some, ap, sym, ◌∙◌, subst, arith}
use Rattle.std.specs.Map.Iter.{deref_pair}
use Rattle.std.specs.Option.{option_copied}
use Rattle.std.proofs.lemmas.Map.Iter.{rest_more}
use Rattle.slab.specs.Slab.{get}
use Rattle.graph_rewriting.specs.Filling.{NoneFull}
use Rattle.graph_rewriting.proofs.filling.none_full.Goals as goal

pub loop-key-preserved : goal.loop-key-preserved
loop-key-preserved c = λ none.
    let next = rest_more deref_pair _ _ _ _ c.in-Some.is c.next.ensures.steps in
    let found : get c.args.slots.now c.in-Some.key.now ≡ Some c.in-Some-get.kept.now = sym c.get.ensures ∙ ap option_copied c.in-Some-get.is in
    let less : c.in-Some-get.kept.now.incoming < 2 ^ 32 - 1 = omega (arith, c.if-kept-ge4294967295.false) in
    c.loop-key.invariant (subst (λ es. NoneFull c.args.slots.now es) (sym next)
    ((λ kept here. let same : c.in-Some-get.kept.now ≡ kept = cc in subst (λ k. k.incoming < 2 ^ 32 - 1) same less), none))
