use Rattle.std.proofs.Common.{◌≡◌, Some, ap, sym, ◌∙◌, nat_cmp}
use Rattle.std.specs.BTreeMap as map
use Rattle.std.specs.Map.Iter.{deref_pair}
use Rattle.std.specs.Option.{option_copied}
use Rattle.std.proofs.lemmas.Map.Views.{All-turn}
use Rattle.graph_rewriting.proofs.finding.any_source.Goals as goal

pub returns-then-jumps_to : goal.returns-then-jumps_to
returns-then-jumps_to c = record {
  key = c.in-Some.key.now;
  kept = c.in-Some-get.kept.now;
  led =
      All-turn deref_pair (λ e. map.get nat_cmp c.args.keys.now e.0 ≡ Some e.1) _ _ _ _ _ _ _ c.iter-from-items.ensures.found
      (c.into_iter-from-iterator.ensures.into_iter_gives ∙ c.iter-from-items.ensures.rest)
      c.loop-from.yielded_by c.in-Some.is c.next.ensures.steps;
  here = sym c.get.ensures ∙ ap option_copied c.in-Some-get.is;
  jumps = sym c.jumps_to.ensures ∙ c.if-jumps_to.true;
}
