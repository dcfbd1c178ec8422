use Rattle.std.proofs.Common.{◌≡◌, ℕ, List, ◌++◌, Some, slice_get, subst, sym, ap, ◌∙◌}
use Rattle.pending_returns.specs.levels.Reach.{Holds}
use Rattle.overlap_trail.specs.finding.Chain.{Along, IsWay}
use Rattle.overlap_trail.proofs.finding_lemmas.Chaining.{along-append, along-known, is-way}
use Rattle.overlap_trail.proofs.finding.chain.chain_of.Goals as goal

pub cut-requires-clause-below : goal.cut-requires-clause-below
cut-requires-clause-below c = λ number has.
    let levels = c.args.levels.now in
    let front = c.as_slice.result.now in
    let back = c.as_slice-2.result.now in
    let first = subst (λ (ps : List ℕ). Along levels 0 ps c.args.clash.base) (sym c.as_slice.ensures.value) c.in_ok-front.ensures in
    let second = subst (λ (ps : List ℕ). Along levels c.args.clash.base ps c.args.clash.last) (sym c.as_slice-2.ensures.value) c.in_ok-back.ensures in
    let way = along-append levels 0 c.args.clash.base c.args.clash.last front back first second in
    along-known levels c.requires.levels.known 0 c.args.clash.last (front ++ back) way c.requires.levels.main number
    (subst (λ (ps : List ℕ). Holds ps number) (c.as_slice-3.ensures.value ∙ c.in_ok-path.ensures) has)

pub cut-requires-clause-way : goal.cut-requires-clause-way
cut-requires-clause-way c =
    let levels = c.args.levels.now in
    let base = c.args.clash.base in
    let last = c.args.clash.last in
    let front = c.as_slice.result.now in
    let back = c.as_slice-2.result.now in
    let clash = c.requires.clash in
    let first = subst (λ (ps : List ℕ). Along levels 0 ps base) (sym c.as_slice.ensures.value) c.in_ok-front.ensures in
    let second = subst (λ (ps : List ℕ). Along levels base ps last) (sym c.as_slice-2.ensures.value) c.in_ok-back.ensures in
    let ending : slice_get levels base ≡ Some clash.2 = ap (λ (n : ℕ). slice_get levels n) clash.5.is_base ∙ clash.3 in (
      base,
      clash.1,
      subst (λ (ps : List ℕ). IsWay levels ps base clash.1 c.args.clash.fault) (sym (c.as_slice-3.ensures.value ∙ c.in_ok-path.ensures))
          (is-way levels base last clash.1 front back c.args.clash.fault clash.5.facts clash.2 first second clash.5.level clash.5.faults ending clash.4),
    )
