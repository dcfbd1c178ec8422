use Rattle.std.proofs.Common.{ℕ, Bool, List, Option, length, subst, sym}
use Rattle.program_points.specs.declared.paths.trail.Lemma.{Lemma}
use Rattle.program_points.specs.declared.paths.trail.Hop.{Hop}
use Rattle.overlap_trail.specs.finding.Pruning.{FlagHops, FlagLemmas, Keeps, Renumbers}
use Rattle.overlap_trail.proofs.finding_lemmas.Shortening.{found-short}
use Rattle.overlap_trail.proofs.finding.pruning.shortened.Goals as goal

pub kept_of-requires-clause-flags : goal.kept_of-requires-clause-flags
kept_of-requires-clause-flags c = subst (λ (fs : List Bool). FlagLemmas fs c.as_slice-lemmas.result.now) (sym c.as_slice.ensures.value) c.in_ok-needed.ensures.lemmas

pub returns : goal.returns
returns c = λ never_first program found.
    let trail = c.args.trail.now in
    let needed = c.in_ok-needed.needed.items in
    let kept = c.in_ok-lemmas.field-0 in
    let made = c.in_ok-hops.hops in
    let flags = subst (λ (ls : List Lemma). FlagHops needed (length ls) trail.hops) c.as_slice-lemmas.ensures (subst (λ (hs : List Hop). FlagHops needed (length c.as_slice-lemmas.result.now) hs) c.as_slice-hops.ensures c.in_ok-needed.ensures.hops) in
    let keeps = subst (λ (ls : List Lemma). Keeps ls needed kept.lemmas kept.ranks.items) c.as_slice-lemmas.ensures (subst (λ (fs : List Bool). Keeps c.as_slice-lemmas.result.now fs kept.lemmas kept.ranks.items) c.as_slice.ensures.value c.in_ok-lemmas.ensures) in
    let renumbers = subst (λ (hs : List Hop). Renumbers kept.ranks.items hs made) c.as_slice-hops.ensures (subst (λ (rs : List (Option ℕ)). Renumbers rs c.as_slice-hops.result.now made) c.as_slice-2.ensures.value c.in_ok-hops.ensures) in
    found-short never_first program trail needed kept.lemmas kept.ranks.items made flags keeps renumbers found
