-- A fault has an accepted trail, with no range twice.
use Rattle.std.proofs.Common.{◌≡◌, ◌==◌, ℕ, Bool, true, false, if◌then◌else◌, List, [], ◌∷◌, ◌++◌, Some, refl, ap, sym, ◌∙◌, subst, inl, inr, eq-eqb}
use Rattle.cob_tree.specs.declared.program.Range.{Range}
use Rattle.cob_tree.specs.declared.ending.FlowFault.{FlowFault}
use Rattle.program_points.specs.declared.paths.trail.Move.TheVariants.{Into}
use Rattle.program_points.specs.declared.paths.trail.Hop.{Hop}
use Rattle.program_points.specs.declared.paths.trail.Trail.{Trail}
use Rattle.control_flow_theory.specs.language.Language.{Chooser, Program}
use Rattle.program_points.specs.paths.Step.{is_paragraph}
use Rattle.program_points.specs.paths.Flow.{main_range, Pending, top_exit, is_among, ends_of, IsFaulty}
use Rattle.program_points.specs.paths.Levels.{Levels, bottom, called}
use Rattle.program_points.specs.paths.Accepted.{walk, Enter, Fault, Meets, LeadsTo, with_exit, HopsLead, BeginsInMain, lemma_ranges, hop_ranges, IsAccepted, IsIn, NoneTwice}
use Rattle.program_points.specs.paths.Laws.{EntersParagraphs}
use Rattle.program_points.proofs.paths_lemmas.Runs.{stands, exit-on-top}
use Rattle.program_points.proofs.paths_lemmas.Faults.{frees, apart, Apart}
use Rattle.program_points.proofs.paths_lemmas.Building.{Within, within-itself, within-through, Known, no-lemmas, built}

-- each range ends where none of these returns does
abbrev AllApart : List ℕ → List Range → Type 0
AllApart ends [] = Unit {0}
AllApart ends (range ∷ ranges) = ((exit : ℕ) × (range.exit ≡ Some exit) × (is_among exit ends ≡ false)) × AllApart ends ranges

not-here : (b c : Bool) → (if b then true else c) ≡ false → c ≡ false
not-here true c h = absurd (let k : ⊥ = cc in k)
not-here false c h = h

fewer-ends : (end : ℕ) (ends : List ℕ) (ranges : List Range) → AllApart (end ∷ ends) ranges → AllApart ends ranges
fewer-ends end ends [] all = tt
fewer-ends end ends (range ∷ ranges) all = ((all.0.0, all.0.1, not-here (end == all.0.0) (is_among all.0.0 ends) all.0.2), fewer-ends end ends ranges all.1)

top-is-among : (pending : List Pending) (exit : ℕ) → top_exit main_range pending ≡ Some exit → is_among exit (ends_of pending) ≡ false → ⊥
top-is-among [] exit e out = (let k : ⊥ = cc in k)
top-is-among (top ∷ others) exit e out =
    let same : top.end ≡ exit = cc in
    let among : is_among exit (ends_of (top ∷ others)) ≡ true = ap (λ b. if b then true else is_among exit (ends_of others)) (eq-eqb top.end exit same) in
    let both : true ≡ false = sym among ∙ out in
    (let k : ⊥ = cc in k)

not-again : (under : Range) (pending : List Pending) (ranges : List Range) → top_exit main_range pending ≡ under.exit → AllApart (ends_of pending) ranges → IsIn under ranges → ⊥
not-again under pending [] top all h = h
not-again under pending (range ∷ ranges) top all h =
    elim h [
      | inl same ↦ top-is-among pending all.0.0 (top ∙ ap (λ (r : Range). r.exit) (sym same) ∙ all.0.1) all.0.2
      | inr more ↦ not-again under pending ranges top all.1 more
    ]

module _ (never_first : Chooser → Bool) (program : Program) (main_is : is_paragraph program 0 ≡ true) (there : EntersParagraphs never_first program) (fault : FlowFault) where
  entry-is : (range : Range) (pending : List Pending) → Levels never_first program main_range range pending → is_paragraph program range.entry ≡ true
  entry-is range pending (bottom) = main_is
  entry-is range pending (called under others from after entry exit l c e) = there under from after entry exit c e

  abbrev Found : Type 0
  Found = (known : Known never_first program) × (hops : List Hop) × BeginsInMain never_first program (lemma_ranges known.lemmas) fault hops × NoneTwice (hop_ranges hops)

  -- from a hop down to main
  down : (range : Range) (pending : List Pending) → Levels never_first program main_range range pending → Apart (ends_of pending) →
      (known : Known never_first program) (hop : Hop) (hops : List Hop) → hop.range ≡ range →
      ((lemmas : List Range) → Within (lemma_ranges known.lemmas) lemmas → HopsLead never_first program lemmas fault (ends_of pending) hop hops) →
      AllApart (ends_of pending) (hop_ranges hops) → NoneTwice (hop_ranges (hop ∷ hops)) → Found
  down range pending (bottom) apart known hop hops same lead all once =
      (known, hop ∷ hops, (same, lead (lemma_ranges known.lemmas) (within-itself (lemma_ranges known.lemmas))), once)
  down range pending (called under others from after entry exit l c e) apart known hop hops same lead all once =
      let front = built never_first program there under from c known in
      let new : Hop = record { range = under; moves = front.moves ++ Into ∷ [] } in
      let ends = ends_of others in
      let leads : (lemmas : List Range) → Within (lemma_ranges front.known.lemmas) lemmas → HopsLead never_first program lemmas fault ends new (hop ∷ hops) =
      λ lemmas within.
      let first : LeadsTo never_first program lemmas under (Enter hop.range) (front.moves ++ Into ∷ []) = record {
        is_there = entry-is under others l;
        end = walk from (Into ∷ []);
        path = front.leads lemmas within (Into ∷ []);
        meets = subst (λ now. Meets (Enter hop.range) under now (Into ∷ [])) (sym e) (refl, same);
      } in (
        first,
        subst (λ es. HopsLead never_first program lemmas fault es hop hops) (ap (λ (r : Range). with_exit r.exit ends) (sym same))
            (lead lemmas (within-through (lemma_ranges known.lemmas) (lemma_ranges front.known.lemmas) lemmas front.within within)),
      ) in
      let allApart : AllApart ends (hop_ranges (hop ∷ hops)) = ((exit, ap (λ (r : Range). r.exit) same, apart.0), fewer-ends exit ends (hop_ranges hops) all) in
      down under others l apart.1 front.known new (hop ∷ hops) refl leads allApart
      (not-again under others (hop_ranges (hop ∷ hops)) (exit-on-top never_first program main_range under others l) allApart, once)

pub faulty-trail : (never_first : Chooser → Bool) (program : Program) → is_paragraph program 0 ≡ true → EntersParagraphs never_first program → IsFaulty never_first program →
    (trail : Trail) × IsAccepted never_first program trail × NoneTwice (lemma_ranges trail.lemmas) × NoneTwice (hop_ranges trail.hops)
faulty-trail never_first program main_is there faulty =
    let stand = stands never_first program main_range faulty.point faulty.pending (frees never_first program faulty.point faulty.pending faulty.path) in
    let last = built never_first program there stand.0 faulty.point stand.2 (no-lemmas never_first program) in
    let hop : Hop = record { range = stand.0; moves = last.moves ++ [] } in
    let ends = ends_of faulty.pending in
    let lead : (lemmas : List Range) → Within (lemma_ranges last.known.lemmas) lemmas → HopsLead never_first program lemmas faulty.fault ends hop [] =
    λ lemmas within.
    let first : LeadsTo never_first program lemmas stand.0 (Fault faulty.fault ends) (last.moves ++ []) = record {
      is_there = entry-is never_first program main_is there faulty.fault stand.0 faulty.pending stand.1;
      end = walk faulty.point [];
      path = last.leads lemmas within [];
      meets = (refl, faulty.meets);
    } in first in
    let found = down never_first program main_is there faulty.fault stand.0 faulty.pending stand.1 (apart never_first program faulty.point faulty.pending faulty.path) last.known hop [] refl lead tt (λ h. h, tt) in
    let trail : Trail = record { fault = faulty.fault; lemmas = found.0.lemmas; hops = found.1 } in
    (trail, record { lemmas = found.0.hold; hops = found.2 }, found.0.once, found.3)
