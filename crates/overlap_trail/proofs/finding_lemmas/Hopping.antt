-- Hops along a chain lead to its fault.
use Rattle.std.proofs.Common.{◌≡◌, ◌+◌, ◌<◌, nat_lt, ltb-true, lt-ltb, arith, ℕ, suc, Bool, true, false, if◌then◌else◌, List, [], ◌∷◌, ◌++◌, length, Option, Some, None, slice_get, refl, ap, sym, ◌∙◌, subst, inl, inr, append-nil, eqb-true}
use Rattle.cob_tree.specs.declared.program.Range.{Range}
use Rattle.control_flow_theory.specs.language.Language.{Chooser, Program}
use Rattle.cob_tree.specs.declared.ending.FlowFault.{FlowFault}
use Rattle.cob_tree.specs.declared.ending.FlowFault.TheVariants.{Overlap, Reentry}
use Rattle.program_points.specs.declared.paths.trail.Move.{Move}
use Rattle.program_points.specs.declared.paths.trail.Move.TheVariants.{Into}
use Rattle.program_points.specs.declared.paths.trail.Lemma.{Lemma}
use Rattle.program_points.specs.declared.paths.trail.Hop.{Hop}
use Rattle.program_points.specs.paths.Step.{Point, Next, next, is_paragraph}
use Rattle.program_points.specs.paths.Step as lang
use Rattle.program_points.specs.paths.Flow.{main_range, part, is_exit, is_among, fault_of}
use Rattle.program_points.specs.paths.Accepted.{walk, LeadsTo, Meets, with_exit, HopsLead, BeginsInMain, lemma_ranges, hop_ranges}
use Rattle.program_points.specs.paths.Accepted as accepted
use Rattle.program_points.specs.declared.point_table.table.ProgramPoint.{ProgramPoint}
use Rattle.program_points.specs.declared.point_table.table.ProgramPoint.TheVariants.{Goes, Chooses, Calls, Stops, Ends}
use Rattle.program_points.specs.declared.point_table.table.Table.{Table}
use Rattle.program_points.specs.point_table.Table.{IsTable}
use Rattle.overlap_trail.specs.declared.finding.goal.SearchGoal.TheVariants.{Enter, Ending}
use Rattle.overlap_trail.specs.finding.Goal.{IsAimed, IsMetBy}
use Rattle.overlap_trail.specs.finding.ReturnLemmas.{Numbers}
use Rattle.overlap_trail.specs.finding.Chain.{ends_after, IsFaultAt}
use Rattle.overlap_trail.specs.finding.Hops.{aim_of, aim_at, into_of, IsHop, HopsCome}
use Rattle.pending_returns.proofs.faults_lemmas.Standing.{get-below, get-some}
use Rattle.overlap_trail.proofs.finding_lemmas.Getting.{get-split, same-some, longer}
use Rattle.overlap_trail.proofs.finding_lemmas.Leading.{leads}
use Rattle.overlap_trail.proofs.finding_lemmas.Knowing.{aimed-end}

aimed-enter : (table : Table) (range : Range) (here : ProgramPoint) → IsAimed table (Enter range) here → (called : ℕ) × (after : ℕ) × (here ≡ Calls called after) × (slice_get table.ranges called ≡ Some range)
aimed-enter table range (Goes to) met = absurd met
aimed-enter table range (Chooses ways) met = absurd met
aimed-enter table range (Calls called after) met = (called, after, refl, met)
aimed-enter table range Stops met = absurd met
aimed-enter table range (Ends paragraph) met = absurd met

aimed-ending : (table : Table) (end : ℕ) (here : ProgramPoint) → IsAimed table (Ending end) here → (called : ℕ) × (after : ℕ) × (range : Range) × (here ≡ Calls called after) × (slice_get table.ranges called ≡ Some range) × (is_exit range.exit end ≡ true)
aimed-ending table end (Goes to) met = absurd met
aimed-ending table end (Chooses ways) met = absurd met
aimed-ending table end (Calls called after) met = (called, after, met.0, refl, met.1, met.2)
aimed-ending table end Stops met = absurd met
aimed-ending table end (Ends paragraph) met = absurd met

module _ (never_first : Chooser → Bool) (program : Program) (table : Table) (points : ℕ → Point) (is : IsTable never_first program table points) (lemmas : List Lemma) (numbers : List (Option ℕ)) (numbered : Numbers table lemmas numbers) where
  -- what a place of the table performs
  performs : (place called after : ℕ) (here : ProgramPoint) (range : Range) → slice_get table.places place ≡ Some here → here ≡ Calls called after → slice_get table.ranges called ≡ Some range → (entry : ℕ) × (exit : ℕ) × (next never_first program (points place) ≡ lang.Calls entry exit (points after)) × (range ≡ part entry exit)
  performs place called after here range e same there =
      let d = is.places place (Calls called after) (e ∙ ap (λ (p : ProgramPoint). Some p) same) in
      let both : Some range ≡ Some (part d.0 d.1) = sym there ∙ d.3 in
      let equal : range ≡ part d.0 d.1 = cc in
      (d.0, d.1, d.2, equal)

  -- the fault at the place
  fault-is : (fault : FlowFault) (ends : List ℕ) (place : ℕ) (here : ProgramPoint) → slice_get table.places place ≡ Some here → IsAimed table (aim_of fault) here → IsFaultAt fault ends → fault_of (next never_first program (points place)) ends ≡ Some fault
  fault-is (Overlap end) ends place here e met fits =
      let now : next never_first program (points place) ≡ lang.Ends end = is.places place (Ends end) (e ∙ ap (λ (p : ProgramPoint). Some p) (aimed-end table end here met)) in
      ap (λ (n : Next). fault_of n ends) now ∙ fits
  fault-is (Reentry end) ends place here e met fits =
      let a = aimed-ending table end here met in
      let p = performs place a.0 a.1 here a.2 e a.3 a.4 in
      let out : is_exit (Some p.1) end ≡ true = ap (λ (r : Range). is_exit r.exit end) (sym p.3) ∙ a.5 in
      let same : p.1 ≡ end = eqb-true p.1 end out in
      ap (λ (n : Next). fault_of n ends) p.2
      ∙ ap (λ (n : ℕ). if is_among n ends then Some (Reentry n) else None) same
      ∙ ap (λ b. if b then Some (Reentry end) else None) fits

  module _ (range : Range) (there : is_paragraph program range.entry ≡ true) where
    last-leads : (fault : FlowFault) (ends : List ℕ) (hop : Hop) → hop.range ≡ range → IsHop table numbers range None fault hop → IsFaultAt fault ends → LeadsTo never_first program (lemma_ranges lemmas) hop.range (accepted.Fault fault ends) hop.moves
    last-leads fault ends hop same follows fits =
        let met = follows.1.2 in
        let moves = follows.1.0 in
        let path = leads never_first program table points is lemmas numbers range numbered met.0 moves met.2 [] in
        let to : LeadsTo never_first program (lemma_ranges lemmas) range (accepted.Fault fault ends) (moves ++ []) = record {
          is_there = there;
          end = walk (points met.0) [];
          path = path;
          meets = (refl, fault-is fault ends met.0 met.1 met.3 met.4 fits);
        } in
        subst (λ (r : Range). LeadsTo never_first program (lemma_ranges lemmas) r (accepted.Fault fault ends) hop.moves) (sym same)
        (subst (λ (ms : List Move). LeadsTo never_first program (lemma_ranges lemmas) range (accepted.Fault fault ends) ms) (sym follows.1.1) to)

    enter-leads : (fault : FlowFault) (later target : Range) (hop : Hop) → hop.range ≡ range → target ≡ later → IsHop table numbers range (Some later) fault hop → LeadsTo never_first program (lemma_ranges lemmas) hop.range (accepted.Enter target) hop.moves
    enter-leads fault later target hop same equal follows =
        let met = follows.1.2 in
        let moves = follows.1.0 in
        let a = aimed-enter table later met.1 met.4 in
        let p = performs met.0 a.0 a.1 met.1 later met.3 a.2 a.3 in
        let path = leads never_first program table points is lemmas numbers range numbered met.0 moves met.2 (Into ∷ []) in
        let to : LeadsTo never_first program (lemma_ranges lemmas) range (accepted.Enter target) (moves ++ Into ∷ []) = record {
          is_there = there;
          end = walk (points met.0) (Into ∷ []);
          path = path;
          meets = subst (λ (n : Next). Meets (accepted.Enter target) range n (Into ∷ [])) (sym p.2) (refl, equal ∙ p.3);
        } in
        subst (λ (r : Range). LeadsTo never_first program (lemma_ranges lemmas) r (accepted.Enter target) hop.moves) (sym same)
        (subst (λ (ms : List Move). LeadsTo never_first program (lemma_ranges lemmas) range (accepted.Enter target) ms) (sym follows.1.1) to)

  -- a hop follows each of the ranges
  abbrev Hops : FlowFault → List Range → List Hop → Type 0
  Hops fault ranges hops = (at : ℕ) (range : Range) (hop : Hop) → slice_get ranges at ≡ Some range → slice_get hops at ≡ Some hop → IsHop table numbers range (slice_get ranges (suc at)) fault hop

  abbrev AreThere : List Range → Type 0
  AreThere ranges = (at : ℕ) (range : Range) → slice_get ranges at ≡ Some range → is_paragraph program range.entry ≡ true

  hops-lead : (fault : FlowFault) (ends : List ℕ) (range : Range) (ranges : List Range) (hop : Hop) (hops : List Hop) → length hops ≡ length ranges → Hops fault (range ∷ ranges) (hop ∷ hops) → AreThere (range ∷ ranges) → IsFaultAt fault (ends_after ends ranges) →
      HopsLead never_first program (lemma_ranges lemmas) fault ends hop hops
  hops-lead fault ends range [] hop [] size follow there fits =
      let one = follow 0 range hop refl refl in
      last-leads range (there 0 range refl) fault ends hop one.0 one fits
  hops-lead fault ends range [] hop (other ∷ hops) size follow there fits = absurd (let k : ⊥ = cc in k)
  hops-lead fault ends range (later ∷ ranges) hop [] size follow there fits = absurd (let k : ⊥ = cc in k)
  hops-lead fault ends range (later ∷ ranges) hop (other ∷ hops) size follow there fits =
      let one = follow 0 range hop refl refl in
      let two = follow 1 later other refl refl in
      let less : length hops ≡ length ranges = cc in
      let same : other.range ≡ later = two.0 in (
        enter-leads range (there 0 range refl) fault later other.range hop one.0 same one,
        hops-lead fault (with_exit other.range.exit ends) later ranges other hops less
            (λ at r h e f. follow (suc at) r h e f) (λ at r e. there (suc at) r e)
            (subst (λ (r : Range). IsFaultAt fault (ends_after (with_exit r.exit ends) ranges)) (sym same) fits),
      )

  -- from main
  pub begins-in-main : (fault : FlowFault) (ranges : List Range) (hops : List Hop) → HopsCome table numbers ranges fault hops → slice_get ranges 0 ≡ Some main_range → AreThere ranges → IsFaultAt fault (ends_after [] ranges) → BeginsInMain never_first program (lemma_ranges lemmas) fault hops
  begins-in-main fault [] hops come first there fits = absurd (let k : ⊥ = cc in k)
  begins-in-main fault (range ∷ ranges) [] come first there fits = absurd (let e = come.size in let k : ⊥ = cc in k)
  begins-in-main fault (range ∷ ranges) (hop ∷ hops) come first there fits =
      let main : range ≡ main_range = cc in
      let one = come.each 0 range hop refl refl in
      let less : length hops ≡ length ranges = (let e = come.size in cc) in (
        one.0 ∙ main,
        hops-lead fault [] range ranges hop hops less come.each there
            (subst (λ (r : Range). IsFaultAt fault (ends_after (with_exit r.exit []) ranges)) main fits),
      )

-- the ranges of the hops are those of the chain
pub hops-ranges : (table : Table) (numbers : List (Option ℕ)) (ranges : List Range) (fault : FlowFault) (hops : List Hop) → length hops ≡ length ranges → ((at : ℕ) (range : Range) (hop : Hop) → slice_get ranges at ≡ Some range → slice_get hops at ≡ Some hop → hop.range ≡ range) → hop_ranges hops ≡ ranges
hops-ranges table numbers [] fault [] size each = refl
hops-ranges table numbers [] fault (hop ∷ hops) size each = absurd (let k : ⊥ = cc in k)
hops-ranges table numbers (range ∷ ranges) fault [] size each = absurd (let k : ⊥ = cc in k)
hops-ranges table numbers (range ∷ ranges) fault (hop ∷ hops) size each =
    let less : length hops ≡ length ranges = cc in
    ap (λ (r : Range). r ∷ hop_ranges hops) (each 0 range hop refl refl)
    ∙ ap (λ (rs : List Range). range ∷ rs) (hops-ranges table numbers ranges fault hops less (λ at r h e f. each (suc at) r h e f))

-- the hops so far
pub record HopsSoFar (table : Table) (numbers : List (Option ℕ)) (ranges : List Range) (fault : FlowFault) (hops : List Hop) (number : ℕ) : Type 0 where
  pub size : length hops ≡ number
  pub each : (at : ℕ) (range : Range) (hop : Hop) → slice_get ranges at ≡ Some range → slice_get hops at ≡ Some hop → IsHop table numbers range (slice_get ranges (suc at)) fault hop

into-is : (ranges : List Range) (number count : ℕ) (found made : List Move) → count ≡ length ranges → (nat_lt (number + 1) count ≡ true → made ≡ found ++ Into ∷ []) → (nat_lt (number + 1) count ≡ false → made ≡ found) → (later : Option Range) → slice_get ranges (suc number) ≡ later → made ≡ found ++ into_of later
into-is ranges number count found made size on off (Some later) e =
    on (lt-ltb (number + 1) count (let lt : suc number < length ranges = get-below ranges (suc number) later e in omega (arith, lt, size)))
into-is ranges number count found made size on off None e =
    (elim (nat_lt (number + 1) count) as (λ b. nat_lt (number + 1) count ≡ b → made ≡ found ++ []) [
      | true ↦ λ less. absurd (
          let lt : number + 1 < count = ltb-true (number + 1) count less in
          let there = get-some ranges (suc number) (omega (arith, lt, size)) in
          let both : Some there.0 ≡ None = sym there.1 ∙ e in
          (let k : ⊥ = cc in k))
      | false ↦ λ more. off more ∙ sym (append-nil found)
    ]) refl

pub hops-more : (table : Table) (numbers : List (Option ℕ)) (ranges : List Range) (fault : FlowFault) (hops later : List Hop) (number count : ℕ) (range : Range) (found made : List Move) → count ≡ length ranges → slice_get ranges number ≡ Some range → IsMetBy table numbers range (aim_at ranges fault number) found →
    (nat_lt (number + 1) count ≡ true → made ≡ found ++ Into ∷ []) → (nat_lt (number + 1) count ≡ false → made ≡ found) → later ≡ hops ++ record { range = range; moves = made } ∷ [] → HopsSoFar table numbers ranges fault hops number → HopsSoFar table numbers ranges fault later (number + 1)
hops-more table numbers ranges fault hops later number count range found made size here met on off is so_far =
    let new : Hop = record { range = range; moves = made } in
    subst (λ (hs : List Hop). HopsSoFar table numbers ranges fault hs (number + 1)) (sym is) (record {
      size = longer hops new ∙ ap (λ (n : ℕ). n + 1) so_far.size;
      each = λ at other hop e f. elim (get-split hops new at hop f) [
        | inl old ↦ so_far.each at other hop e old
        | inr last ↦
            let now : number ≡ at = sym so_far.size ∙ sym last.0 in
            let same : range ≡ other = same-some range other (sym here ∙ ap (λ (n : ℕ). slice_get ranges n) now ∙ e) in
            let one : IsHop table numbers range (slice_get ranges (suc number)) fault new = (refl, (found, into-is ranges number count found made size on off (slice_get ranges (suc number)) refl, met)) in
            subst (λ (h : Hop). IsHop table numbers other (slice_get ranges (suc at)) fault h) last.1
            (subst (λ (n : ℕ). IsHop table numbers other (slice_get ranges (suc n)) fault new) now
            (subst (λ (r : Range). IsHop table numbers r (slice_get ranges (suc number)) fault new) same one))
      ];
    })
