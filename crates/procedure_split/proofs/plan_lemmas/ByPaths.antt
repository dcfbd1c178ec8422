-- A source that isn't faulty is planned by its summary as flow paths ask.
use Rattle.std.proofs.Common.{◌≡◌, ◌<◌, ℕ, zero, suc, true, false, if◌then◌else◌, List, [], ◌∷◌, length, Some, None, slice_get, refl, ap, sym, ◌∙◌, subst, inl, inr, eqb-true, eq-eqb, arith}
use Rattle.std.specs.Prelude.{map, drop}
use Rattle.std.specs.Option.{option_map}
use Rattle.std.proofs.lemmas.Option.{slice_get-map, slice_get_within}
use Rattle.cob_tree.specs.declared.program.Range as tree
use Rattle.control_flow_theory.specs.language.Language.{Program, Range, Main, Part, Perform, same_range}
use Rattle.control_flow_theory.specs.language.Items.{Do}
use Rattle.control_flow_theory.proofs.semantics_lemmas.Ranges.{same-self, same-range, range-tells}
use Rattle.control_flow_theory.specs.lowering.FlowFacts.{FlowFacts, IsSource}
use Rattle.control_flow_theory.specs.lowering.flow.Entered.{FreelyComes, IsEntered}
use Rattle.control_flow_theory.specs.lowering.flow.Paths as theory
use Rattle.control_flow_theory.specs.lowering.flow.Called.{IsCalled}
use Rattle.control_flow_theory.specs.graph_rules.Walked.{is_in, In}
use Rattle.control_flow_theory.specs.main_theorem.Chain.{CallsStandLater}
use Rattle.control_flow_theory.specs.main_theorem.CallsReached.{GivesSome, CalledByPaths}
use Rattle.program_points.specs.paths.Step.{Point, at, Calls, next}
use Rattle.program_points.specs.paths.Flow.{main_range, part, Pending, FreePath, IsFaulty, CallsIn, ReturnsIn, IsRange}
use Rattle.program_points.specs.paths.Levels.{Comes, Levels, bottom, called}
use Rattle.program_points.proofs.paths_lemmas.Runs.{stands, levels-run}
use Rattle.pending_returns.specs.levels.Reach.{Holds}
use Rattle.pending_returns.proofs.levels_lemmas.Exact.{path-comes, comes-path}
use Rattle.program_points.specs.machine_paths.Uncounted.{uncounted, point_at, range_of}
use Rattle.program_points.proofs.machine_paths_lemmas.Ways.{next-calls, next-ends}
use Rattle.program_points.proofs.machine_paths_lemmas.SameLevels.{comes-here, comes-back}
use Rattle.program_points.proofs.machine_paths_lemmas.Lifting.{faulty-there}
use Rattle.pending_returns.specs.declared.facts.RangeFacts.{RangeFacts}
use Rattle.pending_returns.specs.declared.facts.Summary.{Summary}
use Rattle.pending_returns.specs.Summary.{IsSummary}
use Rattle.program_facts.specs.completion.FlowFacts.{returns_by}
use Rattle.out_names.specs.Ordering.{order_of}
use Rattle.procedure_split.specs.plan.Planned.{calls_of, or_main, range_at, IsPlanOf}
use Rattle.procedure_split.specs.plan.Ordered.{CalledStandLater, IsOrdered}
use Rattle.procedure_split.specs.plan.Ordered as order
use Rattle.procedure_split.specs.plan.Laws.{as_control, others_of, IsPlannedByPaths}
use Rattle.procedure_split.proofs.plan_lemmas.Entering.{entered-in, begins-below, entered-stands}
use Rattle.procedure_split.proofs.plan_lemmas.Ordering.{ordered}
use Rattle.procedure_split.proofs.plan_lemmas.Layers.{get-there, size-calls, calls-at, layered}
use Rattle.procedure_split.proofs.plan_lemmas.Apart.{one-number}
use Rattle.procedure_split.proofs.plan_lemmas.Numbers.{caller-first}

head-of : (ranges : List tree.Range) (first : tree.Range) → slice_get ranges 0 ≡ Some first → map as_control ranges ≡ as_control first ∷ map as_control (drop 1 ranges)
head-of [] first e = absurd (let k : ⊥ = cc in k)
head-of (range ∷ ranges) first e = (let same : range ≡ first = cc in ap (λ r. as_control r ∷ map as_control ranges) same)

module _ (told : FlowFacts) (program : Program) (source : IsSource told program) (some : GivesSome told) (fine : theory.HasFaultyRun told program → ⊥) (summary : Summary) (is : IsSummary told.never_first program summary) where
  abbrev ranges : List RangeFacts
  ranges = summary.ranges

  abbrev calls : List (List ℕ)
  calls = calls_of summary.ranges

  abbrev numbers : List ℕ
  numbers = order_of (calls_of summary.ranges)

  abbrev Faulty : Type 0
  Faulty = IsFaulty told.never_first program

  fine-here : Faulty → ⊥
  fine-here faulty = fine (faulty-there told program source some faulty)

  in-order : IsOrdered calls numbers
  in-order = ordered calls (layered told.never_first program summary is fine-here)

  abbrev named : ℕ → Range
  named number = as_control (range_at ranges number)

  abbrev all_named : List ℕ → List Range
  all_named ns = map as_control (map (range_at ranges) ns)

  range-is : (number : ℕ) (facts : RangeFacts) → slice_get ranges number ≡ Some facts → range_at ranges number ≡ facts.range
  range-is number facts e = ap or_main e

  facts-of : (number : ℕ) → number < length calls → (facts : RangeFacts) × (slice_get ranges number ≡ Some facts)
  facts-of number lt = get-there ranges number (let size = size-calls ranges in omega (arith, lt, size))

  -- a range of the summary is main's or a PERFORM's
  known : (number : ℕ) (facts : RangeFacts) → slice_get ranges number ≡ Some facts → range_of (as_control facts.range) ≡ facts.range
  known number facts e = elim ((is.ranges facts.range).1 (number, (facts, e, refl))) [
    | inl main ↦ ap (λ t. range_of (as_control t)) main ∙ sym main
    | inr p ↦ ap (λ t. range_of (as_control t)) p.7 ∙ sym p.7
  ]

  part-here : (number : ℕ) (facts : RangeFacts) (entry exit : ℕ) → slice_get ranges number ≡ Some facts → named number ≡ Part entry exit → facts.range ≡ part entry exit
  part-here number facts entry exit e same = sym (known number facts e) ∙ ap (λ t. range_of (as_control t)) (sym (range-is number facts e)) ∙ ap range_of same

  apart : (one other : ℕ) → one < length calls → other < length calls → named one ≡ named other → one ≡ other
  apart one other lt below same =
      let f = facts-of one lt in
      let g = facts-of other below in
      one-number ranges is.rising one other f.0 g.0 f.1 g.1
      (sym (known one f.0 f.1) ∙ ap (λ t. range_of (as_control t)) (sym (range-is one f.0 f.1)) ∙ ap range_of same ∙ ap (λ t. range_of (as_control t)) (range-is other g.0 g.1) ∙ known other g.0 g.1)

  calls-here : (number : ℕ) (facts : RangeFacts) (entry exit : ℕ) → slice_get ranges number ≡ Some facts → IsCalled told program (as_control facts.range) entry exit → CallsIn told.never_first program facts.range (part entry exit)
  calls-here number facts entry exit e c =
      let comes = comes-here told program source some (as_control facts.range) c.0 (Do (Perform entry exit) ∷ c.1) c.2 in
      let point : Point = point_at c.0 (Do (Perform entry exit) ∷ c.1) in
      (point, entry, exit, at c.0 (uncounted c.1), comes-path told.never_first program facts.range point (subst (λ t. Comes told.never_first program t point) (known number facts e) comes), refl, refl)

  calls-there : (range : Range) (base : tree.Range) (point after : Point) (entry exit : ℕ) → range_of range ≡ base → Comes told.never_first program base point → next told.never_first program point ≡ Calls entry exit after → IsCalled told program range entry exit
  calls-there range base point after entry exit same c e =
      let first = next-calls told.never_first program point.paragraph point.rest entry exit after e in
      let comes = comes-back told program source some range point (subst (λ t. Comes told.never_first program t point) (sym same) c) point.rest refl in
      (point.paragraph, first.0, subst (λ rest. FreelyComes told program range point.paragraph rest) first.1 comes)

  in-named : (ns : List ℕ) (number at : ℕ) → slice_get ns at ≡ Some number → In (named number) (all_named ns)
  in-named [] number at e = absurd (let k : ⊥ = cc in k)
  in-named (first ∷ ns) number zero e =
      let same : first ≡ number = cc in
      ap (λ t. if t then true else is_in (named number) (all_named ns)) (subst (λ n. same_range (named n) (named number) ≡ true) (sym same) (same-self (named number)))
  in-named (first ∷ ns) number (suc at) e =
      let below = in-named ns number at e in
      elim (same_range (named first) (named number)) as (λ t. (if t then true else is_in (named number) (all_named ns)) ≡ true) [ true ↦ refl | false ↦ below ]

  not-in : (ns : List ℕ) (number : ℕ) → ((other : ℕ) → Holds ns other → named other ≡ named number → ⊥) → is_in (named number) (all_named ns) ≡ false
  not-in [] number none = refl
  not-in (first ∷ ns) number none = elim (range-tells (named first) (named number)) [
    | inl same ↦ absurd (none first (0, refl) same.1)
    | inr far ↦ ap (λ t. if t then true else is_in (named number) (all_named ns)) far.0 ∙ not-in ns number (λ other h. none other (suc h.0, h.1))
  ]

  from-in : (ns : List ℕ) (range : Range) → In range (all_named ns) → (number : ℕ) × Holds ns number × (named number ≡ range)
  from-in [] range h = absurd (let k : ⊥ = cc in k)
  from-in (first ∷ ns) range h = (elim (same_range (named first) range) as (λ t. same_range (named first) range ≡ t → (if t then true else is_in range (all_named ns)) ≡ true → (number : ℕ) × Holds (first ∷ ns) number × (named number ≡ range)) [
    | true ↦ λ s e. (first, (0, refl), same-range (named first) range s)
    | false ↦ λ s e. (let f = from-in ns range e in (f.0, (suc f.1.0, f.1.1), f.2))
  ]) refl h

  get-named : (ns : List ℕ) (at : ℕ) (range : Range) → slice_get (all_named ns) at ≡ Some range → (number : ℕ) × (slice_get ns at ≡ Some number) × (named number ≡ range)
  get-named [] at range e = absurd (let k : ⊥ = cc in k)
  get-named (first ∷ ns) zero range e = (first, refl, let same : named first ≡ range = cc in same)
  get-named (first ∷ ns) (suc at) range e = get-named ns at range e

  named-get : (ns : List ℕ) (at number : ℕ) → slice_get ns at ≡ Some number → slice_get (all_named ns) at ≡ Some (named number)
  named-get [] at number e = absurd (let k : ⊥ = cc in k)
  named-get (first ∷ ns) zero number e = (let same : first ≡ number = cc in ap (λ n. Some (named n)) same)
  named-get (first ∷ ns) (suc at) number e = named-get ns at number e

  below-size : (number : ℕ) → number < length ranges → number < length calls
  below-size number lt = (let size = size-calls ranges in omega (arith, lt, size))

  later-of : (ns : List ℕ) → ((number : ℕ) → Holds ns number → number < length calls) → CalledStandLater calls ns → CallsStandLater told program (all_named ns)
  later-of [] below later = tt
  later-of (number ∷ ns) below later =
      let lt = below number (0, refl) in
      let f = facts-of number lt in (
        not-in ns number (λ other h same. later.0 (subst (λ n. Holds ns n) (apart other number (below other (suc h.0, h.1)) lt same) h)),
        λ entry exit c.
            let here = subst (λ t. IsCalled told program (as_control t) entry exit) (range-is number f.0 f.1) c in
            let found = ((is.told number f.0 f.1).calls (part entry exit)).0 (calls-here number f.0 entry exit f.1 here) in
            let inside = below-size found.0 ((is.told number f.0 f.1).calls_known found.0 found.1) in
            let behind = later.1 found.0 (f.0.calls, calls-at ranges number f.0 f.1, found.1) inside in
            subst (λ q. In q (all_named ns)) (ap as_control (range-is found.0 found.2.0 found.2.1 ∙ found.2.2)) (in-named ns found.0 behind.0 behind.1),
        later-of ns (λ other h. below other (suc h.0, h.1)) later.2,
      )

  -- each range of the order is performed
  abbrev Performs : ℕ → ℕ → Type 0
  Performs entry exit = (point : Point) × (pending : List Pending) × (after : Point) × FreePath told.never_first program main_range point pending × (next told.never_first program point ≡ Calls entry exit after)

  performs : (number : ℕ) (facts : RangeFacts) (entry exit : ℕ) → slice_get ranges number ≡ Some facts → facts.range ≡ part entry exit → Performs entry exit
  performs number facts entry exit e same = elim ((is.ranges facts.range).1 (number, (facts, e, refl))) [
    | inl main ↦
        let wrong : Some exit ≡ None = ap (λ (r : tree.Range). r.exit) (sym same ∙ main) in
        absurd (let k : ⊥ = cc in k)
    | inr p ↦
        let both : part p.2 p.3 ≡ part entry exit = sym p.7 ∙ same in
        let in_e : p.2 ≡ entry = ap (λ (r : tree.Range). r.entry) both in
        let ends : Some p.3 ≡ Some exit = ap (λ (r : tree.Range). r.exit) both in
        let in_x : p.3 ≡ exit = cc in
        (p.0, p.1, p.4, p.5, p.6 ∙ ap (λ n. Calls n p.3 p.4) in_e ∙ ap (λ n. Calls entry n p.4) in_x)
  ]

  level-known : (range : tree.Range) (pending : List Pending) → Levels told.never_first program main_range range pending → IsRange told.never_first program range
  level-known range pending (bottom) = inl refl
  level-known range pending (called under others from after entry exit l c n) = inr (from, others, entry, exit, after, levels-run told.never_first program main_range under others l from c, n, refl)

  called-of : CalledByPaths told program (all_named numbers)
  called-of place entry exit e past =
      let here = get-named numbers place (Part entry exit) e in
      let inside = in-order.below here.0 (place, here.1) in
      let f = facts-of here.0 inside in
      let same = part-here here.0 f.0 entry exit f.1 here.2 in
      let p = performs here.0 f.0 entry exit f.1 same in
      let s = stands told.never_first program main_range p.0 p.1 p.3 in
      let m = (is.ranges s.0).0 (level-known s.0 p.1 s.1) in
      let comes : Comes told.never_first program m.1.0.range p.0 = subst (λ t. Comes told.never_first program t p.0) (sym m.1.2) s.2 in
      let found = ((is.told m.0 m.1.0 m.1.1).calls (part entry exit)).0 (p.0, entry, exit, p.2, comes-path told.never_first program m.1.0.range p.0 comes, p.4, refl) in
      let is_it : found.0 ≡ here.0 = one-number ranges is.rising found.0 here.0 found.2.0 f.0 found.2.1 f.1 (found.2.2 ∙ sym same) in
      let call : order.Calls calls m.0 here.0 = (m.1.0.calls, calls-at ranges m.0 m.1.0 m.1.1, subst (λ n. Holds m.1.0.calls n) is_it found.1) in
      let position = in-order.all m.0 (below-size m.0 (slice_get_within ranges m.0 m.1.0 m.1.1)) in
      let back : range_of (named m.0) ≡ m.1.0.range = ap (λ t. range_of (as_control t)) (range-is m.0 m.1.0 m.1.1) ∙ known m.0 m.1.0 m.1.1 in (
        position.0,
        named m.0,
        caller-first calls numbers in-order.later m.0 here.0 call inside position.0 place position.1 here.1,
        named-get numbers position.0 m.0 position.1,
        calls-there (named m.0) m.1.0.range p.0 p.2 entry exit back comes p.4,
      )

  module _ (returning : List (List ℕ)) (stand : List tree.Range) (plan : IsPlanOf ranges returning stand) where
    names-of : (entry exit : ℕ) → In (Part entry exit) (all_named numbers) → FreelyComes told program (Part entry exit) exit [] → returns_by returning entry exit ≡ true
    names-of entry exit h c =
        let here = from-in numbers (Part entry exit) h in
        let f = facts-of here.0 (in-order.below here.0 here.1) in
        let same = part-here here.0 f.0 entry exit f.1 here.2 in
        let comes = comes-here told program source some (Part entry exit) exit [] c in
        let back : ReturnsIn told.never_first program (part entry exit) = (point_at exit [], exit, comes-path told.never_first program (part entry exit) (point_at exit []) comes, refl, eq-eqb exit exit refl) in
        let it_does = (is.told here.0 f.0 f.1).returns.1 (subst (λ t. ReturnsIn told.never_first program t) (sym same) back) in
        (plan.names entry exit).1 (here.0, f.0, f.1, it_does, same)

    exact-of : (entry exit : ℕ) → returns_by returning entry exit ≡ true → FreelyComes told program (Part entry exit) exit []
    exact-of entry exit h =
        let f = (plan.names entry exit).0 h in
        let b = subst (λ t. ReturnsIn told.never_first program t) f.4 ((is.told f.0 f.1 f.2).returns.0 f.3) in
        let last = next-ends told.never_first program b.0.paragraph b.0.rest b.1 b.3 in
        let ends : exit ≡ b.0.paragraph = eqb-true exit b.1 b.4 ∙ last.1 in
        let comes = comes-back told program source some (Part entry exit) b.0 (path-comes told.never_first program (part entry exit) b.0 b.2) [] (ap uncounted (sym last.0)) in
        subst (λ n. FreelyComes told program (Part entry exit) n []) (sym ends) comes

    main-of : map as_control stand ≡ Main ∷ others_of stand
    main-of =
        let first : slice_get stand 0 ≡ Some (range_at ranges 0) = ap (λ (rs : List tree.Range). slice_get rs 0) plan.stands ∙ slice_get-map (range_at ranges) numbers 0 ∙ ap (λ o. option_map (range_at ranges) o) in-order.first in
        head-of stand (range_at ranges 0) first ∙ ap (λ r. as_control r ∷ others_of stand) (range-is 0 is.main.0 is.main.1 ∙ is.main.2)

    whole : all_named numbers ≡ Main ∷ others_of stand
    whole = ap (λ (rs : List tree.Range). map as_control rs) (sym plan.stands) ∙ main-of

    calls-later : CallsStandLater told program (Main ∷ others_of stand)
    calls-later = subst (λ rs. CallsStandLater told program rs) whole (later-of numbers in-order.below in-order.later)

    called-before : CalledByPaths told program (Main ∷ others_of stand)
    called-before = subst (λ rs. CalledByPaths told program rs) whole called-of

    entered-of : (entry exit : ℕ) → In (Part entry exit) (Main ∷ others_of stand) → (entry < length program.paragraphs) × IsEntered told program (Part entry exit)
    entered-of entry exit h =
        let here = entered-in told program (others_of stand) called-before (Part entry exit) h in
        (begins-below told program source (Part entry exit) here, here)

    pub planned : IsPlannedByPaths told program returning stand
    planned = record {
      main = main-of;
      entered = entered-of;
      later = calls-later;
      called = called-before;
      names = λ entry exit is c. names-of entry exit (subst (λ rs. In (Part entry exit) rs) (sym whole) (entered-stands told program (others_of stand) calls-later (Part entry exit) is)) c;
      exact = exact-of;
    }
