-- From a summary with a clash to a trail.
use Rattle.std.proofs.Common.{◌≡◌, ◌==◌, ◌<◌, ◌≤◌, ℕ, zero, suc, Bool, true, false, ◌||◌, ◌&&◌, nat_lt, ltb-true, List, [], ◌∷◌, map, length, Option, Some, None, option_map, slice_get, refl, ap, sym, ◌∙◌, subst, ◌⊎◌, inl, inr, arith}
use Rattle.cob_tree.specs.declared.program.Range.{Range}
use Rattle.control_flow_theory.specs.language.Language.{Chooser, Program}
use Rattle.cob_tree.specs.declared.ending.FlowFault.{FlowFault}
use Rattle.program_points.specs.declared.paths.trail.Lemma.{Lemma}
use Rattle.program_points.specs.declared.paths.trail.Hop.{Hop}
use Rattle.program_points.specs.paths.Step.{Point, next}
use Rattle.program_points.specs.paths.Step as lang
use Rattle.program_points.specs.paths.Flow.{main_range, part, Pending, returning, CallsIn, EndsIn, IsRange}
use Rattle.program_points.specs.paths.Levels.{Levels, bottom, called}
use Rattle.program_points.specs.paths.Accepted.{NoneTwice}
use Rattle.program_points.proofs.paths_lemmas.Runs.{stands}
use Rattle.program_points.specs.declared.point_table.table.ProgramPoint.{ProgramPoint}
use Rattle.program_points.specs.declared.point_table.table.ProgramPoint.TheVariants.{Goes, Chooses, Calls, Stops, Ends}
use Rattle.program_points.specs.declared.point_table.table.Table.{Table}
use Rattle.program_points.specs.point_table.Table.{Describes, IsTable, ComesIn, IsClosed}
use Rattle.pending_returns.specs.levels.Reach.{Holds}
use Rattle.pending_returns.proofs.levels_lemmas.Exact.{path-comes, comes-path, found-in}
use Rattle.program_points.specs.perform_ranges.Named.{is_before, exit_before}
use Rattle.program_points.proofs.perform_ranges_lemmas.Ordered.{before-far}
use Rattle.pending_returns.specs.declared.facts.RangeFacts.{RangeFacts}
use Rattle.pending_returns.specs.declared.facts.Summary.{Summary}
use Rattle.pending_returns.specs.Summary.{IsSummary}
use Rattle.pending_returns.specs.faults.Clash.{LeadsFrom, FaultsAt}
use Rattle.pending_returns.specs.faults.Clash as clashing
use Rattle.pending_returns.proofs.faults_lemmas.Standing.{get-below, get-some, is-ends}
use Rattle.overlap_trail.specs.finding.Goal.{IsMetSomewhere}
use Rattle.overlap_trail.specs.finding.ReturnLemmas.{RangesOnce, Knows}
use Rattle.overlap_trail.specs.finding.Chain.{IsLevels, IsChain}
use Rattle.overlap_trail.specs.finding.Hops.{aim_before, aim_at, HopsCome}
use Rattle.overlap_trail.specs.finding.Finding.{IsFound}
use Rattle.overlap_trail.proofs.finding_lemmas.Getting.{same-some}
use Rattle.overlap_trail.proofs.finding_lemmas.Hopping.{begins-in-main, hops-ranges}

-- ranges in their order stand once

not-less : (n : ℕ) → n < n → ⊥
not-less n lt = omega (arith, lt)

both-true : (a b : Bool) → (a && b) ≡ true → (a ≡ true) × (b ≡ true)
both-true true b h = (refl, h)
both-true false b h = absurd (let k : ⊥ = cc in k)

one-true : (a b : Bool) → (a || b) ≡ true → (a ≡ true) ⊎ (b ≡ true)
one-true true b h = inl refl
one-true false b h = inr h

exit-not : (entry : ℕ) (exit : Option ℕ) → exit_before entry exit entry exit ≡ true → ⊥
exit-not entry None h = (let k : ⊥ = cc in k)
exit-not entry (Some exit) h = elim (one-true (nat_lt entry entry) (entry == entry && nat_lt exit exit) h) [
  | inl less ↦ not-less entry (ltb-true entry entry less)
  | inr same ↦ not-less exit (ltb-true exit exit (both-true (entry == entry) (nat_lt exit exit) same).1)
]

-- the range of what stands there
range-of : (levels : List RangeFacts) (at : ℕ) (range : Range) → slice_get (map (λ (f : RangeFacts). f.range) levels) at ≡ Some range → (facts : RangeFacts) × (facts.range ≡ range) × (slice_get levels at ≡ Some facts)
range-of [] at range e = absurd (let k : ⊥ = cc in k)
range-of (facts ∷ levels) zero range e = (facts, same-some facts.range range e, refl)
range-of (facts ∷ levels) (suc at) range e = range-of levels at range e

of-range : (levels : List RangeFacts) (at : ℕ) (facts : RangeFacts) → slice_get levels at ≡ Some facts → slice_get (map (λ (f : RangeFacts). f.range) levels) at ≡ Some facts.range
of-range [] at facts e = absurd (let k : ⊥ = cc in k)
of-range (other ∷ levels) zero facts e = (let k : other ≡ facts = same-some other facts e in ap (λ (f : RangeFacts). Some f.range) k)
of-range (other ∷ levels) (suc at) facts e = of-range levels at facts e

not-before : (range : Range) → is_before range range ≡ true → ⊥
not-before range h = exit-not range.entry range.exit h

apart-or : (ranges : List Range) (a b : ℕ) → (a ≡ b) ⊎ ((a < b) ⊎ (b < a))
apart-or ranges zero zero = inl refl
apart-or ranges zero (suc b) = inr (inl (omega arith))
apart-or ranges (suc a) zero = inr (inr (omega arith))
apart-or ranges (suc a) (suc b) = elim (apart-or ranges a b) [ inl same ↦ inl (ap (λ (n : ℕ). suc n) same) | inr other ↦ elim other [ inl less ↦ inr (inl (omega (arith, less))) | inr more ↦ inr (inr (omega (arith, more))) ] ]

pub rising-once : (ranges : List Range) → ((number : ℕ) (range next : Range) → slice_get ranges number ≡ Some range → slice_get ranges (suc number) ≡ Some next → is_before range next ≡ true) → RangesOnce ranges
rising-once ranges rising = λ a b range here there. elim (apart-or ranges a b) [
  | inl same ↦ same
  | inr other ↦ elim other [
    | inl less ↦ absurd (not-before range (before-far ranges rising a b range range less here there))
    | inr more ↦ absurd (not-before range (before-far ranges rising b a range range more there here))
  ]
]

module _ (never_first : Chooser → Bool) (program : Program) (summary : Summary) (is : IsSummary never_first program summary) where
  calls-in : (from to : ℕ) (facts target : RangeFacts) → slice_get summary.ranges from ≡ Some facts → Holds facts.calls to → slice_get summary.ranges to ≡ Some target → CallsIn never_first program facts.range target.range
  calls-in from to facts target e has f = ((is.told from facts e).calls target.range).1 (to, has, (target, f, refl))

  pub is-levels : (levels : List RangeFacts) → levels ≡ summary.ranges → IsLevels levels
  is-levels levels same = subst IsLevels (sym same) (record {
    called = λ from to facts call e.
        let c = calls-in from to call.0 facts call.1 call.2 e in
        (c.2, ap (λ (r : Range). r.exit) c.6);
    passed = λ number paragraph facts e has. (((is.told number facts e).ends paragraph).1 has).3;
    known = λ number facts e call has. (is.told number facts e).calls_known call has;
    main = get-below summary.ranges 0 is.main.0 is.main.1;
  })

  -- a range that some flow path performs has a level
  to-level : (range : Range) → IsRange never_first program range → (pending : List Pending) × Levels never_first program main_range range pending
  to-level range (inl same) = ([], subst (λ (r : Range). Levels never_first program main_range r []) (sym same) bottom)
  to-level range (inr p) =
      let s = stands never_first program main_range p.0 p.1 p.5 in
      (returning p.3 p.4 ∷ p.1, subst (λ (r : Range). Levels never_first program main_range r (returning p.3 p.4 ∷ p.1)) (sym p.7) (called s.0 p.1 p.0 p.4 p.2 p.3 s.1 s.2 p.6))

  -- to which calls lead from main
  record Led (range : Range) : Type 0 where
    number : ℕ
    facts : RangeFacts
    there : slice_get summary.ranges number ≡ Some facts
    same : facts.range ≡ range
    leads : LeadsFrom summary.ranges 0 number

  led : (range : Range) (pending : List Pending) → Levels never_first program main_range range pending → Led range
  led range pending (bottom) = record { number = 0; facts = is.main.0; there = is.main.1; same = is.main.2; leads = clashing.begins }
  led range pending (called under others from after entry exit l c n) =
      let below = led under others l in
      let in_level : CallsIn never_first program below.facts.range (part entry exit) = subst (λ (r : Range). CallsIn never_first program r (part entry exit)) (sym below.same) (from, entry, exit, after, comes-path never_first program under from c, n, refl) in
      let found = ((is.told below.number below.facts below.there).calls (part entry exit)).0 in_level in
      record {
        number = found.0;
        facts = found.2.0;
        there = found.2.1;
        same = found.2.2;
        leads = clashing.calls below.number found.0 below.facts below.leads below.there found.1;
      }

  summary-once : (a b : ℕ) (first second : RangeFacts) → slice_get summary.ranges a ≡ Some first → slice_get summary.ranges b ≡ Some second → first.range ≡ second.range → a ≡ b
  summary-once a b first second here there same =
      rising-once (map (λ (f : RangeFacts). f.range) summary.ranges)
      (λ number range next e f.
      let one = range-of summary.ranges number range e in
      let two = range-of summary.ranges (suc number) next f in
      ap (λ (r : Range). is_before r next) (sym one.1) ∙ ap (λ (r : Range). is_before one.0.range r) (sym two.1) ∙ is.rising number one.0 two.0 one.2 two.2)
      a b second.range (of-range summary.ranges a first here ∙ ap (λ (r : Range). Some r) same) (of-range summary.ranges b second there)

  pub leads-base : (base : ℕ) (facts : RangeFacts) → slice_get summary.ranges base ≡ Some facts → LeadsFrom summary.ranges 0 base
  leads-base base facts e =
      let level = to-level facts.range ((is.ranges facts.range).1 (base, (facts, e, refl))) in
      let l = led facts.range level.0 level.1 in
      subst (λ (n : ℕ). LeadsFrom summary.ranges 0 n) (summary-once l.number base l.facts facts l.there e l.same) l.leads

get-none : {A : Type 0} → (xs : List A) (at : ℕ) → slice_get xs at ≡ None → length xs ≤ at
get-none [] at e = omega arith
get-none (x ∷ xs) zero e = absurd (let k : ⊥ = cc in k)
get-none (x ∷ xs) (suc at) e = (let h : length xs ≤ at = get-none xs at e in omega (arith, h))

module _ (never_first : Chooser → Bool) (program : Program) (table : Table) (points : ℕ → Point) (is : IsTable never_first program table points) where
  found-call : (from : ℕ) (place : ProgramPoint) (entry exit : ℕ) (after : Point) → slice_get table.places from ≡ Some place → Describes table points place (next never_first program (points from)) → next never_first program (points from) ≡ lang.Calls entry exit after →
      (number : ℕ) × (to : ℕ) × (slice_get table.places from ≡ Some (Calls number to)) × (slice_get table.ranges number ≡ Some (part entry exit))
  found-call from (Goes j) entry exit after e d n = absurd (let k : lang.Ways (Some (points j) ∷ []) ≡ lang.Calls entry exit after = sym d.0 ∙ n in let l : ⊥ = cc in l)
  found-call from (Chooses js) entry exit after e d n = absurd (let k : lang.Ways (map (λ (way : Option ℕ). option_map points way) js) ≡ lang.Calls entry exit after = sym d.0 ∙ n in let l : ⊥ = cc in l)
  found-call from (Calls number to) entry exit after e d n =
      let k : lang.Calls d.0 d.1 (points to) ≡ lang.Calls entry exit after = sym d.2 ∙ n in
      let first : d.0 ≡ entry = cc in
      let second : d.1 ≡ exit = cc in
      (number, to, e, d.3 ∙ ap (λ (m : ℕ). Some (part m d.1)) first ∙ ap (λ (m : ℕ). Some (part entry m)) second)
  found-call from Stops entry exit after e d n = absurd (let k : lang.Stops ≡ lang.Calls entry exit after = sym d ∙ n in let l : ⊥ = cc in l)
  found-call from (Ends paragraph) entry exit after e d n = absurd (let k : lang.Ends paragraph ≡ lang.Calls entry exit after = sym d ∙ n in let l : ⊥ = cc in l)

  found-end : (from : ℕ) (place : ProgramPoint) (paragraph : ℕ) → slice_get table.places from ≡ Some place → Describes table points place (next never_first program (points from)) → next never_first program (points from) ≡ lang.Ends paragraph →
      slice_get table.places from ≡ Some (Ends paragraph)
  found-end from (Goes j) paragraph e d n = absurd (let k : lang.Ways (Some (points j) ∷ []) ≡ lang.Ends paragraph = sym d.0 ∙ n in let l : ⊥ = cc in l)
  found-end from (Chooses js) paragraph e d n = absurd (let k : lang.Ways (map (λ (way : Option ℕ). option_map points way) js) ≡ lang.Ends paragraph = sym d.0 ∙ n in let l : ⊥ = cc in l)
  found-end from (Calls number to) paragraph e d n = absurd (let k : lang.Calls d.0 d.1 (points to) ≡ lang.Ends paragraph = sym d.2 ∙ n in let l : ⊥ = cc in l)
  found-end from Stops paragraph e d n = absurd (let k : lang.Stops ≡ lang.Ends paragraph = sym d ∙ n in let l : ⊥ = cc in l)
  found-end from (Ends other) paragraph e d n = (let k : lang.Ends other ≡ lang.Ends paragraph = sym d ∙ n in let same : other ≡ paragraph = cc in e ∙ ap (λ (m : ℕ). Some (Ends m)) same)

  module _ (returns : List Bool) (closed : IsClosed table returns) (number : ℕ) (range : Range) (there : slice_get table.ranges number ≡ Some range) where
    calls-somewhere : (target : Range) → CallsIn never_first program range target → (place : ℕ) × (k : ℕ) × (after : ℕ) × ComesIn table returns range place × (slice_get table.places place ≡ Some (Calls k after)) × (slice_get table.ranges k ≡ Some target)
    calls-somewhere target calls =
        let f = found-in never_first program table points returns is closed range calls.0 (path-comes never_first program range calls.0 calls.4) number there in
        let place = get-some table.places f.0 f.3 in
        let call = found-call f.0 place.0 calls.1 calls.2 calls.3 place.1 (is.places f.0 place.0 place.1) (ap (λ p. next never_first program p) f.2 ∙ calls.5) in
        (f.0, call.0, call.1, f.1, call.2, call.3 ∙ ap (λ (r : Range). Some r) (sym calls.6))

    ends-somewhere : (paragraph : ℕ) → EndsIn never_first program range paragraph → (place : ℕ) × ComesIn table returns range place × (slice_get table.places place ≡ Some (Ends paragraph))
    ends-somewhere paragraph ends =
        let f = found-in never_first program table points returns is closed range ends.0 (path-comes never_first program range ends.0 ends.1) number there in
        let place = get-some table.places f.0 f.3 in
        let end = found-end f.0 place.0 paragraph place.1 (is.places f.0 place.0 place.1) (ap (λ p. next never_first program p) f.2 ∙ ends.2) in
        (f.0, f.1, end)

module _ (never_first : Chooser → Bool) (program : Program) (summary : Summary) (told : IsSummary never_first program summary) (table : Table) (points : ℕ → Point) (is : IsTable never_first program table points) (returns : List Bool) (closed : IsClosed table returns) (main : slice_get table.ranges 0 ≡ Some main_range) (ranges : List Range) (fault : FlowFault) (chain : IsChain summary.ranges ranges fault) where
  first-is-main : (range : Range) → slice_get ranges 0 ≡ Some range → range ≡ main_range
  first-is-main range e =
      let first = chain.first range e in
      let same : first.0 ≡ told.main.0 = same-some first.0 told.main.0 (sym first.1 ∙ told.main.1) in
      sym first.2 ∙ ap (λ (f : RangeFacts). f.range) same ∙ told.main.2

  next-called : (at : ℕ) (range later : Range) → slice_get ranges at ≡ Some range → slice_get ranges (suc at) ≡ Some later → CallsIn never_first program range later
  next-called at range later e f =
      let n = chain.nexts at range later e f in
      let call = n.4 in
      let from_is : call.0 ≡ n.2.0 = same-some call.0 n.2.0 (sym call.1 ∙ n.2.1) in
      let c = calls-in never_first program summary told n.0 n.1 call.0 n.3.0 call.1 call.2 n.3.1 in
      subst (λ (r : Range). CallsIn never_first program r later) (ap (λ (f : RangeFacts). f.range) from_is ∙ n.2.2)
      (subst (λ (r : Range). CallsIn never_first program call.0.range r) n.3.2 c)

  in-table : (at : ℕ) (range : Range) → slice_get ranges at ≡ Some range → (number : ℕ) × (slice_get table.ranges number ≡ Some range)
  in-table zero range e = (0, main ∙ ap (λ (r : Range). Some r) (sym (first-is-main range e)))
  in-table (suc at) range e =
      let before = get-some ranges at (let lt : suc at < length ranges = get-below ranges (suc at) range e in omega (arith, lt)) in
      let under = in-table at before.0 before.1 in
      let call = calls-somewhere never_first program table points is returns closed under.0 before.0 under.1 range (next-called at before.0 range before.1 e) in
      (call.1, call.5)

  last-met : (number : ℕ) (range : Range) → slice_get table.ranges number ≡ Some range → (facts : RangeFacts) (at end : ℕ) → slice_get summary.ranges at ≡ Some facts → facts.range ≡ range → FaultsAt summary.ranges facts end fault → IsMetSomewhere table returns range (aim_before None fault)
  last-met number range there facts at end e same (inl re) =
      let c = calls-in never_first program summary told at re.1.0 facts re.1.1 e re.1.2 re.1.3 in
      let call = calls-somewhere never_first program table points is returns closed number range there re.1.1.range (subst (λ (r : Range). CallsIn never_first program r re.1.1.range) same c) in
      subst (λ (f : FlowFault). IsMetSomewhere table returns range (aim_before None f)) (sym re.0)
      (call.0, Calls call.1 call.2, call.3, call.4, (re.1.1.range, call.5, is-ends re.1.1.range.exit end re.1.4))
  last-met number range there facts at end e same (inr ov) =
      let p = ((told.told at facts e).ends end).1 ov.1 in
      let place = ends-somewhere never_first program table points is returns closed number range there end (subst (λ (r : Range). EndsIn never_first program r end) same p) in
      subst (λ (f : FlowFault). IsMetSomewhere table returns range (aim_before None f)) (sym ov.0)
      (place.0, Ends end, place.1, place.2, refl)

  comes-before : (at : ℕ) (range : Range) (later : Option Range) → slice_get ranges at ≡ Some range → slice_get ranges (suc at) ≡ later → IsMetSomewhere table returns range (aim_before later fault)
  comes-before at range (Some later) e f =
      let here = in-table at range e in
      let call = calls-somewhere never_first program table points is returns closed here.0 range here.1 later (next-called at range later e f) in
      (call.0, Calls call.1 call.2, call.3, call.4, call.5)
  comes-before at range None e f =
      let here = in-table at range e in
      let whole : suc at ≡ length ranges = (let le : length ranges ≤ suc at = get-none ranges (suc at) f in let lt : at < length ranges = get-below ranges at range e in omega (arith, le, lt)) in
      let last = chain.last at range e whole in
      last-met here.0 range here.1 last.0 last.1 last.2 last.3 last.4 last.5

  -- each level comes to its aim
  pub all-come : (at : ℕ) (range : Range) → slice_get ranges at ≡ Some range → IsMetSomewhere table returns range (aim_at ranges fault at)
  all-come at range e = comes-before at range (slice_get ranges (suc at)) e refl

  pub is-found : (lemmas : List Lemma) (numbers : List (Option ℕ)) (hops : List Hop) → Knows table lemmas numbers → HopsCome table numbers ranges fault hops → IsFound never_first program (record { fault = fault; lemmas = lemmas; hops = hops })
  is-found lemmas numbers hops knows come =
      let first = get-some ranges 0 chain.begun in
      record {
        accepted = record {
          lemmas = knows.hold never_first program points is;
          hops = begins-in-main never_first program table points is lemmas numbers knows.numbered fault ranges hops come (first.1 ∙ ap (λ (r : Range). Some r) (first-is-main first.0 first.1))
              (λ at range e. (let t = in-table at range e in is.entries t.0 range t.1)) chain.faults;
        };
        lemmas_once = knows.once;
        hops_once = subst NoneTwice (sym (hops-ranges table numbers ranges fault hops come.size (λ at range hop e f. (come.each at range hop e f).0))) chain.once;
      }
