-- A program is faulty exactly where there is a clash.
use Rattle.std.proofs.Common.{◌≡◌, ◌==◌, ℕ, Bool, true, false, if◌then◌else◌, List, [], ◌∷◌, length, Option, Some, None, Result, Ok, Err, IfOk, MatchOption, slice_get, refl, ap, sym, ◌∙◌, subst, inl, inr, eqb-true, eq-eqb}
use Rattle.cob_base.specs.declared.memory.NoMemory.{NoMemory}
use Rattle.cob_tree.specs.declared.program.Range.{Range}
use Rattle.cob_tree.specs.declared.ending.FlowFault.{FlowFault}
use Rattle.cob_tree.specs.declared.ending.FlowFault.TheVariants.{Overlap, Reentry}
use Rattle.control_flow_theory.specs.language.Language.{Chooser, Program}
use Rattle.program_points.specs.paths.Step.{Point, Next, Ways, Calls, Stops, Ends, next}
use Rattle.program_points.specs.paths.Flow.{main_range, part, is_exit, Pending, returning, is_among, ends_of, fault_of, FreePath, IsFaulty, CallsIn, IsRange}
use Rattle.program_points.specs.paths.Levels.{Comes, Levels, bottom, called}
use Rattle.program_points.proofs.paths_lemmas.Runs.{stands, levels-run}
use Rattle.program_points.proofs.paths_lemmas.Faults.{frees, faulty}
use Rattle.pending_returns.specs.levels.Reach.{Holds}
use Rattle.pending_returns.proofs.levels_lemmas.Exact.{path-comes, comes-path}
use Rattle.pending_returns.specs.declared.facts.RangeFacts.{RangeFacts}
use Rattle.pending_returns.specs.declared.facts.Summary.{Summary}
use Rattle.pending_returns.specs.Summary.{IsSummary}
use Rattle.pending_returns.specs.Tabled.{CallsBelow}
use Rattle.pending_returns.specs.declared.faults.clash.Clash.{Clash}
use Rattle.pending_returns.specs.faults.Clash.{LeadsFrom, HasClash, NoClash}
use Rattle.pending_returns.specs.faults.Clash as clashing

still : (b c : Bool) → c ≡ true → (if b then true else c) ≡ true
still true c h = refl
still false c h = h

module _ (never_first : Chooser → Bool) (program : Program) where
  -- a range that some flow path performs has a level
  to-level : (range : Range) → IsRange never_first program range → (pending : List Pending) × Levels never_first program main_range range pending
  to-level range (inl same) = ([], subst (λ (r : Range). Levels never_first program main_range r []) (sym same) bottom)
  to-level range (inr p) =
      let s = stands never_first program main_range p.0 p.1 p.5 in
      (returning p.3 p.4 ∷ p.1, subst (λ (r : Range). Levels never_first program main_range r (returning p.3 p.4 ∷ p.1)) (sym p.7) (called s.0 p.1 p.0 p.4 p.2 p.3 s.1 s.2 p.6))

  -- the level's own end is pending
  own-end : (range : Range) (pending : List Pending) (end : ℕ) → Levels never_first program main_range range pending → range.exit ≡ Some end → is_among end (ends_of pending) ≡ true
  own-end range pending end (bottom) e = absurd (let k : ⊥ = cc in k)
  own-end range pending end (called under others from after entry exit l c n) e =
      let same : exit ≡ end = cc in
      ap (λ b. if b then true else is_among end (ends_of others)) (eq-eqb exit end same)

  -- an end that is pending below the level's own is an overlap
  overlaps : (range : Range) (pending : List Pending) (end : ℕ) → Levels never_first program main_range range pending → is_exit range.exit end ≡ false → is_among end (ends_of pending) ≡ true → fault_of (Ends end) (ends_of pending) ≡ Some (Overlap end)
  overlaps range pending end (bottom) out among = absurd (let k : ⊥ = cc in k)
  overlaps range pending end (called under others from after entry exit l c n) out among =
      let below : is_among end (ends_of others) ≡ true = sym (ap (λ b. if b then true else is_among end (ends_of others)) out) ∙ among in
      ap (λ b. if b then None else (if is_among end (ends_of others) then Some (Overlap end) else None)) out
      ∙ ap (λ b. if b then Some (Overlap end) else None) below

  -- and no other is
  is-overlap : (range : Range) (pending : List Pending) (paragraph : ℕ) (fault : FlowFault) → Levels never_first program main_range range pending → fault_of (Ends paragraph) (ends_of pending) ≡ Some fault → (is_among paragraph (ends_of pending) ≡ true) × (is_exit range.exit paragraph ≡ false)
  is-overlap range pending paragraph fault (bottom) e = absurd (let k : ⊥ = cc in k)
  is-overlap range pending paragraph fault (called under others from after entry exit l c n) e =
      (elim (exit == paragraph) as (λ b. (exit == paragraph) ≡ b → (if b then None else (if is_among paragraph (ends_of others) then Some (Overlap paragraph) else None)) ≡ Some fault → (is_among paragraph (ends_of (returning exit after ∷ others)) ≡ true) × ((exit == paragraph) ≡ false)) [
        | true ↦ λ s k. absurd (let m : ⊥ = cc in m)
        | false ↦ λ s k.
            (elim (is_among paragraph (ends_of others)) as (λ b. is_among paragraph (ends_of others) ≡ b → (if b then Some (Overlap paragraph) else None) ≡ Some fault → (is_among paragraph (ends_of (returning exit after ∷ others)) ≡ true) × ((exit == paragraph) ≡ false)) [
              | true ↦ λ among m. (still (exit == paragraph) (is_among paragraph (ends_of others)) among, s)
              | false ↦ λ among m. absurd (let o : ⊥ = cc in o)
            ]) refl k
      ]) refl e

  module _ (summary : Summary) (is : IsSummary never_first program summary) where
    performs : (number call : ℕ) (facts target : RangeFacts) → slice_get summary.ranges number ≡ Some facts → Holds facts.calls call → slice_get summary.ranges call ≡ Some target → CallsIn never_first program facts.range target.range
    performs number call facts target e has f = ((is.told number facts e).calls target.range).1 (call, has, (target, f, refl))

    -- where calls lead there are levels, with all ends that were pending
    deeper : (base number end : ℕ) (first : RangeFacts) (pending : List Pending) → slice_get summary.ranges base ≡ Some first → Levels never_first program main_range first.range pending → is_among end (ends_of pending) ≡ true → LeadsFrom summary.ranges base number →
        (facts : RangeFacts) → slice_get summary.ranges number ≡ Some facts → (more : List Pending) × Levels never_first program main_range facts.range more × (is_among end (ends_of more) ≡ true)
    deeper base number end first pending e l among (clashing.begins) facts f =
        let both : Some first ≡ Some facts = sym e ∙ f in
        let same : first ≡ facts = cc in
        (pending, subst (λ (x : RangeFacts). Levels never_first program main_range x.range pending) same l, among)
    deeper base number end first pending e l among (clashing.calls from to mid led m has) facts f =
        let below = deeper base from end first pending e l among led mid m in
        let c = performs from to mid facts m has f in
        let more : List Pending = returning c.2 c.3 ∷ below.0 in (
          more,
          subst (λ (r : Range). Levels never_first program main_range r more) (sym c.6) (called mid.range below.0 c.0 c.3 c.1 c.2 below.1 (path-comes never_first program mid.range c.0 c.4) c.5),
          still (c.2 == end) (is_among end (ends_of below.0)) below.2,
        )

    pub clash-faulty : (clash : Clash) → HasClash summary.ranges clash → IsFaulty never_first program
    clash-faulty clash h =
        let base = h.0 in
        let end = h.1 in
        let first = h.2 in
        let l = to-level first.range ((is.ranges first.range).1 (base, (first, h.3, refl))) in
        let facts = h.5.facts in
        let d = deeper base clash.last end first l.0 h.3 l.1 (own-end first.range l.0 end l.1 h.4) h.5.leads facts h.5.level in
        elim h.5.faults [
          | inl re ↦
              let c = performs clash.last re.1.0 facts re.1.1 h.5.level re.1.2 re.1.3 in
              let both : Some c.2 ≡ Some end = ap (λ (r : Range). r.exit) (sym c.6) ∙ re.1.4 in
              let same : c.2 ≡ end = cc in
              let among : is_among c.2 (ends_of d.0) ≡ true = subst (λ (n : ℕ). is_among n (ends_of d.0) ≡ true) (sym same) d.2 in
              faulty never_first program c.0 d.0 (Reentry c.2) (levels-run never_first program main_range facts.range d.0 d.1 c.0 (path-comes never_first program facts.range c.0 c.4))
              (subst (λ (n : Next). fault_of n (ends_of d.0) ≡ Some (Reentry c.2)) (sym c.5) (ap (λ b. if b then Some (Reentry c.2) else None) among))
          | inr ov ↦
              let p = ((is.told clash.last facts h.5.level).ends end).1 ov.1 in
              faulty never_first program p.0 d.0 (Overlap end) (levels-run never_first program main_range facts.range d.0 d.1 p.0 (path-comes never_first program facts.range p.0 p.1))
              (subst (λ (n : Next). fault_of n (ends_of d.0) ≡ Some (Overlap end)) (sym p.2) (overlaps facts.range d.0 end d.1 p.3 d.2))
        ]

    -- a range that ends there, from which calls lead to this one
    abbrev Under : ℕ → ℕ → Type 0
    Under number end = (base : ℕ) × (first : RangeFacts) × (slice_get summary.ranges base ≡ Some first) × (first.range.exit ≡ Some end) × LeadsFrom summary.ranges base number

    -- a level's range has a number, to which calls lead from each range that is pending
    record Numbered (range : Range) (pending : List Pending) : Type 0 where
      number : ℕ
      facts : RangeFacts
      there : slice_get summary.ranges number ≡ Some facts
      same : facts.range ≡ range
      under : (end : ℕ) → is_among end (ends_of pending) ≡ true → Under number end

    numbered : (range : Range) (pending : List Pending) → Levels never_first program main_range range pending → Numbered range pending
    numbered range pending (bottom) = record {
      number = 0;
      facts = is.main.0;
      there = is.main.1;
      same = is.main.2;
      under = λ end h. absurd (let k : ⊥ = cc in k);
    }
    numbered range pending (called under others from after entry exit l c n) =
        let below = numbered under others l in
        let in_level : CallsIn never_first program below.facts.range (part entry exit) = subst (λ (r : Range). CallsIn never_first program r (part entry exit)) (sym below.same) (from, entry, exit, after, comes-path never_first program under from c, n, refl) in
        let found = ((is.told below.number below.facts below.there).calls (part entry exit)).0 in_level in
        record {
          number = found.0;
          facts = found.2.0;
          there = found.2.1;
          same = found.2.2;
          under = λ end h.
              (elim (exit == end) as (λ b. (exit == end) ≡ b → (if b then true else is_among end (ends_of others)) ≡ true → Under found.0 end) [
                | true ↦ λ s k. (found.0, found.2.0, found.2.1, ap (λ (r : Range). r.exit) found.2.2 ∙ ap (λ (m : ℕ). Some m) (eqb-true exit end s), clashing.begins)
                | false ↦ λ s k. (let u = below.under end k in (u.0, u.1, u.2, u.3, clashing.calls below.number found.0 below.facts u.4 below.there found.1))
              ]) refl h;
        }

    judged : (now : Next) (range : Range) (point : Point) (pending : List Pending) (fault : FlowFault) → NoClash summary.ranges → Levels never_first program main_range range pending → Comes never_first program range point → next never_first program point ≡ now → fault_of now (ends_of pending) ≡ Some fault → ⊥
    judged (Ways ways) range point pending fault none l c n e = (let k : ⊥ = cc in k)
    judged (Calls entry exit after) range point pending fault none l c n e =
        (elim (is_among exit (ends_of pending)) as (λ b. is_among exit (ends_of pending) ≡ b → (if b then Some (Reentry exit) else None) ≡ Some fault → ⊥) [
          | true ↦ λ among k.
              let m = numbered range pending l in
              let u = m.under exit among in
              let in_level : CallsIn never_first program m.facts.range (part entry exit) = subst (λ (r : Range). CallsIn never_first program r (part entry exit)) (sym m.same) (point, entry, exit, after, comes-path never_first program range point c, n, refl) in
              let found = ((is.told m.number m.facts m.there).calls (part entry exit)).0 in_level in
              (none u.0 exit u.1 u.2 u.3 m.number m.facts u.4 m.there).0 (found.0, found.2.0, found.1, found.2.1, ap (λ (r : Range). r.exit) found.2.2)
          | false ↦ λ among k. (let o : ⊥ = cc in o)
        ]) refl e
    judged Stops range point pending fault none l c n e = (let k : ⊥ = cc in k)
    judged (Ends paragraph) range point pending fault none l c n e =
        let o = is-overlap range pending paragraph fault l e in
        let m = numbered range pending l in
        let u = m.under paragraph o.0 in
        let passed = ((is.told m.number m.facts m.there).ends paragraph).0 (point, subst (λ (r : Range). FreePath never_first program r point []) (sym m.same) (comes-path never_first program range point c), n, subst (λ (r : Range). is_exit r.exit paragraph ≡ false) (sym m.same) o.1) in
        (none u.0 paragraph u.1 u.2 u.3 m.number m.facts u.4 m.there).1 passed

    pub no-clash : NoClash summary.ranges → IsFaulty never_first program → ⊥
    no-clash none f =
        let s = stands never_first program main_range f.point f.pending (frees never_first program f.point f.pending f.path) in
        judged (next never_first program f.point) s.0 f.point f.pending f.fault none s.1 s.2 refl f.meets

    pub calls-below : (levels : List RangeFacts) → levels ≡ summary.ranges → CallsBelow (length levels) levels
    calls-below levels same = subst (λ (ls : List RangeFacts). CallsBelow (length ls) ls) (sym same) (λ number facts e call has. (is.told number facts e).calls_known call has)

pub on-found : (result : Result (Option Clash) NoMemory) (none one : Type 0) (some more : Clash → Type 0) → (none → one) → ((clash : Clash) → some clash → more clash) → IfOk result (λ found. MatchOption found none some) → IfOk result (λ found. MatchOption found one more)
on-found (Ok (Some clash)) none one some more f g h = g clash h
on-found (Ok None) none one some more f g h = f h
on-found (Err e) none one some more f g h = h
