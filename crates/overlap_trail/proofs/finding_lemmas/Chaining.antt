-- Chains along calls.
use Rattle.std.proofs.Common.{◌≡◌, ◌==◌, ◌+◌, ◌<◌, ◌≤◌, ℕ, zero, suc, Bool, true, false, if◌then◌else◌, List, [], ◌∷◌, ◌++◌, length, ◌-◌, Option, Some, None, slice_get, refl, ap, sym, ◌∙◌, subst, inl, inr, arith, eq-eqb}
use Rattle.cob_tree.specs.declared.program.Range.{Range}
use Rattle.cob_tree.specs.declared.ending.FlowFault.{FlowFault}
use Rattle.cob_tree.specs.declared.ending.FlowFault.TheVariants.{Overlap, Reentry}
use Rattle.program_points.specs.paths.Step.{Ends}
use Rattle.program_points.specs.paths.Flow.{is_exit, is_among, fault_of}
use Rattle.program_points.specs.paths.Accepted.{with_exit, IsIn, NoneTwice}
use Rattle.pending_returns.specs.levels.Reach.{Holds}
use Rattle.pending_returns.proofs.levels_lemmas.Searching.{before-or-now}
use Rattle.pending_returns.specs.declared.facts.RangeFacts.{RangeFacts}
use Rattle.pending_returns.specs.Tabled.{CallsBelow}
use Rattle.pending_returns.specs.faults.Clash.{FaultsAt}
use Rattle.pending_returns.proofs.faults_lemmas.Standing.{get-below, get-some}
use Rattle.overlap_trail.specs.declared.finding.search.Predecessor.{Predecessor}
use Rattle.overlap_trail.specs.finding.Chain.{CallsTo, TracesCalls, Along, stays, calls_on, WentTo, none, more, EndsAmong, IsLevels, ends_after, IsFaultAt, IsAt, IsChain, IsWay}
use Rattle.overlap_trail.proofs.finding_lemmas.Getting.{get-front, get-last, same-some, longer}
use Rattle.overlap_trail.proofs.finding_lemmas.Standing.{at-in}
use Rattle.overlap_trail.proofs.finding_lemmas.Knowing.{once-append}

module _ (levels : List RangeFacts) where
  -- ways of calls

  along-snoc : (from via to : ℕ) (path : List ℕ) → Along levels from path via → CallsTo levels via to → Along levels from (path ++ to ∷ []) to
  along-snoc from via to path (stays f) call = calls_on from to to [] call (stays to)
  along-snoc from via to path (calls_on f next last rest first way) call = calls_on from next to (rest ++ to ∷ []) first (along-snoc next via to rest way call)

  pub along-append : (from via to : ℕ) (path rest : List ℕ) → Along levels from path via → Along levels via rest to → Along levels from (path ++ rest) to
  along-append from via to path rest (stays f) way = way
  along-append from via to path rest (calls_on f next last others first onward) way = calls_on from next to (others ++ rest) first (along-append next via to others rest onward way)

  pub went-along : (base : ℕ) (places : List ℕ) (came : List Predecessor) → TracesCalls levels base places came → (at : ℕ) (path : List ℕ) → WentTo came places at path → (place : ℕ) → slice_get places at ≡ Some place → Along levels base path place
  went-along base places came traces at path (none) place e = subst (λ (n : ℕ). Along levels base [] n) (sym (traces.first place e)) (stays base)
  went-along base places came traces at path (more index here how before lt e f rest) place g =
      let same : here ≡ place = same-some here place (sym e ∙ g) in
      let from = traces.later index here how lt e f in
      subst (λ (n : ℕ). Along levels base (before ++ here ∷ []) n) same
      (along-snoc base from.0 here before (went-along base places came traces how.before before rest from.0 from.2) from.3)

  pub along-next : (from to : ℕ) (path : List ℕ) → Along levels from path to → (at a b : ℕ) → slice_get (from ∷ path) at ≡ Some a → slice_get (from ∷ path) (suc at) ≡ Some b → CallsTo levels a b
  along-next from to path (stays f) at a b e h = absurd (let k : ⊥ = cc in k)
  along-next from to path (calls_on f via last rest call way) zero a b e h =
      let first : from ≡ a = same-some from a e in
      let second : via ≡ b = same-some via b h in
      subst (λ (n : ℕ). CallsTo levels n b) first (subst (λ (n : ℕ). CallsTo levels from n) second call)
  along-next from to path (calls_on f via last rest call way) (suc at) a b e h = along-next via to rest way at a b e h

  pub along-last : (from to : ℕ) (path : List ℕ) → Along levels from path to → slice_get (from ∷ path) (length path) ≡ Some to
  along-last from to path (stays f) = refl
  along-last from to path (calls_on f via last rest call way) = along-last via to rest way

  -- each of them is one of the levels
  pub along-known : CallsBelow (length levels) levels → (from to : ℕ) (path : List ℕ) → Along levels from path to → from < length levels → (number : ℕ) → Holds (from ∷ path) number → number < length levels
  along-known known from to path way lt number (zero, e) = (let same : from ≡ number = same-some from number e in omega (arith, same, lt))
  along-known known from to path (stays f) lt number (suc at, e) = absurd (let k : ⊥ = cc in k)
  along-known known from to path (calls_on f via last rest call way) lt number (suc at, e) = along-known known via to rest way (known from call.0 call.1 via call.2) number (at, e)

  -- main, and what is behind it on a way over the base to the level that does the fault
  pub is-way : (base last end : ℕ) (front back : List ℕ) (fault : FlowFault) (facts ending : RangeFacts) → Along levels 0 front base → Along levels base back last → slice_get levels last ≡ Some facts → FaultsAt levels facts end fault → slice_get levels base ≡ Some ending → ending.range.exit ≡ Some end →
      IsWay levels (0 ∷ (front ++ back)) base end fault
  is-way base last end front back fault facts ending first second there faults at_base ends =
      let way = along-append 0 base last front back first second in
      record {
        begun = refl;
        nexts = λ at a b e h. along-next 0 last (front ++ back) way at a b e h;
        last = λ at number e same.
            let whole : at ≡ length (front ++ back) = (let k : at ≡ length (front ++ back) = cc in k) in
            let is : number ≡ last = same-some number last (sym e ∙ ap (λ (n : ℕ). slice_get (0 ∷ (front ++ back)) n) whole ∙ along-last 0 last (front ++ back) way) in
            (facts, ap (λ (n : ℕ). slice_get levels n) is ∙ there, faults);
        passes = (length front, get-front (0 ∷ front) back (length front) base (along-last 0 base front first));
        ending = (ending, at_base, ends);
      }

-- ends of ranges

still : (b c : Bool) → c ≡ true → (if b then true else c) ≡ true
still true c h = refl
still false c h = h

with-kept : (exit : Option ℕ) (ends : List ℕ) (end : ℕ) → is_among end ends ≡ true → is_among end (with_exit exit ends) ≡ true
with-kept None ends end h = h
with-kept (Some exit) ends end h = still (exit == end) (is_among end ends) h

among-kept : (ends : List ℕ) (ranges : List Range) (end : ℕ) → is_among end ends ≡ true → is_among end (ends_after ends ranges) ≡ true
among-kept ends [] end h = h
among-kept ends (range ∷ ranges) end h = among-kept (with_exit range.exit ends) ranges end (with-kept range.exit ends end h)

pub among-after : (ends : List ℕ) (ranges : List Range) (range : Range) (end : ℕ) → IsIn range ranges → range.exit ≡ Some end → is_among end (ends_after ends ranges) ≡ true
among-after ends [] range end h e = absurd h
among-after ends (other ∷ ranges) range end (inl same) e =
    among-kept (with_exit other.exit ends) ranges end
    (ap (λ (o : Option ℕ). is_among end (with_exit o ends)) (ap (λ (r : Range). r.exit) same ∙ e) ∙ ap (λ b. if b then true else is_among end ends) (eq-eqb end end refl))
among-after ends (other ∷ ranges) range end (inr rest) e = among-after (with_exit other.exit ends) ranges range end rest e

-- an end that is pending below the level's own
overlap-with : (exit : Option ℕ) (ends : List ℕ) (end : ℕ) → is_exit exit end ≡ false → is_among end (with_exit exit ends) ≡ true → (exit ≡ None → ends ≡ []) → fault_of (Ends end) (with_exit exit ends) ≡ Some (Overlap end)
overlap-with None ends end out among alone = absurd (let h : is_among end [] ≡ true = subst (λ (es : List ℕ). is_among end es ≡ true) (alone refl) among in let k : ⊥ = cc in k)
overlap-with (Some exit) ends end out among alone =
    let below : is_among end ends ≡ true = sym (ap (λ b. if b then true else is_among end ends) out) ∙ among in
    ap (λ b. if b then None else (if is_among end ends then Some (Overlap end) else None)) out
    ∙ ap (λ b. if b then Some (Overlap end) else None) below

overlap-after : (ends : List ℕ) (range last : Range) (ranges : List Range) (end : ℕ) → slice_get (range ∷ ranges) (length ranges) ≡ Some last → is_exit last.exit end ≡ false → is_among end (ends_after ends (range ∷ ranges)) ≡ true → (range.exit ≡ None → ends ≡ []) →
    ((at : ℕ) (other : Range) → slice_get ranges at ≡ Some other → (exit : ℕ) × (other.exit ≡ Some exit)) → fault_of (Ends end) (ends_after ends (range ∷ ranges)) ≡ Some (Overlap end)
overlap-after ends range last [] end e out among alone all =
    let same : range ≡ last = same-some range last e in
    overlap-with range.exit ends end (ap (λ (r : Range). is_exit r.exit end) same ∙ out) among alone
overlap-after ends range last (later ∷ ranges) end e out among alone all =
    overlap-after (with_exit range.exit ends) later last ranges end e out among
    (λ missing. absurd (let x = all 0 later refl in let both : Some x.0 ≡ None = sym x.1 ∙ missing in let k : ⊥ = cc in k))
    (λ at other h. all (suc at) other h)

pub overlap-last : (ranges : List Range) (at : ℕ) (last : Range) (end : ℕ) → slice_get ranges at ≡ Some last → suc at ≡ length ranges → is_exit last.exit end ≡ false → is_among end (ends_after [] ranges) ≡ true →
    ((at : ℕ) (other : Range) → slice_get ranges (suc at) ≡ Some other → (exit : ℕ) × (other.exit ≡ Some exit)) → fault_of (Ends end) (ends_after [] ranges) ≡ Some (Overlap end)
overlap-last [] at last end e whole out among all = absurd (let k : ⊥ = cc in k)
overlap-last (range ∷ ranges) at last end e whole out among all =
    let same : at ≡ length ranges = cc in
    overlap-after [] range last ranges end (ap (λ (n : ℕ). slice_get (range ∷ ranges) n) (sym same) ∙ e) out among (λ missing. refl) all

some-in : (ranges : List Range) (range : Range) → IsIn range ranges → 0 < length ranges
some-in [] range h = absurd h
some-in (other ∷ ranges) range h = omega arith

-- the ranges of the first numbers of a path
pub record CutSoFar (levels : List RangeFacts) (path : List ℕ) (at : ℕ) (ranges : List Range) : Type 0 where
  pub size : length ranges ≡ at
  pub each : (index number : ℕ) → index < at → slice_get path index ≡ Some number → (facts : RangeFacts) × (slice_get levels number ≡ Some facts) × (slice_get ranges index ≡ Some facts.range)
  pub once : NoneTwice ranges

pub cut-none : (levels : List RangeFacts) (path : List ℕ) (ranges : List Range) → ranges ≡ [] → CutSoFar levels path 0 ranges
cut-none levels path ranges is = record {
  size = ap (λ (rs : List Range). length rs) is;
  each = λ index number lt e. absurd (omega arith);
  once = subst NoneTwice (sym is) tt;
}

module _ (levels : List RangeFacts) (path : List ℕ) (base end : ℕ) (fault : FlowFault) (is : IsLevels levels) (way : IsWay levels path base end fault) where
  -- all but the first have ends
  ended : (at number : ℕ) (facts : RangeFacts) → slice_get path (suc at) ≡ Some number → slice_get levels number ≡ Some facts → (exit : ℕ) × (facts.range.exit ≡ Some exit)
  ended at number facts e f =
      let before = get-some path at (let lt : suc at < length path = get-below path (suc at) number e in omega (arith, lt)) in
      is.called before.0 number facts (way.nexts at before.0 number before.1 e) f

  not-yet : (at number : ℕ) (facts : RangeFacts) (ranges : List Range) → length ranges ≡ at → slice_get path at ≡ Some number → slice_get levels number ≡ Some facts → ((exit : ℕ) → facts.range.exit ≡ Some exit → EndsAmong ranges exit → ⊥) → IsIn facts.range ranges → ⊥
  not-yet zero number facts [] size e f free h = h
  not-yet zero number facts (range ∷ ranges) size e f free h = (let k : ⊥ = cc in k)
  not-yet (suc at) number facts ranges size e f free h =
      let x = ended at number facts e f in
      free x.0 x.1 (facts.range, h, x.1)

  pub cut-more : (at number : ℕ) (facts : RangeFacts) (ranges later : List Range) → slice_get path at ≡ Some number → slice_get levels number ≡ Some facts → ((exit : ℕ) → facts.range.exit ≡ Some exit → EndsAmong ranges exit → ⊥) → later ≡ ranges ++ facts.range ∷ [] → CutSoFar levels path at ranges → CutSoFar levels path (at + 1) later
  cut-more at number facts ranges later e f free is_later so_far = subst (λ (rs : List Range). CutSoFar levels path (at + 1) rs) (sym is_later) (record {
    size = longer ranges facts.range ∙ ap (λ (n : ℕ). n + 1) so_far.size;
    each = λ index other lt h. elim (before-or-now index at lt) [
      | inl less ↦ (let was = so_far.each index other less h in (was.0, was.1, get-front ranges (facts.range ∷ []) index was.0.range was.2))
      | inr now ↦
          let same : number ≡ other = same-some number other (sym e ∙ ap (λ (n : ℕ). slice_get path n) (sym now) ∙ h) in
          let place : length ranges ≡ index = so_far.size ∙ sym now in
          (facts, ap (λ (n : ℕ). slice_get levels n) (sym same) ∙ f, subst (λ (n : ℕ). slice_get (ranges ++ facts.range ∷ []) n ≡ Some facts.range) place (get-last ranges facts.range))
    ];
    once = once-append ranges facts.range so_far.once (not-yet at number facts ranges so_far.size e f free);
  })

  module _ (at : ℕ) (ranges : List Range) (so_far : CutSoFar levels path at ranges) (within : at ≤ length path) where
    -- the range with this number, and its number in the path
    at-number : (index : ℕ) (range : Range) → slice_get ranges index ≡ Some range → (number : ℕ) × (facts : RangeFacts) × (slice_get path index ≡ Some number) × (slice_get levels number ≡ Some facts) × (facts.range ≡ range)
    at-number index range e =
        let inside : index < length ranges = get-below ranges index range e in
        let there = get-some path index (let s = so_far.size in omega (arith, inside, s, within)) in
        let each = so_far.each index there.0 (let s = so_far.size in omega (arith, inside, s)) there.1 in
        (there.0, each.0, there.1, each.1, same-some each.0.range range (sym each.2 ∙ e))

    all-end : (index : ℕ) (range : Range) → slice_get ranges (suc index) ≡ Some range → (exit : ℕ) × (range.exit ≡ Some exit)
    all-end index range e =
        let n = at-number (suc index) range e in
        let x = ended index n.0 n.1 n.2 n.3 in
        (x.0, ap (λ (r : Range). r.exit) (sym n.4) ∙ x.1)

    chain-nexts : (index : ℕ) (range next : Range) → slice_get ranges index ≡ Some range → slice_get ranges (suc index) ≡ Some next → (from : ℕ) × (to : ℕ) × IsAt levels from range × IsAt levels to next × CallsTo levels from to
    chain-nexts index range next e h =
        let n = at-number index range e in
        let m = at-number (suc index) next h in
        (n.0, m.0, (n.1, n.3, n.4), (m.1, m.3, m.4), way.nexts index n.0 m.0 n.2 m.2)

    chain-first : (range : Range) → slice_get ranges 0 ≡ Some range → IsAt levels 0 range
    chain-first range e =
        let n = at-number 0 range e in
        let same : n.0 ≡ 0 = same-some n.0 0 (sym n.2 ∙ way.begun) in
        (n.1, ap (λ (k : ℕ). slice_get levels k) (sym same) ∙ n.3, n.4)

    not-empty : (exit : ℕ) → EndsAmong ranges exit → 0 < length ranges
    not-empty exit h = some-in ranges h.0 h.1

    -- a range is performed that ends where one of these does
    pub cut-ended : (number exit : ℕ) (facts : RangeFacts) → slice_get path at ≡ Some number → slice_get levels number ≡ Some facts → facts.range.exit ≡ Some exit → EndsAmong ranges exit → IsChain levels ranges (Reentry exit)
    cut-ended number exit facts e f x among = record {
      begun = not-empty exit among;
      first = chain-first;
      nexts = chain-nexts;
      last = λ index range h whole.
          let n = at-number index range h in
          let same : suc index ≡ at = whole ∙ so_far.size in
          let call = way.nexts index n.0 number n.2 (ap (λ (k : ℕ). slice_get path k) same ∙ e) in
          let equal : call.0 ≡ n.1 = same-some call.0 n.1 (sym call.1 ∙ n.3) in
          (n.1, n.0, exit, n.3, n.4, inl (refl, (number, facts, subst (λ (r : RangeFacts). Holds r.calls number) equal call.2, f, x)));
      faults = among-after [] ranges among.0 exit among.1 among.2;
      once = so_far.once;
    }

    fault-at : (index : ℕ) (last : Range) (number : ℕ) (facts : RangeFacts) → slice_get ranges index ≡ Some last → suc index ≡ length ranges → slice_get levels number ≡ Some facts → facts.range ≡ last → FaultsAt levels facts end fault → is_among end (ends_after [] ranges) ≡ true → IsFaultAt fault (ends_after [] ranges)
    fault-at index last number facts e whole f same (inl re) pending = subst (λ (x : FlowFault). IsFaultAt x (ends_after [] ranges)) (sym re.0) pending
    fault-at index last number facts e whole f same (inr ov) pending =
        subst (λ (x : FlowFault). IsFaultAt x (ends_after [] ranges)) (sym ov.0)
        (overlap-last ranges index last end e whole (ap (λ (r : Range). is_exit r.exit end) (sym same) ∙ is.passed number end facts f ov.1) pending all-end)

    pub cut-whole : length path ≤ at → IsChain levels ranges fault
    cut-whole le =
        let whole : length ranges ≡ length path = (let s = so_far.size in omega (arith, s, le, within)) in
        let passed = way.passes in
        let lt : passed.0 < at = (let less : passed.0 < length path = get-below path passed.0 base passed.1 in omega (arith, less, le)) in
        let there = so_far.each passed.0 base lt passed.1 in
        let same : there.0 ≡ way.ending.0 = same-some there.0 way.ending.0 (sym there.1 ∙ way.ending.1) in
        let among : EndsAmong ranges end = (there.0.range, at-in there.0.range ranges passed.0 there.2, ap (λ (r : RangeFacts). r.range.exit) same ∙ way.ending.2) in
        let pending : is_among end (ends_after [] ranges) ≡ true = among-after [] ranges among.0 end among.1 among.2 in
        let last_at = get-some ranges (length ranges - 1) (let s = not-empty end among in omega (arith, s)) in
        let last_end : suc (length ranges - 1) ≡ length ranges = (let s = not-empty end among in omega (arith, s)) in
        let last_is = at-number (length ranges - 1) last_at.0 last_at.1 in
        let last = way.last (length ranges - 1) last_is.0 last_is.2 (last_end ∙ whole) in
        let last_same : last.0.range ≡ last_at.0 = (let k : last.0 ≡ last_is.1 = same-some last.0 last_is.1 (sym last.1 ∙ last_is.3) in ap (λ (r : RangeFacts). r.range) k ∙ last_is.4) in
        record {
          begun = not-empty end among;
          first = chain-first;
          nexts = chain-nexts;
          last = λ index range h w.
              let n = at-number index range h in
              let l = way.last index n.0 n.2 (w ∙ whole) in
              let k : l.0 ≡ n.1 = same-some l.0 n.1 (sym l.1 ∙ n.3) in
              (l.0, n.0, end, l.1, ap (λ (r : RangeFacts). r.range) k ∙ n.4, l.2);
          faults = fault-at (length ranges - 1) last_at.0 last_is.0 last.0 last_at.1 last_end last.1 last_same last.2 pending;
          once = so_far.once;
        }
