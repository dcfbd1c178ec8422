-- A table's summary is the program's.
use Rattle.std.proofs.Common.{◌≡◌, ◌<◌, ◌≤◌, ◌↔◌, ℕ, zero, suc, Bool, true, List, length, Some, slice_get, refl, ap, sym, ◌∙◌, subst, ◌⊎◌, inl, inr, arith}
use Rattle.cob_tree.specs.declared.program.Range.{Range}
use Rattle.control_flow_theory.specs.language.Language.{Chooser, Program}
use Rattle.program_points.specs.paths.Step.{Point}
use Rattle.program_points.specs.paths.Flow.{main_range, CallsIn, EndsIn, ReturnsIn, IsRange, IsReached}
use Rattle.program_points.specs.declared.point_table.table.Table.{Table}
use Rattle.program_points.specs.point_table.Table.{IsTable, IsTidy, IsSound, IsClosed}
use Rattle.pending_returns.specs.levels.Reach.{Holds, SaysSoundly}
use Rattle.pending_returns.proofs.levels_lemmas.Exact.{returns-found, calls-found, calls-true, ends-found, ends-true}
use Rattle.program_points.specs.perform_ranges.Named.{is_before}
use Rattle.program_points.proofs.perform_ranges_lemmas.Ordered.{before-far}
use Rattle.pending_returns.specs.declared.facts.RangeFacts.{RangeFacts}
use Rattle.pending_returns.specs.declared.facts.Summary.{Summary}
use Rattle.pending_returns.specs.Summary.{Rises, IsNumber, Tells, IsSummary}
use Rattle.pending_returns.specs.Tabled.{Lists, TellsLevels, LeadsTo, Ranks, IsRenumbered, KeepsFacts, MarksLevels, RangesRise, SummarisesTable}
use Rattle.pending_returns.specs.Tabled as tabled
use Rattle.pending_returns.proofs.Getting.{get-below, get-some}
use Rattle.pending_returns.proofs.Flags.{rises-far}
use Rattle.pending_returns.proofs.Performed.{range-led, led-range, reached-owner, owner-reached}

less-or-not : (a b : ℕ) → (a < b) ⊎ (b ≤ a)
less-or-not zero zero = inr (omega arith)
less-or-not zero (suc b) = inl (omega arith)
less-or-not (suc a) zero = inr (omega arith)
less-or-not (suc a) (suc b) = elim (less-or-not a b) [ inl lt ↦ inl (omega arith) | inr le ↦ inr (omega arith) ]

-- what became of a range to which calls lead
pub record Remade (table : Table) (levels : List RangeFacts) (kept ranks : List ℕ) (made : List RangeFacts) (number : ℕ) (range : Range) : Type 0 where
  pub at : ℕ
  pub here : slice_get kept at ≡ Some number
  pub facts : RangeFacts
  pub level : slice_get levels number ≡ Some facts
  pub new : RangeFacts
  pub is : slice_get made at ≡ Some new
  pub renumbered : IsRenumbered ranks facts new
  pub same : facts.range ≡ range
  pub stands : slice_get table.ranges number ≡ Some range

module _ (table : Table) (returns : List Bool) (levels : List RangeFacts) (flags : List Bool) (kept ranks : List ℕ) (made : List RangeFacts) (told : TellsLevels table returns levels) (led : (number : ℕ) → slice_get flags number ≡ Some true ↔ LeadsTo levels number) (lists : Lists flags kept)
    (ranked : Ranks kept ranks) (keeps : KeepsFacts levels kept ranks made) where
  led-kept : (number : ℕ) → LeadsTo levels number → Holds kept number
  led-kept number l = (lists.on number).0 ((led number).1 l)

  kept-led : (number : ℕ) → Holds kept number → LeadsTo levels number
  kept-led number h = (led number).0 ((lists.on number).1 h)

  abbrev Made : ℕ → Range → Type 0
  Made number range = Remade table levels kept ranks made number range

  made-of : (number at : ℕ) → slice_get kept at ≡ Some number → (range : Range) × Made number range
  made-of number at here =
      let each = keeps.each at number here in
      (each.0.range, record { at = at; here = here; facts = each.0; level = each.2; new = each.1; is = each.3; renumbered = each.4; same = refl; stands = (told.each number each.0 each.2).0 })

  made-led : (number : ℕ) (range : Range) → LeadsTo levels number → slice_get table.ranges number ≡ Some range → Made number range
  made-led number range l e =
      let h = led-kept number l in
      let m = made-of number h.0 h.1 in
      let both : Some m.0 ≡ Some range = sym m.1.stands ∙ e in
      let same : m.0 ≡ range = cc in
      subst (λ (r : Range). Made number r) same m.1

  made-number : (number : ℕ) (range : Range) (m : Made number range) → IsNumber made m.at range
  made-number number range m = (m.new, m.is, m.renumbered.range ∙ m.same)

  -- what stands among the facts that were made
  made-at : (at : ℕ) (new : RangeFacts) → slice_get made at ≡ Some new → (number : ℕ) × (slice_get kept at ≡ Some number)
  made-at at new e = get-some kept at (let less : at < length made = get-below made at new e in omega (arith, less, keeps.size))

  first-kept : slice_get kept 0 ≡ Some 0
  first-kept =
      let h = led-kept 0 tabled.begins in
      elim (less-or-not 0 h.0) [
        | inl later ↦
            let first = get-some kept 0 (let less : h.0 < length kept = get-below kept h.0 0 h.1 in omega (arith, less)) in
            absurd (let small : first.0 < 0 = rises-far kept lists.rises 0 h.0 first.0 0 later first.1 h.1 in omega (arith, small))
        | inr now ↦ (let same : h.0 ≡ 0 = omega (arith, now) in ap (λ (n : ℕ). slice_get kept n) (sym same) ∙ h.1)
      ]

  pub main-made : slice_get table.ranges 0 ≡ Some main_range → IsNumber made 0 main_range
  unfolding made-of
  main-made main =
      let m = made-of 0 0 first-kept in
      let both : Some m.0 ≡ Some main_range = sym m.1.stands ∙ main in
      let same : m.0 ≡ main_range = cc in
      (m.1.new, m.1.is, m.1.renumbered.range ∙ m.1.same ∙ same)

  pub made-rising : RangesRise table.ranges → (at : ℕ) (facts next : RangeFacts) → slice_get made at ≡ Some facts → slice_get made (suc at) ≡ Some next → is_before facts.range next.range ≡ true
  unfolding made-of
  made-rising rise at facts next e f =
      let a = made-at at facts e in
      let b = made-at (suc at) next f in
      let m = made-of a.0 at a.1 in
      let n = made-of b.0 (suc at) b.1 in
      let both : Some m.1.new ≡ Some facts = sym m.1.is ∙ e in
      let same : m.1.new ≡ facts = cc in
      let two : Some n.1.new ≡ Some next = sym n.1.is ∙ f in
      let eq : n.1.new ≡ next = cc in
      let first : facts.range ≡ m.0 = ap (λ (x : RangeFacts). x.range) (sym same) ∙ m.1.renumbered.range ∙ m.1.same in
      let second : next.range ≡ n.0 = ap (λ (x : RangeFacts). x.range) (sym eq) ∙ n.1.renumbered.range ∙ n.1.same in
      ap (λ (r : Range). is_before r next.range) first ∙ ap (λ (r : Range). is_before m.0 r) second
      ∙ before-far table.ranges rise a.0 b.0 m.0 n.0 (lists.rises at a.0 b.0 a.1 b.1) m.1.stands n.1.stands

  -- a level performs what leads on
  called-led : (number range_number : ℕ) (facts : RangeFacts) → LeadsTo levels number → slice_get levels number ≡ Some facts → Holds facts.calls range_number → LeadsTo levels range_number
  called-led number range_number facts l e h = tabled.calls number range_number facts l e h

  -- the calls of facts that were made
  made-call : (number : ℕ) (range : Range) (m : Made number range) → (at call : ℕ) → slice_get m.facts.calls at ≡ Some call → (called : Range) × (c : Made call called) × (slice_get m.new.calls at ≡ Some c.at)
  unfolding made-of
  made-call number range m at call e =
      let l = called-led number call m.facts (kept-led number (m.at, m.here)) m.level (at, e) in
      let h = led-kept call l in
      let c = made-of call h.0 h.1 in
      (c.0, c.1, m.renumbered.calls.each at call e ∙ ranked h.0 call h.1)

  call-made : (number : ℕ) (range : Range) (m : Made number range) → (at new_call : ℕ) → slice_get m.new.calls at ≡ Some new_call → (call : ℕ) × (slice_get m.facts.calls at ≡ Some call)
  call-made number range m at new_call e = get-some m.facts.calls at (let less : at < length m.new.calls = get-below m.new.calls at new_call e in omega (arith, less, m.renumbered.calls.size))

  calls-rise : (number : ℕ) (range : Range) (m : Made number range) → Rises m.facts.calls → Rises m.new.calls
  calls-rise number range m rises = λ at one next e f.
      let a = call-made number range m at one e in
      let b = call-made number range m (suc at) next f in
      let c = made-call number range m at a.0 a.1 in
      let d = made-call number range m (suc at) b.0 b.1 in
      let both : Some c.1.at ≡ Some one = sym c.2 ∙ e in
      let first : c.1.at ≡ one = cc in
      let two : Some d.1.at ≡ Some next = sym d.2 ∙ f in
      let second : d.1.at ≡ next = cc in
      let up : a.0 < b.0 = rises at a.0 b.0 a.1 b.1 in
      elim (less-or-not c.1.at d.1.at) [
        | inl less ↦ omega (arith, less, first, second)
        | inr not_less ↦ absurd (elim (less-or-not d.1.at c.1.at) [
          | inl down ↦ (let back : b.0 < a.0 = rises-far kept lists.rises d.1.at c.1.at b.0 a.0 down d.1.here c.1.here in omega (arith, back, up))
          | inr same ↦
              let one_place : c.1.at ≡ d.1.at = omega (arith, not_less, same) in
              let equal : Some a.0 ≡ Some b.0 = sym c.1.here ∙ ap (λ (n : ℕ). slice_get kept n) one_place ∙ d.1.here in
              let eq : a.0 ≡ b.0 = cc in
              omega (arith, eq, up)
        ])
      ]

  module _ (never_first : Chooser → Bool) (program : Program) (points : ℕ → Point) (is : IsTable never_first program table points) (sound : IsSound never_first program table returns) (closed : IsClosed table returns) where
    tells : (number : ℕ) (range : Range) (m : Made number range) → Tells never_first program made m.new
    tells number range m =
        let each = told.each number m.facts m.level in
        let level = each.2 in
        let old = m.facts.range in
        let same : m.new.range ≡ old = m.renumbered.range in
        let back : (slice_get returns number ≡ Some m.new.returns) = each.1 ∙ ap (λ (b : Bool). Some b) (sym m.renumbered.returns) in
        record {
          returns = (
            λ e. subst (λ (r : Range). ReturnsIn never_first program r) (sym same) (sound number old each.0 (back ∙ ap (λ (b : Bool). Some b) e)),
            λ r.
                let e : slice_get returns number ≡ Some true = returns-found never_first program table points returns is closed number old each.0 (subst (λ (x : Range). ReturnsIn never_first program x) same r) in
                let both : Some m.new.returns ≡ Some true = sym back ∙ e in
                let eq : m.new.returns ≡ true = cc in
                eq,
          );
          calls = λ target. (
            λ c.
                let found = calls-found never_first program table points returns is sound closed number old each.0 level.places level.reach target (subst (λ (x : Range). CallsIn never_first program x target) same c) in
                let h = (level.calls_are found.0).0 found.2 in
                let made_call = made-call number range m h.0 found.0 h.1 in
                let both : Some made_call.0 ≡ Some target = sym made_call.1.stands ∙ found.1 in
                let eq : made_call.0 ≡ target = cc in
                (made_call.1.at, (h.0, made_call.2), subst (λ (r : Range). IsNumber made made_call.1.at r) eq (made-number found.0 made_call.0 made_call.1)),
            λ n.
                let a = call-made number range m n.1.0 n.0 n.1.1 in
                let made_call = made-call number range m n.1.0 a.0 a.1 in
                let both : Some made_call.1.at ≡ Some n.0 = sym made_call.2 ∙ n.1.1 in
                let eq : made_call.1.at ≡ n.0 = cc in
                let facts_both : Some made_call.1.new ≡ Some n.2.0 = sym made_call.1.is ∙ ap (λ (k : ℕ). slice_get made k) eq ∙ n.2.1 in
                let facts_same : made_call.1.new ≡ n.2.0 = cc in
                let range_same : made_call.0 ≡ target = sym (made_call.1.renumbered.range ∙ made_call.1.same) ∙ ap (λ (x : RangeFacts). x.range) facts_same ∙ n.2.2 in
                subst (λ (x : Range). CallsIn never_first program x target) (sym same)
                (calls-true never_first program table points returns is sound closed number old each.0 level.places level.reach a.0 target (made_call.1.stands ∙ ap (λ (r : Range). Some r) range_same) ((level.calls_are a.0).1 (n.1.0, a.1))),
          );
          calls_known = λ n has.
              let a = call-made number range m has.0 n has.1 in
              let made_call = made-call number range m has.0 a.0 a.1 in
              let both : Some made_call.1.at ≡ Some n = sym made_call.2 ∙ has.1 in
              let eq : made_call.1.at ≡ n = cc in
              let less : made_call.1.at < length made = get-below made made_call.1.at made_call.1.new made_call.1.is in
              omega (arith, eq, less);
          calls_rise = calls-rise number range m level.calls_rise;
          ends = λ paragraph. (
            λ e. subst (λ (ns : List ℕ). Holds ns paragraph) (sym m.renumbered.ends) ((level.ends_are paragraph).0 (ends-found never_first program table points returns is sound closed number old each.0 level.places level.reach paragraph (subst (λ (x : Range). EndsIn never_first program x paragraph) same e))),
            λ h. subst (λ (x : Range). EndsIn never_first program x paragraph) (sym same) (ends-true never_first program table points returns is sound closed number old each.0 level.places level.reach paragraph ((level.ends_are paragraph).1 (subst (λ (ns : List ℕ). Holds ns paragraph) m.renumbered.ends h))),
          );
          ends_rise = subst (λ (ns : List ℕ). Rises ns) (sym m.renumbered.ends) level.ends_rise;
        }

    pub made-told : (at : ℕ) (new : RangeFacts) → slice_get made at ≡ Some new → Tells never_first program made new
    unfolding made-of
    made-told at new e =
        let a = made-at at new e in
        let m = made-of a.0 at a.1 in
        let both : Some m.1.new ≡ Some new = sym m.1.is ∙ e in
        let same : m.1.new ≡ new = cc in
        subst (λ (f : RangeFacts). Tells never_first program made f) same (tells a.0 m.0 m.1)

    pub made-ranges : slice_get table.ranges 0 ≡ Some main_range → (range : Range) → IsRange never_first program range ↔ ((number : ℕ) × IsNumber made number range)
    unfolding made-of
    made-ranges main range = (
      λ performed.
          let r = range-led never_first program table points returns is sound closed levels told main range performed in
          let m = made-led r.0 range r.1 r.2 in
          (m.at, made-number r.0 range m),
      λ n.
          let a = made-at n.0 n.1.0 n.1.1 in
          let m = made-of a.0 n.0 a.1 in
          let both : Some m.1.new ≡ Some n.1.0 = sym m.1.is ∙ n.1.1 in
          let same : m.1.new ≡ n.1.0 = cc in
          let range_same : m.0 ≡ range = sym (m.1.renumbered.range ∙ m.1.same) ∙ ap (λ (x : RangeFacts). x.range) same ∙ n.1.2 in
          led-range never_first program table points returns is sound closed levels told main a.0 range (kept-led a.0 (n.0, a.1)) (m.1.stands ∙ ap (λ (r : Range). Some r) range_same),
    )

    pub made-reached : slice_get table.ranges 0 ≡ Some main_range → IsTidy table → (marks : List Bool) → MarksLevels table returns kept marks → (paragraph : ℕ) → IsReached never_first program paragraph ↔ (slice_get marks paragraph ≡ Some true)
    made-reached main tidy marks marked paragraph = (
      λ r. (marked paragraph).1 (reached-owner never_first program table points returns is sound closed levels told main paragraph kept led-kept r),
      λ e. owner-reached never_first program table points returns is sound closed levels told main tidy paragraph kept kept-led ((marked paragraph).0 e),
    )

  pub summarises : SaysSoundly table returns → IsClosed table returns → IsTidy table → slice_get table.ranges 0 ≡ Some main_range → RangesRise table.ranges → (marks : List Bool) → MarksLevels table returns kept marks → length marks ≡ length table.starts → (summary : Summary) → summary.ranges ≡ made → summary.reached ≡ marks →
      SummarisesTable table summary
  summarises sound closed tidy main rise marks marked size summary e_ranges e_reached = λ never_first program points is starts.
      let sounds = sound never_first program points is in
      let it : IsSummary never_first program (record { ranges = made; reached = marks }) = record {
        ranges = made-ranges never_first program points is sounds closed main;
        main = main-made main;
        rising = made-rising rise;
        told = made-told never_first program points is sounds closed;
        reached = made-reached never_first program points is sounds closed main tidy marks marked;
        size = size ∙ starts;
      } in
      let whole : Summary = record { ranges = made; reached = marks } in
      let same : summary ≡ whole = ap (λ (rs : List RangeFacts). let x : Summary = record { ranges = rs; reached = summary.reached } in x) e_ranges ∙ ap (λ (bs : List Bool). let x : Summary = record { ranges = made; reached = bs } in x) e_reached in
      subst (λ (s : Summary). IsSummary never_first program s) (sym same) it
