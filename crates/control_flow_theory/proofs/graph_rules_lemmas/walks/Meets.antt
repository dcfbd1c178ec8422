-- Where an outcome in units meets a walk step by step, and how what meets is put together.
use Rattle.std.proofs.Common.{◌≡◌, ℕ, zero, suc, ◌+◌, ◌-◌, ◌*◌, ◌≤◌, ◌<◌, true, List, [], ◌++◌, refl, ap, sym, ◌∙◌, subst, arith, append-nil, append_assoc, ◌⊎◌, inl, inr}
use Rattle.control_flow_theory.specs.runs.Run.{Going, Over, Run, Begins, Covers}
use Rattle.control_flow_theory.specs.runs.Machine.{iterate}
use Rattle.control_flow_theory.proofs.runs_lemmas.Ties.{le_or}
use Rattle.control_flow_theory.proofs.runs_lemmas.Machines.{iterate-add}
use Rattle.control_flow_theory.specs.semantics.Outcome.{Event, Trace, Abend, Ending, Stopped, Standing, Tried, Got, Ends}
use Rattle.control_flow_theory.specs.language.Language.{Range}
use Rattle.control_flow_theory.specs.semantics.Doing.{Acting, Doing, Celled}
use Rattle.control_flow_theory.specs.language.Items.{Item}
use Rattle.control_flow_theory.specs.semantics.Items.{Way, On, Halts, Into, To, ToEnd, way_after, tried}
use Rattle.control_flow_theory.specs.semantics.Structural.{Outcome, Went, Stands}
use Rattle.control_flow_theory.specs.semantics.Structural as structural
use Rattle.control_flow_theory.specs.semantics.Graph.{End, Family}
use Rattle.control_flow_theory.specs.semantics.Walk.{Level, Walk, walk_goes, walk_step}
use Rattle.control_flow_theory.specs.graph_rules.Charged.{spent, Within, Payment}
use Rattle.control_flow_theory.specs.graph_rules.Costs.{tried_cost, cost, parted}
use Rattle.control_flow_theory.specs.graph_rules.Walked.{left_of, Walking}
use Rattle.control_flow_theory.proofs.graph_rules_lemmas.walks.Charges.{spent-add}

module _ {Memory Left : Type 0} (acting : Acting Memory) (left : Memory → Left) (family : Family) where
  abbrev pub State : Type 0
  State = Walk Memory Left

  abbrev pub step : State → State
  step = walk_step acting left family

  abbrev pub paid : ℕ → State → ℕ
  paid = spent step (cost acting)

  abbrev pub shows : State → Run Event (Ending Left)
  shows walk = walk.run

  abbrev pub at : Range → List Item → End → List Level → Celled Memory → Trace → State
  at range items end callers memory trace = record { level = record { range = range; items = items; end = end }; callers = callers; memory = memory; run = record { trace = trace; standing = Going } }

  -- where a run goes on
  abbrev pub Target : Type 0
  Target = Celled Memory → Trace → State

  abbrev pub Result : Type 0
  Result = Outcome (Celled Memory) Left

  abbrev pub ran : Trace → Standing Left → Run Event (Ending Left)
  ran trace standing = record { trace = trace; standing = standing }

  -- a run that doesn't come to its target, with the number of its steps
  pub record Stays (start : State) (units slack : ℕ) (run : Run Event (Ending Left)) : Type 0 where
    pub payment : Payment step shows (cost acting) parted start units run
    pub few : payment.steps ≤ 3 * units + slack + 1

  -- some steps lead from the start to where the outcome says, and cost the units that it took; three steps are at most a unit
  abbrev pub Meets : State → Target → Trace → ℕ → ℕ → Result → Type 0
  Meets start target trace units slack (Went shown memory rest) =
      (k : ℕ) × (iterate step k start ≡ target memory (trace ++ shown)) × (units ≡ rest + paid k start) × (k + 3 * rest ≤ 3 * units + slack)
  Meets start target trace units slack (Stands shown standing) = Stays start units slack (ran (trace ++ shown) standing)

  -- no unit is left for the step that is next
  pub waits : (start : State) (target : Target) (trace : Trace) (units slack : ℕ) → start.run ≡ ran trace Going → units < cost acting start → Meets start target trace units slack (Stands [] Going)
  waits start target trace units slack is lt = record {
    payment = record {
      steps = 0;
      paid = omega arith;
      lacks = λ e. omega (arith, lt);
      shown = inl (is ∙ ap (λ t. ran t Going) (sym (append-nil trace)));
    };
    few = omega arith;
  }

  -- the run is over, or stands, here
  pub is-here : (start : State) (target : Target) (trace shown : Trace) (units slack : ℕ) (standing : Standing Left) → start.run ≡ ran (trace ++ shown) standing → (standing ≡ Going → ⊥) → Meets start target trace units slack (Stands shown standing)
  is-here start target trace shown units slack standing is over = record {
    payment = record { steps = 0; paid = omega arith; lacks = λ e. absurd (over e); shown = inl is };
    few = omega arith;
  }

  pub went : (start : State) (target : Target) (memory : Celled Memory) (trace : Trace) (units slack : ℕ) → start ≡ target memory trace → Meets start target trace units slack (Went [] memory units)
  went start target memory trace units slack e = (0, e ∙ ap (target memory) (sym (append-nil trace)), omega arith, omega arith)

  paid-next : (start next : State) (k c : ℕ) → step start ≡ next → cost acting start ≡ c → paid (suc k) start ≡ paid k next + c
  paid-next start next k c e p = let f = ap (paid k) e in omega (arith, f, p)

  -- a step more, first
  pub meets-step : (start next : State) (target : Target) (trace : Trace) (units c extra slack : ℕ) (o : Result) → step start ≡ next → cost acting start ≡ c → extra + 1 ≤ 3 * c + slack →
      Meets next target trace units extra o → Meets start target trace (units + c) slack o
  meets-step start next target trace units c extra slack (Went shown memory rest) e p room h =
      let q = h.2 in let f = paid-next start next h.0 c e p in let u = h.3 in
      (suc h.0, ap (iterate step h.0) e ∙ h.1, omega (arith, q, f), omega (arith, u, room))
  meets-step start next target trace units c extra slack (Stands shown standing) e p room h =
      let y = h.payment in
      let f = paid-next start next y.steps c e p in let g = paid-next start next (suc y.steps) c e p in
      let few = h.few in let paid_is = y.paid in
      let is : iterate step y.steps next ≡ iterate step (suc y.steps) start = ap (iterate step y.steps) (sym e) in
      record {
        payment = record {
          steps = suc y.steps;
          paid = omega (arith, paid_is, f);
          lacks = λ going. let x = y.lacks going in omega (arith, x, g);
          shown = subst (λ s. (s.run ≡ ran (trace ++ shown) standing) ⊎ ((parted s ≡ true) × Within step shows s (ran (trace ++ shown) standing) × (paid (suc (suc y.steps)) start ≤ (units + c) + 1))) is
              (elim y.shown [ inl here ↦ inl here | inr w ↦ inr (w.0, w.1, (let x = w.2 in omega (arith, x, g))) ]);
        };
        few = omega (arith, few, room);
      }

  pub meets-slack : (start : State) (target : Target) (trace : Trace) (units slack more : ℕ) (o : Result) → slack ≤ more → Meets start target trace units slack o → Meets start target trace units more o
  meets-slack start target trace units slack more (Went shown memory rest) le h = (h.0, h.1, h.2, (let u = h.3 in omega (arith, u, le)))
  meets-slack start target trace units slack more (Stands shown standing) le h = record { payment = h.payment; few = (let u = h.few in omega (arith, u, le)) }

  module _ (doing : Doing (Celled Memory)) where
    abbrev behind : Trace → Result → Result
    behind = structural.behind doing (left_of acting left)

    -- what was shown before
    pub meets-behind : (start : State) (target : Target) (trace shown : Trace) (units slack : ℕ) (o : Result) → Meets start target (trace ++ shown) units slack o → Meets start target trace units slack (behind shown o)
    meets-behind start target trace shown units slack (Went more memory rest) h = (h.0, h.1 ∙ ap (target memory) (append_assoc trace shown more), h.2, h.3)
    meets-behind start target trace shown units slack (Stands more standing) h =
        subst (λ t. Stays start units slack (ran t standing)) (append_assoc trace shown more) h

    meets-after : (start mid : State) (target : Target) (trace shown : Trace) (units rest k slack extra whole : ℕ) (o : Result) → iterate step k start ≡ mid → units ≡ rest + paid k start → k + 3 * rest ≤ 3 * units + slack → slack + extra ≤ whole →
        Meets mid target (trace ++ shown) rest extra o → Meets start target trace units whole (behind shown o)
    meets-after start mid target trace shown units rest k slack extra whole (Went more memory less) e u v room h =
        let a = spent-add step (cost acting) k h.0 start in let f = ap (paid h.0) e in let x = h.2 in let y = h.3 in
        (k + h.0, iterate-add step k h.0 start ∙ ap (iterate step h.0) e ∙ h.1 ∙ ap (target memory) (append_assoc trace shown more), omega (arith, a, f, u, x), omega (arith, v, y, room))
    meets-after start mid target trace shown units rest k slack extra whole (Stands more standing) e u v room h =
        let y = h.payment in
        let r = ran (trace ++ (shown ++ more)) standing in
        let a = spent-add step (cost acting) k y.steps start in let f = ap (paid y.steps) e in
        let b = spent-add step (cost acting) k (suc y.steps) start in let g = ap (paid (suc y.steps)) e in
        let eq : k + suc y.steps ≡ suc (k + y.steps) = omega arith in let c = ap (λ n. paid n start) eq in
        let few = h.few in let paid_is = y.paid in
        let is : iterate step y.steps mid ≡ iterate step (k + y.steps) start = sym (iterate-add step k y.steps start ∙ ap (iterate step y.steps) e) in
        let same : ran ((trace ++ shown) ++ more) standing ≡ r = ap (λ t. ran t standing) (append_assoc trace shown more) in
        record {
          payment = record {
            steps = k + y.steps;
            paid = omega (arith, a, f, u, paid_is);
            lacks = λ going. let x = y.lacks going in omega (arith, x, b, g, c, u);
            shown = subst (λ s. (s.run ≡ r) ⊎ ((parted s ≡ true) × Within step shows s r × (paid (suc (k + y.steps)) start ≤ units + 1))) is
                (elim y.shown [ inl here ↦ inl (here ∙ same) | inr w ↦ inr (w.0, subst (Within step shows (iterate step y.steps mid)) same w.1, (let x = w.2 in omega (arith, x, b, g, c, u))) ]);
          };
          few = omega (arith, few, v, room);
        }

    -- one after the other
    pub meets-then : (start : State) (mid target : Target) (trace : Trace) (units slack extra whole : ℕ) (o : Result) (d : Walking acting left) → slack + extra ≤ whole → Meets start mid trace units slack o →
        ((memory : Celled Memory) (rest : ℕ) (t : Trace) → rest ≤ units → Meets (mid memory t) target t rest extra (d memory rest)) → Meets start target trace units whole (structural.then_do doing (left_of acting left) o d)
    meets-then start mid target trace units slack extra whole (Went shown memory rest) d room h k =
        let u = h.2 in
        meets-after start (mid memory (trace ++ shown)) target trace shown units rest h.0 slack extra whole (d memory rest) h.1 h.2 h.3 room (k memory rest (trace ++ shown) (omega (arith, u)))
    meets-then start mid target trace units slack extra whole (Stands shown standing) d room h k = meets-slack start target trace units slack whole (Stands shown standing) (omega (arith, room)) h

    -- A step at an item, and the units that it takes.

    abbrev trace_of : Way (Celled Memory) → Trace
    trace_of (On trace memory items) = trace
    trace_of (Halts trace how memory) = trace
    trace_of (Into entry exit items) = []
    trace_of (To trace memory paragraph) = []
    trace_of (ToEnd trace memory paragraph) = []

    -- it goes on or halts
    abbrev pub Plain : Way (Celled Memory) → Type 0
    Plain (On trace memory items) = Unit {0}
    Plain (Halts trace how memory) = Unit {0}
    Plain (Into entry exit items) = ⊥
    Plain (To trace memory paragraph) = ⊥
    Plain (ToEnd trace memory paragraph) = ⊥

    module _ (range : Range) (items : List Item) (end : End) (callers : List Level) (here : Celled Memory) (target : Target) where
      abbrev from : Trace → State
      from trace = at range items end callers here trace

      abbrev goes : Way (Celled Memory) → Trace → State
      goes way trace = walk_goes acting left family way (from trace)

      -- with fewer units than the way costs nothing is done, or all is shown but for the last unit; with more it goes on, up to a number of units
      pub record Takes (bound slack : ℕ) (way : Way (Celled Memory)) (c : ℕ) (d : ℕ → Result) : Type 0 where
        pub short : (n : ℕ) → n < c → (d n ≡ Stands [] Going) ⊎ ((suc n ≡ c) × ((shown : Trace) × (d n ≡ Stands shown Going) × Begins shown (trace_of way)))
        pub extra : ℕ
        pub room : extra + 1 ≤ 3 * c + slack
        pub full : (n : ℕ) (trace : Trace) → n + c < bound → Meets (goes way trace) target trace n extra (d (n + c))

      goes-run : (way : Way (Celled Memory)) (trace : Trace) → Plain way → Begins (trace ++ trace_of way) (goes way trace).run.trace
      goes-run (On shown memory items) trace plain = ([], sym (append-nil (trace ++ shown)))
      goes-run (Halts shown how memory) trace plain = ([], sym (append-nil (trace ++ shown)))
      goes-run (Into entry exit items) trace plain = absurd plain
      goes-run (To shown memory paragraph) trace plain = absurd plain
      goes-run (ToEnd shown memory paragraph) trace plain = absurd plain

      covers-some : (trace shown whole : Trace) (r : Run Event (Ending Left)) → Begins shown whole → Begins (trace ++ whole) r.trace → Covers (ran (trace ++ shown) Going) r
      covers-some trace shown whole r b c = record {
        shows = (b.0 ++ c.0, c.1 ∙ ap (λ t. (trace ++ t) ++ c.0) b.1 ∙ ap (λ t. t ++ c.0) (sym (append_assoc trace shown b.0)) ∙ append_assoc (trace ++ shown) b.0 c.0);
        ends = λ over. absurd (over refl);
      }

      pub takes-step : (bound slack : ℕ) (way : Way (Celled Memory)) (c : ℕ) (d : ℕ → Result) (trace : Trace) (units : ℕ) → Plain way → Takes bound slack way c d → step (from trace) ≡ goes way trace → cost acting (from trace) ≡ c → parted (from trace) ≡ true → units < bound →
          Meets (from trace) target trace units slack (d units)
      takes-step bound slack way c d trace units plain t e p part lt =
          elim (le_or c units) [
            | inl le ↦
                let eq : (units - c) + c ≡ units = omega (arith, le) in
                subst (λ n. Meets (from trace) target trace n slack (d n)) eq
                (meets-step (from trace) (goes way trace) target trace (units - c) c t.extra slack (d ((units - c) + c)) e p t.room (t.full (units - c) trace (omega (arith, eq, lt))))
            | inr less ↦
                elim (t.short units less) [
                  | inl nothing ↦ subst (Meets (from trace) target trace units slack) (sym nothing) (waits (from trace) target trace units slack refl (omega (arith, p, less)))
                  | inr some ↦
                      subst (Meets (from trace) target trace units slack) (sym some.1.1)
                      (record {
                        payment = record {
                          steps = 0;
                          paid = omega arith;
                          lacks = λ going. omega (arith, p, less);
                          shown = inr (
                            part,
                            record {
                              going = refl;
                              past = record { shows = (some.1.0, refl); ends = λ over. absurd (over refl) };
                              short = subst (λ s. Covers (ran (trace ++ some.1.0) Going) s.run) (sym e) (covers-some trace some.1.0 (trace_of way) (goes way trace).run some.1.2 (goes-run way trace plain));
                            },
                            (let q = some.0 in omega (arith, p, q)),
                          );
                        };
                        few = omega arith;
                      })
                ]
          ]

      pub after-plain : (shown : Trace) (way : Way (Celled Memory)) → Plain way → Plain (way_after shown way)
      after-plain shown (On trace memory items) plain = tt
      after-plain shown (Halts trace how memory) plain = tt
      after-plain shown (Into entry exit items) plain = absurd plain
      after-plain shown (To trace memory paragraph) plain = absurd plain
      after-plain shown (ToEnd trace memory paragraph) plain = absurd plain

      trace-after : (shown : Trace) (way : Way (Celled Memory)) → Plain way → trace_of (way_after shown way) ≡ shown ++ trace_of way
      trace-after shown (On trace memory items) plain = refl
      trace-after shown (Halts trace how memory) plain = refl
      trace-after shown (Into entry exit items) plain = absurd plain
      trace-after shown (To trace memory paragraph) plain = absurd plain
      trace-after shown (ToEnd trace memory paragraph) plain = absurd plain

      goes-after : (shown trace : Trace) (way : Way (Celled Memory)) → Plain way → goes way (trace ++ shown) ≡ goes (way_after shown way) trace
      goes-after shown trace (On more memory items) plain = ap (λ t. at range items end callers memory t) (append_assoc trace shown more)
      goes-after shown trace (Halts more how memory) plain = ap (λ t. record { level = record { range = range; items = items; end = end }; callers = callers; memory = memory; run = ran t (Over (Stopped how (left memory.own))) }) (append_assoc trace shown more)
      goes-after shown trace (Into entry exit items) plain = absurd plain
      goes-after shown trace (To more memory paragraph) plain = absurd plain
      goes-after shown trace (ToEnd more memory paragraph) plain = absurd plain

      -- what was shown before the way
      pub takes-after : (bound slack : ℕ) (shown : Trace) (way : Way (Celled Memory)) (c : ℕ) (d : ℕ → Result) → c ≤ 1 → Plain way → Takes bound slack way c d → Takes bound slack (way_after shown way) c (λ n. behind shown (d n))
      takes-after bound slack shown way c d one plain t = record {
        short = λ n lt. elim (t.short n lt) [
          | inl nothing ↦ inr (omega (arith, one, lt), (shown, ap (behind shown) nothing ∙ ap (λ x. Stands x Going) (append-nil shown), (trace_of way, trace-after shown way plain)))
          | inr some ↦ inr (some.0, (shown ++ some.1.0, ap (behind shown) some.1.1, (some.1.2.0, trace-after shown way plain ∙ ap (λ x. shown ++ x) some.1.2.1 ∙ sym (append_assoc shown some.1.0 some.1.2.0))))
        ];
        extra = t.extra;
        room = t.room;
        full = λ n trace lt. subst (λ s. Meets s target trace n t.extra (behind shown (d (n + c)))) (goes-after shown trace way plain) (meets-behind (goes way (trace ++ shown)) target trace shown n t.extra (d (n + c)) (t.full n (trace ++ shown) lt));
      }

      -- a unit first
      pub takes-unit : (bound slack : ℕ) (way : Way (Celled Memory)) (c : ℕ) (d : Walking acting left) (memory : Celled Memory) → Takes bound (3 + slack) way c (d memory) → Takes (suc bound) slack way (c + 1) (structural.unit_of doing (left_of acting left) d memory)
      takes-unit bound slack way c d memory t = record {
        short = lacking;
        extra = t.extra;
        room = let r = t.room in omega (arith, r);
        full = λ n trace lt.
            let e : suc (n + c) ≡ n + (c + 1) = omega arith in
            subst (λ x. Meets (goes way trace) target trace n t.extra (structural.unit_of doing (left_of acting left) d memory x)) e (t.full n trace (omega (arith, lt)));
      }
        where
          lacking : (n : ℕ) → n < c + 1 → (structural.unit_of doing (left_of acting left) d memory n ≡ Stands [] Going) ⊎ ((suc n ≡ c + 1) × ((shown : Trace) × (structural.unit_of doing (left_of acting left) d memory n ≡ Stands shown Going) × Begins shown (trace_of way)))
          lacking zero lt = inl refl
          lacking (suc n) lt = elim (t.short n (omega (arith, lt))) [
            | inl nothing ↦ inl nothing
            | inr some ↦ inr (let q = some.0 in omega (arith, q), some.1)
          ]

      -- nothing is tried, and it goes on with these items
      pub takes-on : (bound slack : ℕ) (memory : Celled Memory) (next : List Item) (d : ℕ → Result) → (extra : ℕ) → extra + 1 ≤ slack → ((n : ℕ) (trace : Trace) → n < bound → Meets (at range next end callers memory trace) target trace n extra (d n)) → Takes bound slack (On [] memory next) 0 d
      takes-on bound slack memory next d extra room h = record {
        short = λ n lt. absurd (omega (arith, lt));
        extra = extra;
        room = omega (arith, room);
        full = λ n trace lt.
            let e : n ≡ n + 0 = omega arith in
            subst (λ x. Meets (goes (On [] memory next) trace) target trace n extra (d x)) e
            (subst (λ t. Meets (at range next end callers memory t) target trace n extra (d n)) (sym (append-nil trace)) (h n trace (omega (arith, lt))));
      }

      pub plain-tried : {Value : Type 0} (value : Tried (Celled Memory) Value) (way : Value → Celled Memory → Way (Celled Memory)) → ((v : Value) (m : Celled Memory) → Plain (way v m)) → Plain (tried value way)
      plain-tried (Got trace v m) way plain = after-plain trace (way v m) (plain v m)
      plain-tried (Ends trace kind m) way plain = tt

      -- a value first, or the end of the run
      pub takes-tried : {Value : Type 0} (bound slack : ℕ) (value : Tried (Celled Memory) Value) (way : Value → Celled Memory → Way (Celled Memory)) (c : Value → Celled Memory → ℕ) (d : Value → Walking acting left) →
          1 ≤ slack → ((v : Value) (m : Celled Memory) → c v m ≤ 1) → ((v : Value) (m : Celled Memory) → Plain (way v m)) → ((v : Value) (m : Celled Memory) → Takes bound slack (way v m) (c v m) (d v m)) →
          Takes bound slack (tried value way) (tried_cost value c) (structural.gets doing (left_of acting left) value d)
      takes-tried bound slack (Got trace v m) way c d room one plain t = takes-after bound slack trace (way v m) (c v m) (d v m) (one v m) (plain v m) (t v m)
      takes-tried bound slack (Ends trace kind m) way c d room one plain t = record {
        short = λ n lt. absurd (omega (arith, lt));
        extra = 0;
        room = omega (arith, room);
        full = λ n before lt. is-here (goes (Halts trace (Abend kind) m) before) target before (trace ++ []) n 0 (Over (Stopped (Abend kind) (left m.own))) (ap (λ t. ran (before ++ t) (Over (Stopped (Abend kind) (left m.own)))) (sym (append-nil trace))) (λ e. cc);
      }
