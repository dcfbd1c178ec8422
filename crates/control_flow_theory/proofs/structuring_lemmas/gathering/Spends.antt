-- Where steps of two machines cost alike, their meanings in units are each within a factor of the other.
use Rattle.std.proofs.Common.{◌≡◌, ℕ, zero, suc, ◌+◌, ◌*◌, ◌≤◌, ◌<◌, Bool, true, false, refl, ap, sym, ◌∙◌, subst, arith, inl, inr}
use Rattle.std.proofs.Math.Nat.{mul-le-mul_left}
use Rattle.control_flow_theory.specs.runs.Run.{Going, Run, IsOver, Covers}
use Rattle.control_flow_theory.specs.runs.Tied.{Meaning, Tied}
use Rattle.control_flow_theory.specs.runs.Machine.{iterate, Machine, meaning, Grows}
use Rattle.control_flow_theory.proofs.runs_lemmas.Ties.{going_or_not, covers-is, covers-trans, le_or}
use Rattle.control_flow_theory.proofs.runs_lemmas.Machines.{iterate-add, iterate-stays, machine-steady}
use Rattle.control_flow_theory.specs.graph_rules.Charged.{spent, Within, Payment, Paid, Matched}
use Rattle.control_flow_theory.specs.structuring.Spends.{Spends}
use Rattle.control_flow_theory.proofs.graph_rules_lemmas.walks.Charges.{spent-add, spent-before, later-covers, over-covers, next-covers, paid-covers, matched-tied}

more-than : (f m x y : ℕ) → f * (m + 1) ≤ f * x + y → y + 1 ≤ f → m < x
more-than f m x y h g =
    elim (le_or x m) [
      | inl le ↦ absurd (let e = mul-le-mul_left f le in omega (arith, e, h, g))
      | inr lt ↦ lt
    ]

module _ {World Event End A B : Type 0} (a : Machine World Event End A) (b : Machine World Event End B) (cost_a : A → ℕ) (cost_b : B → ℕ) (part_a : A → Bool) (part_b : B → Bool)
    (factor : ℕ) (R : A → B → Type 0) (ga : Grows a) (gb : Grows b) (spends : Spends a b cost_a cost_b part_a factor R) where
  abbrev spent_a : ℕ → A → ℕ
  spent_a = spent a.step cost_a

  abbrev spent_b : ℕ → B → ℕ
  spent_b = spent b.step cost_b

  -- after n steps of the first
  pub record Followed (n : ℕ) (s : A) (t : B) : Type 0 where
    pub steps : ℕ
    pub related : R (iterate a.step n s) (iterate b.step steps t)
    pub owing : spent_b steps t + spends.owed (iterate a.step n s) (iterate b.step steps t) ≤ factor * spent_a n s + spends.owed s t
    pub duly : (a.run (iterate a.step n s)).standing ≡ Going → spent_a n s ≤ factor * spent_b steps t

  pub follow : (n : ℕ) (s : A) (t : B) → R s t → Followed n s t
  follow zero s t r = record { steps = 0; related = r; owing = omega arith; duly = λ h. omega arith }
  follow (suc n) s t r =
      elim (going_or_not (a.run s).standing) [
        | inl going ↦
            let m = spends.moves s t r going in
            let f = follow n (a.step s) (iterate b.step m.0 t) m.1 in
            let e = spent-add b.step cost_b m.0 f.steps t in
            let i = iterate-add b.step m.0 f.steps t in
            record {
              steps = m.0 + f.steps;
              related = subst (R (iterate a.step n (a.step s))) (sym i) f.related;
              owing = subst (λ x. spent_b (m.0 + f.steps) t + spends.owed (iterate a.step n (a.step s)) x ≤ factor * (cost_a s + spent_a n (a.step s)) + spends.owed s t) (sym i)
                  (let u = m.2 in let v = f.owing in omega (arith, u, v, e));
              duly = λ h. let u = m.3 in let v = f.duly h in rw e (omega (arith, u, v));
            }
        | inr over ↦
            let e : iterate a.step (suc n) s ≡ s = iterate-stays a ga (suc n) s over in
            record {
              steps = 0;
              related = subst (λ x. R x t) (sym e) r;
              owing = subst (λ x. 0 + spends.owed x t ≤ factor * spent_a (suc n) s + spends.owed s t) (sym e) (omega arith);
              duly = λ h. absurd (over (subst (λ x. (a.run x).standing ≡ Going) e h));
            }
      ]

  -- the step within which the first run is has its match, paid for
  within-covers : (s : A) (t : B) (r : Run Event End) → R s t → part_a s ≡ true → Within a.step a.run s r → (j : ℕ) × Covers r (b.run (iterate b.step j t)) × (spent_b j t ≤ spends.owed s t + 2)
  within-covers s t r related part w =
      elim (going_or_not (a.run s).standing) [
        | inl going ↦
            let m = spends.moves s t related going in
            let i = m.4 part in
            (i.0, subst (Covers r) (spends.agree (a.step s) (iterate b.step m.0 t) m.1 ∙ sym i.1) w.short, i.2)
        | inr over ↦ (
          0,
          covers-trans r (a.run (a.step s)) (b.run t) w.short
              (covers-is (a.run (a.step s)) (b.run t) (ap a.run (ga.stays s over) ∙ spends.agree s t related)),
          omega arith,
        )
      ]

  -- the second begins some steps earlier
  module _ (s : A) (t0 : B) (k : ℕ) (related : R s (iterate b.step k t0)) (owes : spent_b k t0 + spends.owed s (iterate b.step k t0) + 2 ≤ factor) where
    abbrev t : B
    t = iterate b.step k t0

    -- the first run's units against the second's
    pub first-covered : (m : ℕ) (x y : Run Event End) → Payment a.step a.run cost_a part_a s m x → Payment b.step b.run cost_b part_b t0 (factor * (m + 1)) y → Covers x y
    first-covered m x y p q =
        let f = follow p.steps s t related in
        let same = spends.agree (iterate a.step p.steps s) (iterate b.step f.steps t) f.related in
        let u = f.owing in
        let v = mul-le-mul_left factor p.paid in
        let d = spent-add b.step cost_b k f.steps t0 in
        elim p.shown [
          | inl is ↦
              covers-trans x (b.run (iterate b.step f.steps t)) y (covers-is x (b.run (iterate b.step f.steps t)) (sym is ∙ same))
              (subst (λ z. Covers (b.run z) y) (iterate-add b.step k f.steps t0)
              (paid-covers b gb cost_b part_b t0 (factor * (m + 1)) y q (k + f.steps) (omega (arith, u, v, owes, d))))
          | inr w ↦
              let more = within-covers (iterate a.step p.steps s) (iterate b.step f.steps t) x f.related w.0 w.1 in
              let e = spent-add b.step cost_b f.steps more.0 t in
              let c = spent-add b.step cost_b k (f.steps + more.0) t0 in
              let z = more.2 in
              covers-trans x (b.run (iterate b.step more.0 (iterate b.step f.steps t))) y more.1
              (subst (λ z. Covers (b.run z) y) (iterate-add b.step k (f.steps + more.0) t0 ∙ iterate-add b.step f.steps more.0 t)
              (paid-covers b gb cost_b part_b t0 (factor * (m + 1)) y q (k + (f.steps + more.0)) (omega (arith, u, v, owes, e, c, z))))
        ]

    -- and the second's against the first's
    pub second-covered : (m : ℕ) (x y : Run Event End) → Payment a.step a.run cost_a part_a s (factor * (m + 1)) x → Payment b.step b.run cost_b part_b t0 m y → Covers y x
    second-covered m x y p q =
        let f = follow p.steps s t related in
        let same = spends.agree (iterate a.step p.steps s) (iterate b.step f.steps t) f.related in
        let whole = iterate-add b.step k f.steps t0 in
        elim (going_or_not x.standing) [
          | inl going ↦
              let u = f.duly (is-going going) in
              let lacks = p.lacks going in
              let last = spent-add a.step cost_a p.steps 1 s in
              let c = spends.cheap (iterate a.step p.steps s) in
              let eq : p.steps + 1 ≡ suc p.steps = omega arith in
              let last2 : spent_a (suc p.steps) s ≡ spent_a p.steps s + (cost_a (iterate a.step p.steps s) + 0) = sym (ap (λ n. spent_a n s) eq) ∙ last in
              let enough : factor * (m + 1) ≤ factor * spent_b f.steps t + 1 = omega (arith, u, lacks, last2, c) in
              let lt = more-than factor m (spent_b f.steps t) 1 enough (omega (arith, owes)) in
              let d = spent-add b.step cost_b k f.steps t0 in
              let paid = q.paid in
              let before = spent-before b.step cost_b q.steps (k + f.steps) t0 (omega (arith, lt, paid, d)) in
              covers-trans y (b.run (iterate b.step f.steps t)) x (subst (λ z. Covers y (b.run z)) whole (up-to (k + f.steps) before))
              (covers-trans (b.run (iterate b.step f.steps t)) (a.run (iterate a.step p.steps s)) x (covers-is (b.run (iterate b.step f.steps t)) (a.run (iterate a.step p.steps s)) (sym same)) past)
          | inr over ↦
              let is : a.run (iterate a.step p.steps s) ≡ x = is-over over in
              let still : IsOver (b.run (iterate b.step f.steps t)) = subst IsOver (sym is ∙ same) over in
              covers-trans y (b.run (iterate b.step f.steps t)) x
              (subst (λ z. IsOver (b.run z) → Covers y (b.run z)) whole (all-of (k + f.steps)) still)
              (covers-is (b.run (iterate b.step f.steps t)) x (sym same ∙ is))
        ]
      where
        past : Covers (a.run (iterate a.step p.steps s)) x
        past = elim p.shown [ inl is ↦ covers-is (a.run (iterate a.step p.steps s)) x is | inr w ↦ w.1.past ]

        is-over : IsOver x → a.run (iterate a.step p.steps s) ≡ x
        is-over over = elim p.shown [ inl is ↦ is | inr w ↦ absurd (over w.1.going) ]

        is-going : x.standing ≡ Going → (a.run (iterate a.step p.steps s)).standing ≡ Going
        is-going going = elim (going_or_not (a.run (iterate a.step p.steps s)).standing) [
          | inl h ↦ h
          | inr over ↦ sym (ap (λ r. r.standing) (past.ends over)) ∙ going
        ]

        up-to : (n : ℕ) → q.steps < n → Covers y (b.run (iterate b.step n t0))
        up-to n lt = elim q.shown [
          | inl is ↦ subst (λ r. Covers r (b.run (iterate b.step n t0))) is (later-covers b gb q.steps n t0 (omega (arith, lt)))
          | inr w ↦ next-covers b gb q.steps n t0 y w.1.short (later-covers b gb (q.steps + 1) n t0 (omega (arith, lt)))
        ]

        all-of : (n : ℕ) → IsOver (b.run (iterate b.step n t0)) → Covers y (b.run (iterate b.step n t0))
        all-of n over = elim q.shown [
          | inl is ↦ subst (λ r. Covers r (b.run (iterate b.step n t0))) is (over-covers b gb q.steps n t0 over)
          | inr w ↦ next-covers b gb q.steps n t0 y w.1.short (over-covers b gb (q.steps + 1) n t0 over)
        ]

  pub units-matched : (big_a big_b : Meaning World Event End) → Paid big_a a cost_a part_a → Paid big_b b cost_b part_b → Matched factor big_a big_b
  units-matched big_a big_b paid_a paid_b = λ w m.
      let st = spends.starts w in (
        first-covered (a.begun w) (b.begun w) st.0 st.1 st.2 m (big_a w m) (big_b w (factor * (m + 1))) (paid_a w m) (paid_b w (factor * (m + 1))),
        second-covered (a.begun w) (b.begun w) st.0 st.1 st.2 m (big_a w (factor * (m + 1))) (big_b w m) (paid_a w (factor * (m + 1))) (paid_b w m),
      )

-- Steps as units of one each.
module _ {World Event End S : Type 0} (m : Machine World Event End S) where
  abbrev pub one : S → ℕ
  one s = 1

  abbrev pub whole : S → Bool
  whole s = false

  pub spent-one : (n : ℕ) (s : S) → spent m.step one n s ≡ n
  spent-one zero s = refl
  spent-one (suc n) s = let e = spent-one n (m.step s) in omega (arith, e)

  pub steps-paid : Paid (meaning m) m one whole
  steps-paid = λ w n.
      let e = spent-one n (m.begun w) in
      let f = spent-one (suc n) (m.begun w) in
      record { steps = n; paid = omega (arith, e); lacks = λ going. omega (arith, f); shown = inl refl }

-- where steps cost one each, the machines are tied
pub spends-tied : {World Event End A B : Type 0} (a : Machine World Event End A) (b : Machine World Event End B) (factor : ℕ) (R : A → B → Type 0) → Grows a → Grows b → Spends a b (one a) (one b) (whole a) factor R → Tied (meaning a) (meaning b)
spends-tied a b factor R ga gb spends =
    matched-tied factor (meaning a) (meaning b) (machine-steady a ga) (machine-steady b gb)
    (units-matched a b (one a) (one b) (whole a) (whole b) factor R ga gb spends (meaning a) (meaning b) (steps-paid a) (steps-paid b))
