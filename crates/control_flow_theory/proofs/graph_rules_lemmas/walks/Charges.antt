-- Meanings in units keep a factor both ways.
use Rattle.std.proofs.Common.{◌≡◌, ℕ, zero, suc, ◌+◌, ◌-◌, ◌*◌, ◌≤◌, ◌<◌, Bool, true, ap, sym, ◌∙◌, subst, arith, inl, inr}
use Rattle.std.proofs.Math.Nat.{mul-le-mul_left}
use Rattle.control_flow_theory.specs.runs.Run.{Going, Run, IsOver, Covers}
use Rattle.control_flow_theory.specs.runs.Tied.{Meaning, Steady, Tied}
use Rattle.control_flow_theory.specs.runs.Machine.{iterate, Machine, Grows}
use Rattle.control_flow_theory.proofs.runs_lemmas.Ties.{going_or_not, covers-is, covers-trans, le_or}
use Rattle.control_flow_theory.proofs.runs_lemmas.Machines.{iterate-add, iterate-stays, machine-steady}
use Rattle.control_flow_theory.specs.graph_rules.Charged.{spent, Within, Payment, Paid, Matched, Charges}

pub spent-add : {S : Type 0} (step : S → S) (cost : S → ℕ) (k n : ℕ) (s : S) → spent step cost (k + n) s ≡ spent step cost k s + spent step cost n (iterate step k s)
spent-add step cost zero n s = let e : 0 + n ≡ n = omega arith in ap (λ x. spent step cost x s) e ∙ omega arith
spent-add step cost (suc k) n s =
    let e : suc k + n ≡ suc (k + n) = omega arith in
    let f = spent-add step cost k n (step s) in
    ap (λ x. spent step cost x s) e ∙ omega (arith, f)

-- fewer steps cost no more
pub spent-less : {S : Type 0} (step : S → S) (cost : S → ℕ) (k n : ℕ) (s : S) → k ≤ n → spent step cost k s ≤ spent step cost n s
spent-less step cost k n s le =
    let e : k + (n - k) ≡ n = omega arith in
    let f = spent-add step cost k (n - k) s in
    subst (λ x. spent step cost k s ≤ spent step cost x s) e (omega (arith, f))

-- what costs less comes first
pub spent-before : {S : Type 0} (step : S → S) (cost : S → ℕ) (k n : ℕ) (s : S) → spent step cost k s < spent step cost n s → k < n
spent-before step cost k n s lt =
    elim (le_or n k) [
      | inl le ↦ absurd (let e = spent-less step cost n k s le in omega (arith, e, lt))
      | inr less ↦ less
    ]

more-than : (f m x y : ℕ) → f * (m + 1) ≤ f * x + y → y + 1 ≤ f → m < x
more-than f m x y h g =
    elim (le_or x m) [
      | inl le ↦ absurd (let e = mul-le-mul_left f le in omega (arith, e, h, g))
      | inr lt ↦ lt
    ]

module _ {World Event End S : Type 0} (m : Machine World Event End S) (grows : Grows m) where
  -- a later state covers the ones before it
  pub later-covers : (k n : ℕ) (s : S) → k ≤ n → Covers (m.run (iterate m.step k s)) (m.run (iterate m.step n s))
  later-covers k n s le =
      let anywhere : Machine S Event End S = record { step = m.step; run = m.run; begun = λ x. x } in
      machine-steady anywhere (record { more = grows.more; stays = grows.stays }) s k n le

  -- a state that is over covers all
  pub over-covers : (k n : ℕ) (s : S) → IsOver (m.run (iterate m.step n s)) → Covers (m.run (iterate m.step k s)) (m.run (iterate m.step n s))
  over-covers k n s over =
      elim (le_or k n) [
        | inl le ↦ later-covers k n s le
        | inr lt ↦ covers-is (m.run (iterate m.step k s)) (m.run (iterate m.step n s)) ((later-covers n k s (omega arith)).ends over)
      ]

  pub next-covers : (k n : ℕ) (s : S) (r : Run Event End) → Covers r (m.run (m.step (iterate m.step k s))) → Covers (m.run (iterate m.step (k + 1) s)) (m.run (iterate m.step n s)) → Covers r (m.run (iterate m.step n s))
  next-covers k n s r c d =
      covers-trans r (m.run (m.step (iterate m.step k s))) (m.run (iterate m.step n s)) c
      (subst (λ z. Covers (m.run z) (m.run (iterate m.step n s))) (iterate-add m.step k 1 s) d)

  module _ (cost : S → ℕ) (parted : S → Bool) where
    -- what is paid for is covered
    pub paid-covers : (s : S) (n : ℕ) (r : Run Event End) → Payment m.step m.run cost parted s n r → (j : ℕ) → spent m.step cost j s ≤ n → Covers (m.run (iterate m.step j s)) r
    paid-covers s n r p j le =
        elim (going_or_not r.standing) [
          | inl going ↦
              let lacks = p.lacks going in
              let before = spent-before m.step cost j (suc p.steps) s (omega (arith, le, lacks)) in
              let first = later-covers j p.steps s (omega (arith, before)) in
              elim p.shown [
                | inl is ↦ covers-trans (m.run (iterate m.step j s)) (m.run (iterate m.step p.steps s)) r first (covers-is (m.run (iterate m.step p.steps s)) r is)
                | inr w ↦ covers-trans (m.run (iterate m.step j s)) (m.run (iterate m.step p.steps s)) r first w.1.past
              ]
          | inr over ↦
              elim p.shown [
                | inl is ↦ subst (Covers (m.run (iterate m.step j s))) is (over-covers j p.steps s (subst IsOver (sym is) over))
                | inr w ↦ absurd (over w.1.going)
              ]
        ]

    -- a run covers those of fewer units
    pub payment-steady : (s : S) (k n : ℕ) (x y : Run Event End) → Payment m.step m.run cost parted s k x → Payment m.step m.run cost parted s n y → (k ≡ n → x ≡ y) → k ≤ n → Covers x y
    payment-steady s k n x y p q same le =
        elim p.shown [
          | inl is ↦ subst (λ r. Covers r y) is (paid-covers s n y q p.steps (let u = p.paid in omega (arith, u, le)))
          | inr w ↦
              elim (going_or_not y.standing) [
                | inl going ↦
                    elim (le_or (suc p.steps) q.steps) [
                      | inl more ↦ covers-trans x (m.run (iterate m.step q.steps s)) y
                          (next-covers p.steps q.steps s x w.1.short (later-covers (p.steps + 1) q.steps s (omega (arith, more))))
                          (elim q.shown [ inl is ↦ covers-is (m.run (iterate m.step q.steps s)) y is | inr v ↦ v.1.past ])
                      | inr fewer ↦
                          let a = spent-less m.step cost (suc q.steps) (suc p.steps) s (omega (arith, fewer)) in
                          let b = q.lacks going in
                          let c = w.2 in
                          covers-is x y (same (omega (arith, a, b, c, le)))
                    ]
                | inr over ↦
                    elim q.shown [
                      | inl is ↦ subst (Covers x) is (next-covers p.steps q.steps s x w.1.short (over-covers (p.steps + 1) q.steps s (subst IsOver (sym is) over)))
                      | inr v ↦ absurd (over v.1.going)
                    ]
              ]
        ]

    pub paid-steady : (big : Meaning World Event End) → Paid big m cost parted → Steady big
    paid-steady big paid w k n le = payment-steady (m.begun w) k n (big w k) (big w n) (paid w k) (paid w n) (λ e. ap (big w) e) le

-- a run within a step is going, and so was the state
within-going : {World Event End S : Type 0} (m : Machine World Event End S) (s : S) (r : Run Event End) → Within m.step m.run s r → (m.run s).standing ≡ Going
within-going m s r w = elim (going_or_not (m.run s).standing) [ inl h ↦ h | inr over ↦ sym (ap (λ r. r.standing) (w.past.ends over)) ∙ w.going ]

module _ {World Event End A B : Type 0} (a : Machine World Event End A) (b : Machine World Event End B) (cost_a : A → ℕ) (cost_b : B → ℕ) (part_a : A → Bool) (part_b : B → Bool)
    (factor : ℕ) (R : A → B → Type 0) (ga : Grows a) (gb : Grows b) (charges : Charges a b cost_a cost_b part_a factor R) where
  abbrev spent_a : ℕ → A → ℕ
  spent_a = spent a.step cost_a

  abbrev spent_b : ℕ → B → ℕ
  spent_b = spent b.step cost_b

  -- after n steps of the first, where the second stands here
  pub record Followed (n : ℕ) (s : A) (t : B) (r : R s t) (steps : ℕ) (here : B) : Type 0 where
    pub related : R (iterate a.step n s) here
    pub most : spent_b steps t ≤ factor * spent_a n s + charges.owed s t r
    pub owing : (a.run (iterate a.step n s)).standing ≡ Going → spent_b steps t + charges.owed (iterate a.step n s) here related ≤ factor * spent_a n s + charges.owed s t r
    pub duly : (a.run (iterate a.step n s)).standing ≡ Going → spent_a n s + charges.due (iterate a.step n s) here related ≤ factor * spent_b steps t + charges.due s t r

  abbrev pub Follows : ℕ → (s : A) → (t : B) → R s t → Type 0
  Follows n s t r = (steps : ℕ) × Followed n s t r steps (iterate b.step steps t)

  -- what ends going was going all the time
  was-going : (n : ℕ) (s : A) → (a.run (iterate a.step n s)).standing ≡ Going → (a.run s).standing ≡ Going
  was-going n s is = elim (going_or_not (a.run s).standing) [
    | inl going ↦ going
    | inr over ↦ ap (λ x. (a.run x).standing) (sym (iterate-stays a ga n s over)) ∙ is
  ]

  mul-more : (x y z : ℕ) → x ≤ y → z ≤ factor * x → z ≤ factor * y
  mul-more x y z le h = let e = mul-le-mul_left factor le in omega (arith, e, h)

  pub follow : (n : ℕ) (s : A) (t : B) (r : R s t) → Follows n s t r
  follow zero s t r = (0, record { related = r; most = omega arith; owing = λ h. omega arith; duly = λ h. omega arith })
  follow (suc n) s t r =
      elim (going_or_not (a.run s).standing) [
        | inl going ↦
            let m = charges.moves s t r going in
            let o = charges.owed s t r in let d = charges.due s t r in
            elim (going_or_not (a.run (a.step s)).standing) [
              | inl on ↦
                  let f = follow n (a.step s) (iterate b.step m.0 t) m.1 in
                  let e = spent-add b.step cost_b m.0 f.0 t in (
                    m.0 + f.0,
                    subst (Followed (suc n) s t r (m.0 + f.0)) (sym (iterate-add b.step m.0 f.0 t))
                        (record {
                          related = f.1.related;
                          most = let u = (m.3 on).0 in let v = f.1.most in omega (arith, u, v, e);
                          owing = λ h. let u = (m.3 on).0 in let v = f.1.owing h in omega (arith, u, v, e);
                          duly = λ h. let u = (m.3 on).1 in let v = f.1.duly h in rw e (omega (arith, u, v));
                        }),
                  )
              | inr over ↦ (
                m.0,
                record {
                  related = subst (λ x. R x (iterate b.step m.0 t)) (sym (iterate-stays a ga n (a.step s) over)) m.1;
                  most = let u = m.2 in omega (arith, u);
                  owing = λ h. absurd (over (was-going n (a.step s) h));
                  duly = λ h. absurd (over (was-going n (a.step s) h));
                },
              )
            ]
        | inr over ↦
            let e : iterate a.step (suc n) s ≡ s = iterate-stays a ga (suc n) s over in (
              0,
              record {
                related = subst (λ x. R x t) (sym e) r;
                most = omega arith;
                owing = λ h. absurd (over (subst (λ x. (a.run x).standing ≡ Going) e h));
                duly = λ h. absurd (over (subst (λ x. (a.run x).standing ≡ Going) e h));
              },
            )
      ]

  -- the step within which the first run is has its match, paid for
  within-covers : (s : A) (t : B) (r : Run Event End) (related : R s t) → (a.run s).standing ≡ Going → part_a s ≡ true → Within a.step a.run s r → (j : ℕ) × Covers r (b.run (iterate b.step j t)) × (spent_b j t ≤ charges.owed s t related + 2)
  within-covers s t r related going part w =
      let m = charges.moves s t related going in
      (m.0, subst (Covers r) (charges.agree (a.step s) (iterate b.step m.0 t) m.1) w.short, m.4 part)

  module _ (s : A) (t : B) (related : R s t) (owes : charges.owed s t related + 2 ≤ factor) (dues : charges.due s t related + 2 ≤ factor) where
    -- the first run's units against the second's
    pub first-covered : (m : ℕ) (x y : Run Event End) → Payment a.step a.run cost_a part_a s m x → Payment b.step b.run cost_b part_b t (factor * (m + 1)) y → Covers x y
    first-covered m x y p q =
        let f = follow p.steps s t related in
        let same = charges.agree (iterate a.step p.steps s) (iterate b.step f.0 t) f.1.related in
        let u = f.1.most in
        let v = mul-le-mul_left factor p.paid in
        elim p.shown [
          | inl is ↦
              covers-trans x (b.run (iterate b.step f.0 t)) y (covers-is x (b.run (iterate b.step f.0 t)) (sym is ∙ same))
              (paid-covers b gb cost_b part_b t (factor * (m + 1)) y q f.0 (omega (arith, u, v, owes)))
          | inr w ↦
              let going = within-going a (iterate a.step p.steps s) x w.1 in
              let o = f.1.owing going in
              let more = within-covers (iterate a.step p.steps s) (iterate b.step f.0 t) x f.1.related going w.0 w.1 in
              let e = spent-add b.step cost_b f.0 more.0 t in
              let z = more.2 in
              covers-trans x (b.run (iterate b.step more.0 (iterate b.step f.0 t))) y more.1
              (subst (λ z. Covers (b.run z) y) (iterate-add b.step f.0 more.0 t)
              (paid-covers b gb cost_b part_b t (factor * (m + 1)) y q (f.0 + more.0) (omega (arith, o, v, owes, e, z))))
        ]

    -- and the second's against the first's
    pub second-covered : (m : ℕ) (x y : Run Event End) → Payment a.step a.run cost_a part_a s (factor * (m + 1)) x → Payment b.step b.run cost_b part_b t m y → Covers y x
    second-covered m x y p q =
        let f = follow p.steps s t related in
        let same = charges.agree (iterate a.step p.steps s) (iterate b.step f.0 t) f.1.related in
        elim (going_or_not x.standing) [
          | inl going ↦
              let u = f.1.duly (is-going going) in
              let lacks = p.lacks going in
              let last = spent-add a.step cost_a p.steps 1 s in
              let c = charges.cheap (iterate a.step p.steps s) in
              let eq : p.steps + 1 ≡ suc p.steps = omega arith in
              let last2 : spent_a (suc p.steps) s ≡ spent_a p.steps s + (cost_a (iterate a.step p.steps s) + 0) = sym (ap (λ n. spent_a n s) eq) ∙ last in
              let enough : factor * (m + 1) ≤ factor * spent_b f.0 t + (charges.due s t related + 1) = omega (arith, u, lacks, last2, c) in
              let lt = more-than factor m (spent_b f.0 t) (charges.due s t related + 1) enough (omega (arith, dues)) in
              let paid = q.paid in
              let before = spent-before b.step cost_b q.steps f.0 t (omega (arith, lt, paid)) in
              covers-trans y (b.run (iterate b.step f.0 t)) x (up-to f.0 before)
              (covers-trans (b.run (iterate b.step f.0 t)) (a.run (iterate a.step p.steps s)) x (covers-is (b.run (iterate b.step f.0 t)) (a.run (iterate a.step p.steps s)) (sym same)) past)
          | inr over ↦
              let is : a.run (iterate a.step p.steps s) ≡ x = is-over over in
              let still : IsOver (b.run (iterate b.step f.0 t)) = subst IsOver (sym is ∙ same) over in
              covers-trans y (b.run (iterate b.step f.0 t)) x (all-of f.0 still) (covers-is (b.run (iterate b.step f.0 t)) x (sym same ∙ is))
        ]
      where
        past : Covers (a.run (iterate a.step p.steps s)) x
        past = elim p.shown [ inl is ↦ covers-is (a.run (iterate a.step p.steps s)) x is | inr w ↦ w.1.past ]

        is-over : IsOver x → a.run (iterate a.step p.steps s) ≡ x
        is-over over = elim p.shown [ inl is ↦ is | inr w ↦ absurd (over w.1.going) ]

        is-going : x.standing ≡ Going → (a.run (iterate a.step p.steps s)).standing ≡ Going
        is-going going = elim (going_or_not (a.run (iterate a.step p.steps s)).standing) [
          | inl h ↦ h
          | inr over ↦ sym (ap (λ r. r.standing) (past.ends over)) ∙ going
        ]

        up-to : (n : ℕ) → q.steps < n → Covers y (b.run (iterate b.step n t))
        up-to n lt = elim q.shown [
          | inl is ↦ subst (λ r. Covers r (b.run (iterate b.step n t))) is (later-covers b gb q.steps n t (omega (arith, lt)))
          | inr w ↦ next-covers b gb q.steps n t y w.1.short (later-covers b gb (q.steps + 1) n t (omega (arith, lt)))
        ]

        all-of : (n : ℕ) → IsOver (b.run (iterate b.step n t)) → Covers y (b.run (iterate b.step n t))
        all-of n over = elim q.shown [
          | inl is ↦ subst (λ r. Covers r (b.run (iterate b.step n t))) is (over-covers b gb q.steps n t over)
          | inr w ↦ next-covers b gb q.steps n t y w.1.short (over-covers b gb (q.steps + 1) n t over)
        ]

  pub units-matched : (big_a big_b : Meaning World Event End) → Paid big_a a cost_a part_a → Paid big_b b cost_b part_b → Matched factor big_a big_b
  units-matched big_a big_b paid_a paid_b = λ w m. (
    first-covered (a.begun w) (b.begun w) (charges.starts w) (charges.owes w) (charges.dues w) m (big_a w m) (big_b w (factor * (m + 1))) (paid_a w m) (paid_b w (factor * (m + 1))),
    second-covered (a.begun w) (b.begun w) (charges.starts w) (charges.owes w) (charges.dues w) m (big_a w (factor * (m + 1))) (big_b w m) (paid_a w (factor * (m + 1))) (paid_b w m),
  )

-- where each matches the other within a factor, they are tied
pub matched-tied : {World Event End : Type 0} (factor : ℕ) (a b : Meaning World Event End) → Steady a → Steady b → Matched factor a b → Tied a b
matched-tied factor a b sa sb matched = record {
  there = factor;
  back = factor;
  covered = λ w n k le. covers-trans (a w n) (b w (factor * (n + 1))) (b w k) (matched w n).0 (sb w (factor * (n + 1)) k le);
  covers = λ w n k le. covers-trans (b w n) (a w (factor * (n + 1))) (a w k) (matched w n).1 (sa w (factor * (n + 1)) k le);
}
