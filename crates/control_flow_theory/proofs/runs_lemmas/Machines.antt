-- Laws of machines: how steps compose, and that a machine which another one simulates is tied to it.
use Rattle.std.proofs.Common.{◌≡◌, ℕ, zero, suc, ◌+◌, ◌-◌, ◌*◌, ◌≤◌, refl, ap, sym, ◌∙◌, subst, arith, inl, inr}
use Rattle.control_flow_theory.specs.runs.Run.{Going, IsOver, Covers}
use Rattle.control_flow_theory.specs.runs.Tied.{Steady, Tied, Paced, ComesTo, ComesToWithin}
use Rattle.control_flow_theory.specs.runs.Machine.{iterate, Reaches, ReachesWithin, Machine, meaning, Grows, Simulates}
use Rattle.control_flow_theory.proofs.runs_lemmas.Ties.{going_or_not, covers-refl, covers-trans, paced-tied, le_or}

module _ {State : Type 0} (step : State → State) where
  pub iterate-add : (k n : ℕ) (s : State) → iterate step (k + n) s ≡ iterate step n (iterate step k s)
  iterate-add zero n s = let e : 0 + n ≡ n = omega arith in ap (λ m. iterate step m s) e
  iterate-add (suc k) n s = let e : suc k + n ≡ suc (k + n) = omega arith in ap (λ m. iterate step m s) e ∙ iterate-add k n (step s)

  pub reaches-refl : (s : State) → Reaches step s s
  reaches-refl s = (0, refl)

  pub reaches-is : (s t : State) → s ≡ t → Reaches step s t
  reaches-is s t e = (0, e)

  pub reaches-trans : (s t u : State) → Reaches step s t → Reaches step t u → Reaches step s u
  reaches-trans s t u h g = (h.0 + g.0, iterate-add h.0 g.0 s ∙ ap (iterate step g.0) h.1 ∙ g.1)

  -- a step before, and a step after
  pub reaches-step : (s t : State) → Reaches step (step s) t → Reaches step s t
  reaches-step s t h = (suc h.0, h.1)

  pub reaches-stepped : (s t : State) → Reaches step s t → Reaches step s (step t)
  reaches-stepped s t h = reaches-trans s t (step t) h (1, refl)

  pub within-refl : (s : State) → ReachesWithin 0 step s s
  within-refl s = (0, omega arith, refl)

  pub within-trans : (m n : ℕ) (s t u : State) → ReachesWithin m step s t → ReachesWithin n step t u → ReachesWithin (m + n) step s u
  within-trans m n s t u h g = (h.0 + g.0, omega (arith, h.1, g.1), iterate-add h.0 g.0 s ∙ ap (iterate step g.0) h.2 ∙ g.2)

  pub within-step : (n : ℕ) (s t : State) → ReachesWithin n step (step s) t → ReachesWithin (suc n) step s t
  within-step n s t h = (suc h.0, omega (arith, h.1), h.2)

  pub within-more : (m n : ℕ) (s t : State) → m ≤ n → ReachesWithin m step s t → ReachesWithin n step s t
  within-more m n s t le h = (h.0, omega (arith, h.1, le), h.2)

  pub within-reaches : (n : ℕ) (s t : State) → ReachesWithin n step s t → Reaches step s t
  within-reaches n s t h = (h.0, h.2)

module _ {World Event End State : Type 0} (m : Machine World Event End State) (grows : Grows m) where
  pub iterate-more : (n : ℕ) (s : State) → Covers (m.run s) (m.run (iterate m.step n s))
  iterate-more zero s = covers-refl (m.run s)
  iterate-more (suc n) s = covers-trans (m.run s) (m.run (m.step s)) (m.run (iterate m.step n (m.step s))) (grows.more s) (iterate-more n (m.step s))

  pub iterate-stays : (n : ℕ) (s : State) → IsOver (m.run s) → iterate m.step n s ≡ s
  iterate-stays zero s over = refl
  iterate-stays (suc n) s over = ap (iterate m.step n) (grows.stays s over) ∙ iterate-stays n s over

  pub machine-steady : Steady (meaning m)
  machine-steady w k n le =
      let e : k + (n - k) ≡ n = omega arith in
      subst (λ x. Covers (m.run (iterate m.step k (m.begun w))) (m.run (iterate m.step x (m.begun w)))) e
      (subst (λ s. Covers (m.run (iterate m.step k (m.begun w))) (m.run s)) (sym (iterate-add m.step k (n - k) (m.begun w)))
      (iterate-more (n - k) (iterate m.step k (m.begun w))))

  -- what is reached shows all that was shown
  pub reaches-covers : (s t : State) → Reaches m.step s t → Covers (m.run s) (m.run t)
  reaches-covers s t h = subst (λ u. Covers (m.run s) (m.run u)) h.1 (iterate-more h.0 s)

  -- past a state that is over no other one comes
  pub reached-stays : (s t u : State) (k n : ℕ) → IsOver (m.run t) → iterate m.step k s ≡ t → iterate m.step n s ≡ u → k ≤ n → u ≡ t
  reached-stays s t u k n over h g le =
      let e : k + (n - k) ≡ n = omega arith in
      sym g ∙ ap (λ x. iterate m.step x s) (sym e) ∙ iterate-add m.step k (n - k) s ∙ ap (iterate m.step (n - k)) h ∙ iterate-stays (n - k) t over

  -- a state comes to at most one that is over
  pub reaches-one : (s t u : State) → IsOver (m.run t) → IsOver (m.run u) → Reaches m.step s t → Reaches m.step s u → t ≡ u
  reaches-one s t u over_t over_u h g =
      elim (le_or h.0 g.0) [
        | inl le ↦ sym (reached-stays s t u h.0 g.0 over_t h.1 g.1 le)
        | inr lt ↦ reached-stays s u t g.0 h.0 over_u g.1 h.1 (omega arith)
      ]

-- what a machine reaches its meaning comes to
pub reaches-comes : {World Event End State : Type 0} (m : Machine World Event End State) (w : World) (s : State) → Reaches m.step (m.begun w) s → ComesTo (meaning m) w (m.run s)
reaches-comes m w s h = (h.0, ap m.run h.1)

pub within-comes : {World Event End State : Type 0} (m : Machine World Event End State) (most : ℕ) (w : World) (s : State) → ReachesWithin most m.step (m.begun w) s → ComesToWithin most (meaning m) w (m.run s)
within-comes m most w s h = (h.0, h.1, ap m.run h.2)

module _ {World Event End A B : Type 0} (a : Machine World Event End A) (b : Machine World Event End B) (R : A → B → Type 0) (grows_a : Grows a) (sim : Simulates a b R) where
  -- after n steps of the first, from related states
  pub record Followed (n : ℕ) (s : A) (t : B) : Type 0 where
    pub steps : ℕ
    pub related : R (iterate a.step n s) (iterate b.step steps t)
    pub few : steps ≤ sim.most * n
    pub many : (a.run (iterate a.step n s)).standing ≡ Going → n + sim.weight (iterate a.step n s) ≤ sim.weight s + (sim.growth + 1) * steps

  pub follow : (n : ℕ) (s : A) (t : B) → R s t → Followed n s t
  follow zero s t r = record { steps = 0; related = r; few = omega arith; many = λ h. omega arith }
  follow (suc n) s t r =
      elim (going_or_not (a.run s).standing) [
        | inl going ↦
            let m = sim.moves s t r going in
            let f = follow n (a.step s) (iterate b.step m.0 t) m.1 in
            record {
              steps = m.0 + f.steps;
              related = subst (R (iterate a.step n (a.step s))) (sym (iterate-add b.step m.0 f.steps t)) f.related;
              few = omega (arith, m.2, f.few);
              many = λ h. omega (arith, m.3, f.many h);
            }
        | inr over ↦
            let e : iterate a.step (suc n) s ≡ s = iterate-stays a grows_a (suc n) s over in
            record {
              steps = 0;
              related = subst (λ x. R x t) (sym e) r;
              few = omega arith;
              many = λ h. absurd (over (subst (λ x. (a.run x).standing ≡ Going) e h));
            }
      ]

  pace : (first weight growth k n later : ℕ) → weight ≤ first → n + later ≤ weight + (growth + 1) * k → n ≤ (first + growth + 1) * (k + 1)
  pace first weight growth k n later h g = omega (arith, h, g)

  -- what the first reaches has a match that the second reaches
  pub simulated-reaches : (s s' : A) (t : B) → R s t → Reaches a.step s s' → (t' : B) × Reaches b.step t t' × R s' t'
  simulated-reaches s s' t r h =
      let f = follow h.0 s t r in
      (iterate b.step f.steps t, (f.steps, refl), subst (λ x. R x (iterate b.step f.steps t)) h.1 f.related)

  pub simulated-paced : Paced (meaning a) (meaning b)
  simulated-paced = record {
    there = sim.most;
    back = sim.first + sim.growth + 1;
    paced = λ w n.
        let f = follow n (a.begun w) (b.begun w) (sim.starts w) in
        (f.steps, sim.agree (iterate a.step n (a.begun w)) (iterate b.step f.steps (b.begun w)) f.related, omega (arith, f.few), (λ h. pace sim.first (sim.weight (a.begun w)) sim.growth f.steps n (sim.weight (iterate a.step n (a.begun w))) (sim.light w) (f.many h)));
  }

  pub simulated-tied : Grows b → Tied (meaning a) (meaning b)
  simulated-tied grows_b = paced-tied (meaning a) (meaning b) (machine-steady b grows_b) simulated-paced

-- where each step is one step or more of the second machine, no weight is needed
pub stepped-simulates : {World Event End A B : Type 0} (a : Machine World Event End A) (b : Machine World Event End B) (R : A → B → Type 0) (most : ℕ) →
    ((w : World) → R (a.begun w) (b.begun w)) →
    ((s : A) (t : B) → R s t → a.run s ≡ b.run t) →
    ((s : A) (t : B) → R s t → (a.run s).standing ≡ Going → (j : ℕ) × R (a.step s) (iterate b.step j t) × (1 ≤ j) × (j ≤ most)) →
    Simulates a b R
stepped-simulates a b R most starts agree moves = record {
  weight = λ s. 0;
  first = 0;
  most = most;
  growth = 0;
  light = λ w. omega arith;
  starts = starts;
  agree = agree;
  moves = λ s t r going. let m = moves s t r going in (m.0, m.1, m.3, omega (arith, m.2));
}
