-- Laws of covers and ties.
use Rattle.std.proofs.Common.{◌≡◌, ◌≢◌, ℕ, zero, suc, ◌+◌, ◌*◌, ◌<◌, ◌≤◌, [], ◌++◌, refl, ap, sym, ◌∙◌, subst, append_assoc, append-nil, arith, ◌⊎◌, inl, inr}
use Rattle.std.proofs.Math.Nat.{mul-le-mul_left}
use Rattle.control_flow_theory.specs.runs.Run.{Standing, Going, Over, Run, IsOver, Begins, Covers}
use Rattle.control_flow_theory.specs.runs.Tied.{Meaning, Steady, Tied, Paced, ComesTo, EndAlike}

pub going_or_not : {End : Type 0} (s : Standing End) → (s ≡ Going) ⊎ (s ≢ Going)
going_or_not Going = inl refl
going_or_not (Over e) = inr (λ h. cc)

pub covers-refl : {Event End : Type 0} (a : Run Event End) → Covers a a
covers-refl a = record { shows = ([], sym (append-nil a.trace)); ends = λ h. refl }

pub covers-is : {Event End : Type 0} (a b : Run Event End) → a ≡ b → Covers a b
covers-is a b e = subst (Covers a) e (covers-refl a)

pub covers-trans : {Event End : Type 0} (a b c : Run Event End) → Covers a b → Covers b c → Covers a c
covers-trans a b c h g = record {
  shows = (h.shows.0 ++ g.shows.0, g.shows.1 ∙ ap (λ t. t ++ g.shows.0) h.shows.1 ∙ append_assoc a.trace h.shows.0 g.shows.0);
  ends = λ over.
      let e : b ≡ a = h.ends over in
      let still : IsOver b = subst IsOver (sym e) over in
      g.ends still ∙ e;
}

pub le_or : (m n : ℕ) → (m ≤ n) ⊎ (n < m)
le_or zero n = inl (omega arith)
le_or (suc m) zero = inr (omega arith)
le_or (suc m) (suc n) = elim (le_or m n) [ inl h ↦ inl (omega arith) | inr h ↦ inr (omega arith) ]

compose : (x y n k : ℕ) → (y * (x + 1)) * (n + 1) ≤ k → y * (x * (n + 1) + 1) ≤ k
compose x y n k h = let e : x * (n + 1) + 1 ≤ (x + 1) * (n + 1) = omega arith in omega (arith, mul-le-mul_left y e, h)

apart : (b m k k1 : ℕ) → (b + 1) * (m + 1) ≤ k → k ≤ b * (k1 + 1) → k1 < m → 1 ≤ 0
apart b m k k1 h g lt = let e : k1 + 1 ≤ m + 1 = omega arith in omega (arith, mul-le-mul_left b e, h, g)

past : (most n k j : ℕ) → most * (n + 1) ≤ k → j ≤ most → j ≤ k
past most n k j le few = let e : most * 1 ≤ most * (n + 1) = mul-le-mul_left most (omega arith) in omega (arith, e)

module _ {World Event End : Type 0} where
  pub tied-refl : (a : Meaning World Event End) → Steady a → Tied a a
  tied-refl a steady = record {
    there = 1;
    back = 1;
    covered = λ w n k le. steady w n k (omega arith);
    covers = λ w n k le. steady w n k (omega arith);
  }

  pub tied-sym : (a b : Meaning World Event End) → Tied a b → Tied b a
  tied-sym a b h = record { there = h.back; back = h.there; covered = h.covers; covers = h.covered }

  pub tied-trans : (a b c : Meaning World Event End) → Tied a b → Tied b c → Tied a c
  tied-trans a b c h g = record {
    there = g.there * (h.there + 1);
    back = h.back * (g.back + 1);
    covered = λ w n k le.
        covers-trans (a w n) (b w (h.there * (n + 1))) (c w k) (h.covered w n (h.there * (n + 1)) (omega arith)) (g.covered w (h.there * (n + 1)) k (compose h.there g.there n k le));
    covers = λ w n k le.
        covers-trans (c w n) (b w (g.back * (n + 1))) (a w k) (g.covers w n (g.back * (n + 1)) (omega arith)) (h.covers w (g.back * (n + 1)) k (compose g.back h.back n k le));
  }

  -- the run of the first at a large number of steps is the run of the second at one that is not below m, or it is over
  back-covers : (b : Meaning World Event End) (steady : Steady b) (w : World) (r : Run Event End) (back m k k1 : ℕ) → (back + 1) * (m + 1) ≤ k → r ≡ b w k1 → (r.standing ≡ Going → k ≤ back * (k1 + 1)) → (m ≤ k1) ⊎ (k1 < m) → Covers (b w m) r
  back-covers b steady w r back m k k1 le is pace (inl more) = covers-trans (b w m) (b w k1) r (steady w m k1 more) (covers-is (b w k1) r (sym is))
  back-covers b steady w r back m k k1 le is pace (inr less) =
      elim (going_or_not r.standing) [
        | inl going ↦ absurd (let e : 1 ≤ 0 = apart back m k k1 le (pace going) less in omega (arith, e))
        | inr over ↦ covers-is (b w m) r (
            let still : IsOver (b w k1) = subst IsOver is over in
            (steady w k1 m (omega arith)).ends still ∙ sym is)
      ]

  pub paced-tied : (a b : Meaning World Event End) → Steady b → Paced a b → Tied a b
  paced-tied a b steady h = record {
    there = h.there;
    back = h.back + 1;
    covered = λ w n k le.
        let p = h.paced w n in
        covers-trans (a w n) (b w p.0) (b w k) (covers-is (a w n) (b w p.0) p.1) (steady w p.0 k (omega (arith, p.2, le)));
    covers = λ w m k le.
        let p = h.paced w k in
        back-covers b steady w (a w k) h.back m k p.0 le p.1 p.3 (le_or m p.0);
  }

  -- past the step where a run is over it is that run
  pub over-stays : (a : Meaning World Event End) → Steady a → (w : World) (r : Run Event End) (n k : ℕ) → IsOver r → a w n ≡ r → n ≤ k → a w k ≡ r
  over-stays a steady w r n k over is le = (steady w n k le).ends (subst IsOver (sym is) over) ∙ is

  -- any run of a meaning is covered by the one that is over
  pub over-covers : (a : Meaning World Event End) → Steady a → (w : World) (r : Run Event End) (n k : ℕ) → IsOver r → a w n ≡ r → Covers (a w k) r
  over-covers a steady w r n k over is =
      elim (le_or k n) [
        | inl le ↦ subst (Covers (a w k)) is (steady w k n le)
        | inr lt ↦ covers-is (a w k) r (over-stays a steady w r n k over is (omega arith))
      ]

  pub ended-tied : (a b : Meaning World Event End) → Steady a → Steady b → EndAlike a b → Tied a b
  ended-tied a b sa sb h = record {
    there = h.most;
    back = h.most;
    covered = λ w n k le.
        let p = h.first w in
        let q = h.second w in
        subst (Covers (a w n)) (sym (over-stays b sb w (h.whole w) q.0 k (h.over w) q.2 (past h.most n k q.0 le q.1)))
        (over-covers a sa w (h.whole w) p.0 n (h.over w) p.2);
    covers = λ w n k le.
        let p = h.first w in
        let q = h.second w in
        subst (Covers (b w n)) (sym (over-stays a sa w (h.whole w) p.0 k (h.over w) p.2 (past h.most n k p.0 le p.1)))
        (over-covers b sb w (h.whole w) q.0 n (h.over w) q.2);
  }

  -- worlds may be renamed, or some of them left out
  pub tied-at : {Other : Type 0} (world_of : Other → World) (a b : Meaning World Event End) → Tied a b → Tied {World = Other} (λ w. a (world_of w)) (λ w. b (world_of w))
  tied-at world_of a b h = record {
    there = h.there;
    back = h.back;
    covered = λ w. h.covered (world_of w);
    covers = λ w. h.covers (world_of w);
  }

  -- what tied meanings have in common, without the numbers
  pub tied-shows : (a b : Meaning World Event End) → Tied a b → (w : World) (n : ℕ) → (k : ℕ) × Begins (a w n).trace (b w k).trace
  tied-shows a b h w n = (h.there * (n + 1), (h.covered w n (h.there * (n + 1)) (omega arith)).shows)

  pub tied-comes : (a b : Meaning World Event End) → Tied a b → (w : World) (r : Run Event End) → IsOver r → ComesTo a w r → ComesTo b w r
  tied-comes a b h w r over comes =
      let n = comes.0 in
      let k = h.there * (n + 1) in
      (k, (h.covered w n k (omega arith)).ends (subst IsOver (sym comes.1) over) ∙ comes.1)
