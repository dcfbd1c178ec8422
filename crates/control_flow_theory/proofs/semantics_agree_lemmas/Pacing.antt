-- Two meanings are tied where each run of the first stands between two runs of the second.
use Rattle.std.proofs.Common.{◌≡◌, ℕ, ◌+◌, ◌*◌, ◌<◌, ◌≤◌, arith, inl, inr}
use Rattle.std.proofs.Math.Nat.{mul-le-mul_left}
use Rattle.control_flow_theory.specs.runs.Run.{Going, Covers}
use Rattle.control_flow_theory.specs.runs.Tied.{Meaning, Steady, Tied}
use Rattle.control_flow_theory.proofs.runs_lemmas.Ties.{covers-trans, over-covers, going_or_not, le_or}

-- each run of the first is between two of the second, the later one not much later, and the earlier one not much earlier where it goes on
pub record Enclosed {World Event End : Type 0} (a b : Meaning World Event End) : Type 0 where
  pub there : ℕ
  pub back : ℕ
  pub enclosed : (world : World) (n : ℕ) → (few : ℕ) × (many : ℕ) × Covers (b world few) (a world n) × Covers (a world n) (b world many) × (many ≤ there * (n + 1)) × ((a world n).standing ≡ Going → n ≤ back * (few + 1))

apart : (b m k k1 : ℕ) → (b + 1) * (m + 1) ≤ k → k ≤ b * (k1 + 1) → k1 < m → 1 ≤ 0
apart b m k k1 h g lt = let e : k1 + 1 ≤ m + 1 = omega arith in omega (arith, mul-le-mul_left b e, h, g)

pub enclosed-tied : {World Event End : Type 0} (a b : Meaning World Event End) → Steady b → Enclosed a b → Tied a b
enclosed-tied a b steady h = record {
  there = h.there;
  back = h.back + 1;
  covered = λ w n k le.
      let p = h.enclosed w n in
      covers-trans (a w n) (b w p.1) (b w k) p.3 (steady w p.1 k (omega (arith, p.4, le)));
  covers = λ w m k le.
      let p = h.enclosed w k in
      elim (going_or_not (a w k).standing) [
        | inl going ↦ elim (le_or m p.0) [
          | inl more ↦ covers-trans (b w m) (b w p.0) (a w k) (steady w m p.0 more) p.2
          | inr less ↦ absurd (let e : 1 ≤ 0 = apart h.back m k p.0 le (p.5 going) less in omega (arith, e))
        ]
        | inr over ↦ over-covers b steady w (a w k) p.1 m over (p.3.ends over)
      ];
}
