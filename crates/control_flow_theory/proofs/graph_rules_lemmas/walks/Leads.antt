-- Some steps lead from a state to another one, at this cost.
use Rattle.std.proofs.Common.{◌≡◌, ℕ, ◌+◌, refl, ap, ◌∙◌, arith}
use Rattle.control_flow_theory.specs.runs.Machine.{iterate}
use Rattle.control_flow_theory.proofs.runs_lemmas.Machines.{iterate-add}
use Rattle.control_flow_theory.specs.graph_rules.Charged.{spent}
use Rattle.control_flow_theory.proofs.graph_rules_lemmas.walks.Charges.{spent-add}

module _ {State : Type 0} (step : State → State) (cost : State → ℕ) where
  abbrev pub Leads : State → State → ℕ → Type 0
  Leads s t c = (k : ℕ) × (iterate step k s ≡ t) × (spent step cost k s ≡ c)

  pub leads-here : (s : State) → Leads s s 0
  leads-here s = (0, refl, refl)

  pub leads-step : (s t : State) (c : ℕ) → step s ≡ t → cost s ≡ c → Leads s t c
  leads-step s t c e f = (1, e, omega (arith, f))

  pub leads-then : (s t u : State) (c d : ℕ) → Leads s t c → Leads t u d → Leads s u (c + d)
  leads-then s t u c d h g = (
    h.0 + g.0,
    iterate-add step h.0 g.0 s ∙ ap (iterate step g.0) h.1 ∙ g.1,
    (let a = spent-add step cost h.0 g.0 s in let b = ap (spent step cost g.0) h.1 in let x = h.2 in let y = g.2 in omega (arith, a, b, x, y)),
  )

  pub leads-is : (s t : State) (c d : ℕ) → c ≡ d → Leads s t c → Leads s t d
  leads-is s t c d e h = (h.0, h.1, h.2 ∙ e)
