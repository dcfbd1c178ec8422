-- The counter of a small program.
use Rattle.std.proofs.Common.{◌≡◌, ◌⊎◌, ◌<◌, true, false, if◌then◌else◌, ◌==◌, refl, ap, sym, ◌∙◌, subst, arith, inl, inr}
use Rattle.std.proofs.lemmas.Bool.Decides.{eqb_tells}
use Rattle.control_flow_theory.specs.language.Language.{Main}
use Rattle.control_flow_theory.specs.semantics.Graph.{Label, end_of}
use Rattle.control_flow_theory.specs.lowering.FlowFacts.{IsSource}
use Rattle.control_flow_theory.specs.lowering.Lowered.{lowered}
use Rattle.control_flow_theory.specs.lowering.Reached.{JumpsTo, IsReached, entered, jumped}
use Rattle.control_flow_theory.specs.lowering.WellFormed.{AreJustReached}
use Rattle.control_flow_theory.specs.lowering.Examples.{plainly, counted}
use Rattle.control_flow_theory.specs.main_theorem.NamedCellsExample.{counted_kept, counter_first, one_counter, OneCounterIsNamed}
use Rattle.control_flow_theory.proofs.main_theorem_lemmas.graphs.NamedCells.{counters-named}

abbrev IsOne : Label → Type 0
IsOne label = (label ≡ 0) ⊎ ((label ≡ 13) ⊎ (label ≡ 21))

abbrev Jumps : Label → Label → Type 0
Jumps to label = JumpsTo to (end_of ((lowered plainly counted).node Main label))

from-start : (to : Label) → Jumps to 0 → IsOne to
from-start to j = inr (inl (sym j))

from-head : (to : Label) → Jumps to 13 → IsOne to
from-head to (inl (inl e)) = inl (sym e)
from-head to (inl (inr (inl e))) = inr (inr (sym e))
from-head to (inl (inr (inr e))) = absurd e
from-head to (inr (inl e)) = absurd e
from-head to (inr (inr e)) = absurd e

from-inside : (to : Label) → Jumps to 21 → IsOne to
from-inside to j = inr (inl (sym j))

goes-to-one : (label to : Label) → IsOne label → Jumps to label → IsOne to
goes-to-one label to (inl e) j = from-start to (subst (Jumps to) e j)
goes-to-one label to (inr (inl e)) j = from-head to (subst (Jumps to) e j)
goes-to-one label to (inr (inr e)) j = from-inside to (subst (Jumps to) e j)

is-one : (label : Label) → IsReached (lowered plainly counted) Main label → IsOne label
is-one l entered = inl refl
is-one l (jumped label to h j) = goes-to-one label to (is-one label h) j

kept-one : (label : Label) → IsOne label → counted_kept Main label ≡ true
kept-one label (inl e) = ap (counted_kept Main) e
kept-one label (inr (inl e)) = ap (counted_kept Main) e
kept-one label (inr (inr e)) = ap (counted_kept Main) e

abbrev Comes : Label → Type 0
Comes = IsReached (lowered plainly counted) Main

comes-head : Comes 13
comes-head = jumped 0 13 entered refl

comes-inside : Comes 21
comes-inside = jumped 13 21 comes-head (inl (inr (inl refl)))

one-comes : (label : Label) → counted_kept Main label ≡ true → Comes label
one-comes label is = elim (eqb_tells label 0) [
  | inl h ↦ subst Comes (sym h.1) entered
  | inr h ↦ elim (eqb_tells label 13) [
    | inl k ↦ subst Comes (sym k.1) comes-head
    | inr k ↦ elim (eqb_tells label 21) [
      | inl m ↦ subst Comes (sym m.1) comes-inside
      | inr m ↦ absurd (let a : counted_kept Main label ≡ (if label == 13 then true else label == 21) = ap (λ b. if b then true else (if label == 13 then true else label == 21)) h.0 in
          let c : (if label == 13 then true else label == 21) ≡ (label == 21) = ap (λ b. if b then true else label == 21) k.0 in
          let d : true ≡ false = sym is ∙ a ∙ c ∙ m.0 in cc)
    ]
  ]
]

just : AreJustReached plainly counted Main (counted_kept Main)
just = (one-comes, λ label h. kept-one label (is-one label h))

below : 0 < 1
below = omega arith

counted-source : IsSource plainly counted
counted-source = (
  (((tt, (tt, (below, tt))), tt), (((tt, (((tt, refl), ((below, tt), tt), tt), (tt, tt))), tt), tt)),
  tt,
)

pub one-counter : OneCounterIsNamed
one-counter = (
  just,
  counters-named plainly counted counted_kept counter_first one_counter Main counted-source just
      ((((λ e. absurd (let k : false ≡ true = e in cc), (tt, (tt, tt))), tt), (((λ e. refl, (((tt, tt), tt), (tt, tt))), tt), tt)), tt),
)
