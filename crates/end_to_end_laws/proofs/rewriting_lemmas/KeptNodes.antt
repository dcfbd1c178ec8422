-- For each range there is a choice of exactly the nodes that are reached.
use Rattle.std.proofs.Common.{◌≡◌, Bool, true, false, if◌then◌else◌, ◌==◌, List, [], ◌∷◌, ◌++◌, refl, ap, sym, ◌∙◌, subst, ◌⊎◌, inl, inr}
use Rattle.control_flow_theory.specs.language.Language.{Program, Range}
use Rattle.control_flow_theory.specs.semantics.Graph.{Label, tree, End, Pick, Jump, Return, Stop, Dead, Trees, no_more, more, end_of}
use Rattle.control_flow_theory.specs.lowering.FlowFacts.{FlowFacts}
use Rattle.control_flow_theory.specs.lowering.Lower as lower
use Rattle.control_flow_theory.specs.lowering.Lowered.{find, nodes_of, lowered}
use Rattle.control_flow_theory.specs.lowering.Reached.{JumpsTo, ArmsJumpTo, IsReached, entered, jumped}
use Rattle.control_flow_theory.specs.lowering.WellFormed.{AreJustReached}
use Rattle.control_flow_theory.proofs.semantics_lemmas.Ranges.{eq-self}
use Rattle.std.proofs.lemmas.Bool.Decides.{eqb_tells}
use Rattle.end_to_end_laws.proofs.rewriting_lemmas.Reachable.{is_one, one-before, one-behind, Comes, enters, leads, decided}

-- the labels that an end jumps to
abbrev mutual
  pub end_jumps : End → List Label
  end_jumps (Pick picker arms) = arms_jump arms
  end_jumps (Jump to) = to ∷ []
  end_jumps Return = []
  end_jumps Stop = []
  end_jumps Dead = []

  pub arms_jump : Trees → List Label
  arms_jump no_more = []
  arms_jump (more (tree body end) others) = end_jumps end ++ arms_jump others

mutual
  jumps-one : (to : Label) (end : End) → JumpsTo to end → is_one to (end_jumps end) ≡ true
  jumps-one to (Pick picker arms) = λ jumps. arms-one to arms jumps
  jumps-one to (Jump label) = λ jumps. ap (λ b. if b then true else false) (subst (λ l. (label == l) ≡ true) jumps (eq-self label))
  jumps-one to Return = λ jumps. absurd jumps
  jumps-one to Stop = λ jumps. absurd jumps
  jumps-one to Dead = λ jumps. absurd jumps

  arms-one : (to : Label) (arms : Trees) → ArmsJumpTo to arms → is_one to (arms_jump arms) ≡ true
  arms-one to no_more = λ jumps. absurd jumps
  arms-one to (more (tree body end) others) = λ jumps. elim jumps [
    | inl first ↦ one-before to (end_jumps end) (arms_jump others) (jumps-one to end first)
    | inr later ↦ one-behind to (end_jumps end) (arms_jump others) (arms-one to others later)
  ]

one-of : (label : Label) (one other : List Label) → is_one label (one ++ other) ≡ true → (is_one label one ≡ true) ⊎ (is_one label other ≡ true)
one-of label [] other is = inr is
one-of label (first ∷ one) other is =
    elim (first == label) as (λ b. (if b then true else is_one label (one ++ other)) ≡ true → ((if b then true else is_one label one) ≡ true) ⊎ (is_one label other ≡ true)) [
      | true ↦ λ is. inl refl
      | false ↦ λ is. one-of label one other is
    ] is

mutual
  one-jumps : (to : Label) (end : End) → is_one to (end_jumps end) ≡ true → JumpsTo to end
  one-jumps to (Pick picker arms) = λ is. one-arms to arms is
  one-jumps to (Jump label) = λ is. elim (eqb_tells label to) [
    | inl e ↦ e.1
    | inr e ↦ let no : false ≡ true = sym (ap (λ b. if b then true else false) e.0) ∙ is in cc
  ]
  one-jumps to Return = λ is. cc
  one-jumps to Stop = λ is. cc
  one-jumps to Dead = λ is. cc

  one-arms : (to : Label) (arms : Trees) → is_one to (arms_jump arms) ≡ true → ArmsJumpTo to arms
  one-arms to no_more = λ is. cc
  one-arms to (more (tree body end) others) = λ is. elim (one-of to (end_jumps end) (arms_jump others) is) [
    | inl first ↦ inl (one-jumps to end first)
    | inr later ↦ inr (one-arms to others later)
  ]

abbrev keys_of : List lower.Node → List Label
keys_of [] = []
keys_of (one ∷ others) = one.key ∷ keys_of others

-- a label that no node has leads nowhere
nowhere : (nodes : List lower.Node) (label : Label) → is_one label (keys_of nodes) ≡ false → end_jumps (end_of (find label nodes)) ≡ []
nowhere [] label away = refl
nowhere (one ∷ others) label away =
    elim (one.key == label) as (λ b. (if b then true else is_one label (keys_of others)) ≡ false → end_jumps (end_of (if b then one.tree else find label others)) ≡ []) [
      | true ↦ λ away. cc
      | false ↦ λ away. nowhere others label away
    ] away

module _ (told : FlowFacts) (program : Program) (range : Range) where
  abbrev nodes : List lower.Node
  nodes = nodes_of told program range

  abbrev go : Label → List Label
  go label = end_jumps (end_of (find label nodes))

  abbrev entry : Label
  entry = (lowered told program).entry range

  comes-reached : (label : Label) → Comes (keys_of nodes) go entry label → IsReached (lowered told program) range label
  comes-reached label enters = entered
  comes-reached label (leads from to comes go_on) = jumped from to (comes-reached from comes) (one-jumps to (end_of (find from nodes)) go_on)

  reached-comes : (label : Label) → IsReached (lowered told program) range label → Comes (keys_of nodes) go entry label
  reached-comes label entered = enters
  reached-comes label (jumped from to reached jumps) = leads from to (reached-comes from reached) (jumps-one to (end_of (find from nodes)) jumps)

  -- the nodes that are reached, and no other
  pub nodes-kept : (keep : Label → Bool) × AreJustReached told program range keep
  nodes-kept =
      let found = decided (keys_of nodes) go entry (λ label away. nowhere nodes label away) in
      (found.0, (λ label is. comes-reached label (found.1 label is), λ label reached. found.2 label (reached-comes label reached)))
