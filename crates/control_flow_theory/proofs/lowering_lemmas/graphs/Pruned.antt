-- What isn't reached makes no difference to a walk.
use Rattle.std.proofs.Common.{◌≡◌, ℕ, zero, suc, Bool, true, false, if◌then◌else◌, nat_eq, List, [], ◌∷◌, ◌++◌, refl, ap, sym, ◌∙◌, subst, inl, inr, Option, Some, None}
use Rattle.std.proofs.lemmas.Bool.Decides.{eqb_tells}
use Rattle.control_flow_theory.specs.runs.Run.{Going, Over}
use Rattle.control_flow_theory.specs.runs.Machine.{iterate}
use Rattle.control_flow_theory.specs.semantics.Outcome.{Standing, Tried, Got, Ends}
use Rattle.control_flow_theory.specs.language.Language.{Program, Range, Part}
use Rattle.control_flow_theory.specs.semantics.Doing.{Acting, Celled, celled}
use Rattle.control_flow_theory.specs.language.Items.{Item}
use Rattle.control_flow_theory.specs.semantics.Items.{Way, On, Halts, Into, To, ToEnd, item_way}
use Rattle.control_flow_theory.specs.semantics.Graph.{Label, Tree, tree, End, Pick, Jump, Return, Stop, Dead, Trees, no_more, more, end_of, Family}
use Rattle.control_flow_theory.specs.semantics.Walk.{Level, Walk, level_at, walk_goes, picked, picks, tree_at, returns, walk_end, walk_items, walk_by, walk_step, walk_begun}
use Rattle.control_flow_theory.specs.lowering.FlowFacts.{FlowFacts}
use Rattle.control_flow_theory.specs.lowering.Lower.{end_alone, Node}
use Rattle.control_flow_theory.specs.lowering.Lowered.{find, nodes_of, lowered}
use Rattle.control_flow_theory.specs.lowering.Reached.{JumpsTo, ArmsJumpTo, IsReached, entered, jumped, kept, kept_nodes, AreReached}

abbrev end_of_some : Option Tree → End
end_of_some None = Dead
end_of_some (Some t) = end_of t

module _ {Memory Left : Type 0} (acting : Acting Memory) (left : Memory → Left) (family : Family) (keep : Range → Label → Bool) (reached : AreReached family keep) where
  abbrev Walking : Type 0
  Walking = Walk Memory Left

  abbrev short : Family
  short = kept keep family

  -- all that the end jumps to is reached
  abbrev EndReached : Range → End → Type 0
  EndReached range end = (label : Label) → JumpsTo label end → IsReached family range label

  abbrev AllReached : List Level → Type 0
  AllReached [] = Unit {0}
  AllReached (level ∷ levels) = EndReached level.range level.end × AllReached levels

  abbrev WalkReached : Walking → Type 0
  WalkReached w = AllReached (w.level ∷ w.callers)

  same-node : (range : Range) (label : Label) → IsReached family range label → short.node range label ≡ family.node range label
  same-node range label h = ap (λ b. if b then family.node range label else end_alone Dead) (reached range label h)

  node-reached : (range : Range) (label : Label) → IsReached family range label → EndReached range (end_of (family.node range label))
  node-reached range label h = λ to j. jumped label to h j

  -- the next states are the same, and reached
  abbrev Same : Walking → Walking → Type 0
  Same v w = (v ≡ w) × WalkReached w

  goes-same : (w : Walking) (way : Way (Celled Memory)) → WalkReached w → Same (walk_goes acting left short way w) (walk_goes acting left family way w)
  goes-same w (On t m items) h = (refl, h)
  goes-same w (Halts t how m) h = (refl, h)
  goes-same w (Into e x items) h = (
    ap (λ t. record w { level = level_at (Part e x) t; callers = record { range = w.level.range; items = items; end = w.level.end } ∷ w.callers }) (same-node (Part e x) (family.entry (Part e x)) entered),
    (node-reached (Part e x) (family.entry (Part e x)) entered, h),
  )
  goes-same w (To t m to) h = (refl, h)
  goes-same w (ToEnd t m to) h = (refl, h)

  picked-same : (w : Walking) (found : Option Tree) → AllReached w.callers → ((t : Tree) → found ≡ Some t → EndReached w.level.range (end_of t)) → WalkReached w → Same (picked acting left short found w) (picked acting left family found w)
  picked-same w None hs k h = (refl, h)
  picked-same w (Some t) hs k h = (refl, (k t refl, hs))

  arm-reached : (range : Range) (arms : Trees) (k : ℕ) (t : Tree) → ((label : Label) → ArmsJumpTo label arms → IsReached family range label) → tree_at arms k ≡ Some t → EndReached range (end_of t)
  arm-reached range no_more k t h e = cc
  arm-reached range (more (tree body end) others) zero t h e = λ label j. h label (inl (subst (λ o. JumpsTo label (end_of_some o)) (sym e) j))
  arm-reached range (more (tree body end) others) (suc k) t h e = arm-reached range others k t (λ label j. h label (inr j)) e

  picks-same : (w : Walking) (arms : Trees) (a : Tried (Celled Memory) ℕ) → ((label : Label) → ArmsJumpTo label arms → IsReached family w.level.range label) → WalkReached w → Same (picks acting left short arms a w) (picks acting left family arms a w)
  picks-same w arms (Got t k m) g h = picked-same (record w { memory = m; run = record { trace = w.run.trace ++ t; standing = w.run.standing } }) (tree_at arms k) h.1 (λ o e. arm-reached w.level.range arms k o g e) h
  picks-same w arms (Ends t kind m) g h = (refl, h)

  returns-same : (w : Walking) (callers : List Level) → AllReached callers → WalkReached w → Same (returns acting left short callers w) (returns acting left family callers w)
  returns-same w [] hs h = (refl, h)
  returns-same w (top ∷ others) hs h = (refl, hs)

  end-same : (w : Walking) (end : End) → EndReached w.level.range end → WalkReached w → Same (walk_end acting left short end w) (walk_end acting left family end w)
  end-same w (Pick picker arms) g h = picks-same w arms ((celled acting w.level.range).pick picker w.memory) g h
  end-same w (Jump to) g h =
      (ap (λ t. record w { level = level_at w.level.range t }) (same-node w.level.range to (g to refl)), (node-reached w.level.range to (g to refl), h.1))
  end-same w Return g h = returns-same w w.callers h.1 h
  end-same w Stop g h = (refl, h)
  end-same w Dead g h = (refl, h)

  items-same : (w : Walking) (items : List Item) → WalkReached w → Same (walk_items acting left short items w) (walk_items acting left family items w)
  items-same w [] h = end-same w w.level.end h.0 h
  items-same w (x ∷ rest) h = goes-same w (item_way (celled acting w.level.range) x rest w.memory) h

  step-same : (standing : Standing Left) (w : Walking) → WalkReached w → Same (walk_by acting left short standing w) (walk_by acting left family standing w)
  step-same Going w h = items-same w w.level.items h
  step-same (Over ending) w h = (refl, h)

  steps-same : (n : ℕ) (v w : Walking) → Same v w → Same (iterate (walk_step acting left short) n v) (iterate (walk_step acting left family) n w)
  steps-same zero v w h = h
  steps-same (suc n) v w h =
      let s = step-same w.run.standing w h.1 in
      steps-same n (walk_step acting left short v) (walk_step acting left family w) (ap (walk_step acting left short) h.0 ∙ s.0, s.1)

  pub same-walks : (range : Range) (m : Celled Memory) (n : ℕ) → (iterate (walk_step acting left short) n (walk_begun acting left short range m)).run ≡ (iterate (walk_step acting left family) n (walk_begun acting left family range m)).run
  same-walks range m n =
      let e : walk_begun acting left short range m ≡ walk_begun acting left family range m =
      ap (λ t. record { level = level_at range t; callers = []; memory = m; run = record { trace = []; standing = Going } }) (same-node range (family.entry range) entered) in
      ap (λ w. w.run) (steps-same n (walk_begun acting left short range m) (walk_begun acting left family range m) (e, (node-reached range (family.entry range) entered, tt))).0

-- the shorter list
short-find : (keep : Label → Bool) (label : Label) (xs : List Node) → (if keep label then find label xs else end_alone Dead) ≡ find label (kept_nodes keep xs)
short-find keep label [] = elim (keep label) as (λ b. (if b then end_alone Dead else end_alone Dead) ≡ end_alone Dead) [ true ↦ refl | false ↦ refl ]
short-find keep label (x ∷ xs) =
    elim (eqb_tells x.key label) [
      | inl e ↦
          let whole : Tree = if nat_eq x.key label then x.tree else find label xs in
          let same : keep label ≡ keep x.key = sym (ap keep e.1) in
          ap (λ b. if b then whole else end_alone Dead) same
          ∙ (elim (keep x.key) as (λ b. keep label ≡ b → (if b then whole else end_alone Dead) ≡ find label (if b then x ∷ kept_nodes keep xs else kept_nodes keep xs)) [
            | true ↦ λ is. ap (λ t. if t then x.tree else find label xs) e.0 ∙ sym (ap (λ t. if t then x.tree else find label (kept_nodes keep xs)) e.0)
            | false ↦ λ is. sym (ap (λ b. if b then find label xs else end_alone Dead) is) ∙ short-find keep label xs
          ]) same
      | inr e ↦
          ap (λ t. if keep label then t else end_alone Dead) (ap (λ b. if b then x.tree else find label xs) e.0) ∙ short-find keep label xs
          ∙ (elim (keep x.key) as (λ b. find label (kept_nodes keep xs) ≡ find label (if b then x ∷ kept_nodes keep xs else kept_nodes keep xs)) [
            | true ↦ sym (ap (λ b. if b then x.tree else find label (kept_nodes keep xs)) e.0)
            | false ↦ refl
          ])
    ]

pub kept-nodes-found : (told : FlowFacts) (program : Program) (keep : Range → Label → Bool) (range : Range) (label : Label) → (kept keep (lowered told program)).node range label ≡ find label (kept_nodes (keep range) (nodes_of told program range))
kept-nodes-found told program keep range label = short-find (keep range) label (nodes_of told program range)
