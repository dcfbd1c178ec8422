-- The form of the graphs of reached nodes.
use Rattle.std.proofs.Common.{◌≡◌, ℕ, ◌+◌, ◌*◌, ◌<◌, Bool, true, false, if◌then◌else◌, List, [], ◌∷◌, refl, ap, sym, ◌∙◌, subst, arith, inl, inr}
use Rattle.std.specs.Prelude.{length}
use Rattle.control_flow_theory.specs.language.Language.{Program, Range}
use Rattle.control_flow_theory.specs.semantics.Graph.{Label, Tree, tree, End, Pick, Jump, Return, Stop, Dead, Trees, no_more, more, end_of}
use Rattle.control_flow_theory.specs.lowering.FlowFacts.{FlowFacts, IsSource}
use Rattle.control_flow_theory.specs.lowering.Lower.{Node}
use Rattle.control_flow_theory.specs.lowering.Rests.{Has}
use Rattle.control_flow_theory.specs.lowering.flow.Comes.{entry_of}
use Rattle.control_flow_theory.specs.lowering.Lowered.{place_in, find, nodes_of, lowered, Within}
use Rattle.control_flow_theory.specs.lowering.Reached.{JumpsTo, ArmsJumpTo, entered, jumped, kept_nodes}
use Rattle.control_flow_theory.specs.lowering.WellFormed.{IsLabelOf, IsWellEnd, AreWell, IsWellTree, AllAreWell, AreJustReached}
use Rattle.control_flow_theory.proofs.lowering_lemmas.graphs.Families.{within-lower, found-self, within-program}
use Rattle.control_flow_theory.proofs.lowering_lemmas.graphs.WellFormed.{all-well, named-label}

within-kept : (keep : Label → Bool) (a b : ℕ) (xs : List Node) → Within a b xs → Within a b (kept_nodes keep xs)
within-kept keep a b [] h = h
within-kept keep a b (x ∷ xs) h = elim (keep x.key) as (λ k. Within a b (if k then x ∷ kept_nodes keep xs else kept_nodes keep xs)) [
  | true ↦ (h.0, within-kept keep (x.key + 1) b xs h.1)
  | false ↦ within-lower (x.key + 1) a b (kept_nodes keep xs) (let e = h.0 in omega (arith, e)) (within-kept keep (x.key + 1) b xs h.1)
]

label-kept : (keep : Label → Bool) (xs : List Node) (l : Label) → keep l ≡ true → IsLabelOf xs l → IsLabelOf (kept_nodes keep xs) l
label-kept keep [] l k h = h
label-kept keep (x ∷ xs) l k (inl e) = subst (λ b. IsLabelOf (if b then x ∷ kept_nodes keep xs else kept_nodes keep xs) l) (sym (ap keep e ∙ k)) (inl e)
label-kept keep (x ∷ xs) l k (inr h) = elim (keep x.key) as (λ b. IsLabelOf (if b then x ∷ kept_nodes keep xs else kept_nodes keep xs) l) [
  | true ↦ inr (label-kept keep xs l k h)
  | false ↦ label-kept keep xs l k h
]

module _ (told : FlowFacts) (keep : Label → Bool) (labels : List Node) where
  mutual
    end-kept : (end : End) → IsWellEnd told labels end → ((l : Label) → JumpsTo l end → keep l ≡ true) → IsWellEnd told (kept_nodes keep labels) end
    end-kept (Pick picker arms) w h = (w.0, arms-kept arms w.1 h, w.2)
    end-kept (Jump to) w h = label-kept keep labels to (h to refl) w
    end-kept Return w h = tt
    end-kept Stop w h = tt
    end-kept Dead w h = tt

    arms-kept : (arms : Trees) → AreWell told labels arms → ((l : Label) → ArmsJumpTo l arms → keep l ≡ true) → AreWell told (kept_nodes keep labels) arms
    arms-kept no_more w h = tt
    arms-kept (more (tree body end) others) w h = (w.0, end-kept end w.1 (λ l j. h l (inl j)), arms-kept others w.2 (λ l j. h l (inr j)))

  tree-kept : (t : Tree) → IsWellTree told labels t → ((l : Label) → JumpsTo l (end_of t) → keep l ≡ true) → IsWellTree told (kept_nodes keep labels) t
  tree-kept (tree body end) w h = (w.0, end-kept end w.1 h)

module _ (told : FlowFacts) (program : Program) (range : Range) (keep : Label → Bool) (just : AreJustReached told program range keep) where
  abbrev labels : List Node
  labels = nodes_of told program range

  list-kept : (xs : List Node) → Has told (λ q. place_in program q) (λ l. find l labels) xs → AllAreWell told labels xs → AllAreWell told (kept_nodes keep labels) (kept_nodes keep xs)
  list-kept [] f w = tt
  list-kept (x ∷ xs) f w = elim (keep x.key) as (λ b. keep x.key ≡ b → AllAreWell told (kept_nodes keep labels) (if b then x ∷ kept_nodes keep xs else kept_nodes keep xs)) [
    | true ↦ λ is. (tree-kept told keep labels x.tree w.0 (λ l j. just.1 l (jumped x.key l (just.0 x.key is) (subst (λ t. JumpsTo l (end_of t)) (sym f.0) j))), list-kept xs f.1 w.1)
    | false ↦ λ is. list-kept xs f.1 w.1
  ] refl

  pub kept-well : IsSource told program → entry_of range < length program.paragraphs →
      AllAreWell told (kept_nodes keep labels) (kept_nodes keep labels) × IsLabelOf (kept_nodes keep labels) ((lowered told program).entry range) × ((high : ℕ) × Within 0 high (kept_nodes keep labels))
  kept-well source lt =
      let w = within-program told program range 0 0 program.paragraphs in (
        list-kept labels (found-self told (λ q. place_in program q) (3 * 0) w.0 labels w.1) (all-well told program range source),
        label-kept keep labels ((lowered told program).entry range) (just.1 ((lowered told program).entry range) entered) (named-label told program range (entry_of range) lt),
        (w.0, within-kept keep 0 w.0 labels w.1),
      )
