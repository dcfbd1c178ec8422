-- A node that has become a loop with a flag, as the rules on loops have it, is one that is gathered: so the law of loops with a flag is a case of the law of gathering.
use Rattle.std.proofs.Common.{ℕ, List, [], refl, inl, inr}
use Rattle.control_flow_theory.specs.language.Language.{Is, Stmts, Arms, Range}
use Rattle.control_flow_theory.specs.language.Items.{Item, before}
use Rattle.control_flow_theory.specs.semantics.Graph.{Label, Tree, tree, End, Pick, Jump, Return, Stop, Dead, Trees, no_more, more, Family}
use Rattle.control_flow_theory.specs.structuring.Gathers.{GathersEnd, GathersTree, GathersArms, Gathered}
use Rattle.control_flow_theory.specs.graph_rules.Loops.{Flagged, LoopsEnd, LoopsTree, LoopsArms, Looped}
use Rattle.control_flow_theory.proofs.semantics_lemmas.Ranges.{range-tells}
use Rattle.control_flow_theory.proofs.structuring_lemmas.gathering.Dispatch.{Anywhere, Only, only-gathers}

module _ (cell : ℕ) (range : Range) (label : Label) (out : End) (body : Stmts) (g h : Family) (order : List Range) (looped : Looped Flagged cell range label out body g h order) where
  abbrev inside : ℕ → Label → Type 0
  inside = Only range label cell (Is cell 1) body out g h

  abbrev reached : Range → Label → Type 0
  reached = Anywhere range label cell (Is cell 1) body out g h

  mutual
    end-gathers : (end : End) (tail : List Item) → LoopsEnd Flagged cell label out end tail → GathersEnd cell (Is cell 1) out inside (reached range) 0 end tail
    end-gathers (Pick picker arms) = λ tail j. (j.0, j.1, arms-gather arms j.0 j.2)
    end-gathers (Jump to) = λ tail j. elim j [
      | inl e ↦ inl (0, (refl, e.0), inr (refl, e.1))
      | inr e ↦ inr (1, tt, e.2, (refl, inl e.1))
    ]
    end-gathers Return = λ tail j. (1, j.2, (refl, inl j.1))
    end-gathers Stop = λ tail j. j
    end-gathers Dead = λ tail j. j

    tree-gathers : (t : Tree) (items : List Item) → LoopsTree Flagged cell label out t items → GathersTree cell (Is cell 1) out inside (reached range) 0 t items
    tree-gathers (tree b end) = λ items j. (j.0, j.1, end-gathers end j.0 j.2)

    arms-gather : (arms : Trees) (news : Arms) → LoopsArms Flagged cell label out arms news → GathersArms cell (Is cell 1) out inside (reached range) 0 arms news
    arms-gather no_more = λ news j. j
    arms-gather (more first others) = λ news j. (j.0, j.1, j.2, tree-gathers first (before j.0 []) j.3, arms-gather others j.1 j.4)

  pub looped-gathers : Gathered reached inside range cell (Is cell 1) body out g h
  looped-gathers =
      only-gathers range label cell (Is cell 1) body out g h looped.entries looped.node
      (λ r l differ. looped.same r l (elim (range-tells r range) [ inl e ↦ inr (λ is. differ (e.1, is)) | inr e ↦ inl e.1 ]))
      refl refl (tree-gathers (g.node range label) (before body []) looped.turn)
