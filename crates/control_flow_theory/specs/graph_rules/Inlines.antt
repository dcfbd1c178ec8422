-- A family in which a node has taken the place of the jumps to it.
use Rattle.std.specs.Prelude.{◌≡◌, ◌≢◌, List, [], ◌⊎◌}
use Rattle.control_flow_theory.specs.language.Language.{Range}
use Rattle.control_flow_theory.specs.language.Items.{Item, before}
use Rattle.control_flow_theory.specs.semantics.Graph.{Label, Tree, tree, End, Pick, Jump, Return, Stop, Dead, Trees, no_more, more, body_of, end_of, Family}

abbrev mutual
  -- what takes the place of an end, where such labels are inlined as this node
  pub InlinesEnd : (Label → Type 0) → Tree → End → List Item → End → Type 0
  InlinesEnd here node (Pick picker arms) tail end =
      (news : Trees) × (tail ≡ []) × (end ≡ Pick picker news) × InlinesTrees here node arms news
  InlinesEnd here node (Jump to) tail end =
      ((here to → ⊥) × (tail ≡ []) × (end ≡ Jump to)) ⊎
      (here to × (tail ≡ before (body_of node) []) × (end ≡ end_of node))
  InlinesEnd here node Return tail end = (tail ≡ []) × (end ≡ Return)
  InlinesEnd here node Stop tail end = (tail ≡ []) × (end ≡ Stop)
  InlinesEnd here node Dead tail end = (tail ≡ []) × (end ≡ Dead)

  -- what takes the place of a tree: its body, and what takes the place of its end
  pub InlinesTree : (Label → Type 0) → Tree → Tree → List Item → End → Type 0
  InlinesTree here node (tree body end) items now =
      (tail : List Item) × (items ≡ before body tail) × InlinesEnd here node end tail now

  -- arm by arm
  pub InlinesTrees : (Label → Type 0) → Tree → Trees → Trees → Type 0
  InlinesTrees here node no_more news = news ≡ no_more
  InlinesTrees here node (more first others) news = (one : Tree) × (rest : Trees)
      × (news ≡ more one rest) × InlinesTree here node first (before (body_of one) []) (end_of one)
      × InlinesTrees here node others rest

abbrev mutual
  -- no leaf is such a jump
  pub PlainEnd : (Label → Type 0) → End → Type 0
  PlainEnd here (Pick picker arms) = PlainTrees here arms
  PlainEnd here (Jump to) = here to → ⊥
  PlainEnd here Return = Unit {0}
  PlainEnd here Stop = Unit {0}
  PlainEnd here Dead = Unit {0}

  -- no leaf of the tree is such a jump
  pub PlainTree : (Label → Type 0) → Tree → Type 0
  PlainTree here (tree body end) = PlainEnd here end

  -- no leaf of these trees is such a jump
  pub PlainTrees : (Label → Type 0) → Trees → Type 0
  PlainTrees here no_more = Unit {0}
  PlainTrees here (more first others) = PlainTree here first × PlainTrees here others

-- the second range and label are the first
abbrev pub Here : Range → Label → Range → Label → Type 0
Here range label r l = (r ≡ range) × (l ≡ label)

-- the node isn't the entry and doesn't jump to itself; its own node may be anything afterwards
pub record Inlined (range : Range) (label : Label) (g h : Family) : Type 0 where
  -- the entries are the same
  pub entries : (r : Range) → h.entry r ≡ g.entry r
  -- the node isn't the entry
  pub inside : label ≢ g.entry range
  -- it doesn't jump to itself
  pub plain : PlainTree (Here range label range) (g.node range label)
  -- every other node has it in place of its jumps to it
  pub nodes : (r : Range) (l : Label) → (Here range label r l → ⊥) →
      InlinesTree (Here range label r) (g.node range label) (g.node r l)
      (before (body_of (h.node r l)) []) (end_of (h.node r l))
