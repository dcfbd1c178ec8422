-- Trees in which some choices of the ends have become statements.
use Rattle.std.specs.Prelude.{◌≡◌, List, [], ◌∷◌, ◌⊎◌}
use Rattle.control_flow_theory.specs.language.Language.{Choose, StopRun, Stmts, none, Arms, done, given, missing, Range}
use Rattle.control_flow_theory.specs.language.Items.{Item, Do, before}
use Rattle.control_flow_theory.specs.semantics.Graph.{Label, Tree, tree, End, Pick, Jump, Return, Stop, Dead, Trees, no_more, more, body_of, end_of, Family}

abbrev mutual
  -- what takes the place of an end: items, and an end
  pub JoinsEnd : End → List Item → End → Type 0
  JoinsEnd (Pick picker arms) tail end =
      ((news : Trees) × (tail ≡ []) × (end ≡ Pick picker news) × JoinsTrees arms news)
      ⊎ ((news : Arms) × (tail ≡ Do (Choose picker news) ∷ []) × JoinsArms arms news end)
  JoinsEnd (Jump to) tail end = (tail ≡ []) × (end ≡ Jump to)
  JoinsEnd Return tail end = (tail ≡ []) × (end ≡ Return)
  JoinsEnd Stop tail end = ((tail ≡ []) × (end ≡ Stop)) ⊎ (tail ≡ Do StopRun ∷ [])
  JoinsEnd Dead tail end = tail ≡ []

  -- what takes the place of a tree
  pub JoinsTree : Tree → List Item → End → Type 0
  JoinsTree (tree body end) items now =
      (tail : List Item) × (items ≡ before body tail) × JoinsEnd end tail now

  -- arm by arm
  pub JoinsTrees : Trees → Trees → Type 0
  JoinsTrees no_more news = news ≡ no_more
  JoinsTrees (more first others) news = (one : Tree) × (rest : Trees) × (news ≡ more one rest)
      × JoinsTree first (before (body_of one) []) (end_of one) × JoinsTrees others rest

  -- the arms become statements, before one end
  pub JoinsArms : Trees → Arms → End → Type 0
  JoinsArms no_more news end = news ≡ done
  JoinsArms (more first others) news end =
      (arm : Stmts) × (rest : Arms)
      × ((news ≡ given arm rest) ⊎ ((news ≡ missing rest) × (arm ≡ none)))
      × JoinsTree first (before arm []) end × JoinsArms others rest end

abbrev mutual
  -- each jump is to such a label
  pub JumpsEnd : (Label → Type 0) → End → Type 0
  JumpsEnd P (Pick picker arms) = JumpsTrees P arms
  JumpsEnd P (Jump to) = P to
  JumpsEnd P Return = Unit {0}
  JumpsEnd P Stop = Unit {0}
  JumpsEnd P Dead = Unit {0}

  -- each jump of the tree is to such a label
  pub JumpsTree : (Label → Type 0) → Tree → Type 0
  JumpsTree P (tree body end) = JumpsEnd P end

  -- each jump of these trees is to such a label
  pub JumpsTrees : (Label → Type 0) → Trees → Type 0
  JumpsTrees P no_more = Unit {0}
  JumpsTrees P (more first others) = JumpsTree P first × JumpsTrees P others

-- node by node, where the jumps lead from the entries
pub record Joined (reached : Range → Label → Type 0) (g h : Family) : Type 0 where
  -- the entries are the same
  pub entries : (r : Range) → h.entry r ≡ g.entry r
  -- each entry is reached
  pub enters : (r : Range) → reached r (g.entry r)
  -- jumps of reached nodes are to reached ones
  pub closed : (r : Range) (l : Label) → reached r l → JumpsTree (reached r) (g.node r l)
  -- each reached node is joined
  pub nodes : (r : Range) (l : Label) → reached r l →
      JoinsTree (g.node r l) (before (body_of (h.node r l)) []) (end_of (h.node r l))

-- the nodes that jumps lead to are the same
pub record Pruned (reached : Range → Label → Type 0) (g h : Family) : Type 0 where
  -- the entries are the same
  pub entries : (r : Range) → h.entry r ≡ g.entry r
  -- each entry is reached
  pub enters : (r : Range) → reached r (g.entry r)
  -- jumps of reached nodes are to reached ones
  pub closed : (r : Range) (l : Label) → reached r l → JumpsTree (reached r) (g.node r l)
  pub same : (r : Range) (l : Label) → reached r l → h.node r l ≡ g.node r l
