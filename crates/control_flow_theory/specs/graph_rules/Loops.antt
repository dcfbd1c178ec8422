-- A node that has become a loop.
use Rattle.std.specs.Prelude.{ℕ, ◌≡◌, ◌≢◌, Bool, true, false, List, [], ◌∷◌, ◌⊎◌}
use Rattle.control_flow_theory.specs.language.Language.{Set, Test, Is, Not, Until, Choose, Loop, If, StopRun, Stmts, none, also, Arms, done, given, missing, Nested, Range}
use Rattle.control_flow_theory.specs.language.Language as language
use Rattle.control_flow_theory.specs.language.Items.{Item, Do, before}
use Rattle.control_flow_theory.specs.semantics.Graph.{Label, Tree, tree, End, Pick, Jump, Return, Stop, Dead, Trees, no_more, more, Family}
use Rattle.control_flow_theory.specs.graph_rules.Walked.{Ordered}

-- a loop goes on while its cell isn't 1: a flag is set where it is left, and nothing ever sets the
-- other kind
pub data Keeper : Type 0 where
  Flagged : Keeper
  Endless : Keeper

abbrev mutual
  -- what takes the place of an end inside the loop on this label, which leaves by this end
  pub LoopsEnd : Keeper → ℕ → Label → End → End → List Item → Type 0
  LoopsEnd keeper cell label out (Pick picker arms) tail = (news : Arms)
      × (tail ≡ Do (Choose picker news) ∷ []) × LoopsArms keeper cell label out arms news
  LoopsEnd keeper cell label out (Jump to) tail =
      ((to ≡ label) × (tail ≡ [])) ⊎
      ((keeper ≡ Flagged) × (out ≡ Jump to) × (tail ≡ Do (language.Do (Set cell 1)) ∷ []))
  LoopsEnd keeper cell label out Return tail =
      (keeper ≡ Flagged) × (out ≡ Return) × (tail ≡ Do (language.Do (Set cell 1)) ∷ [])
  LoopsEnd keeper cell label out Stop tail = tail ≡ Do StopRun ∷ []
  LoopsEnd keeper cell label out Dead tail = tail ≡ []

  -- what takes the place of a tree inside the loop
  pub LoopsTree : Keeper → ℕ → Label → End → Tree → List Item → Type 0
  LoopsTree keeper cell label out (tree body end) items =
      (tail : List Item) × (items ≡ before body tail) × LoopsEnd keeper cell label out end tail

  -- arm by arm; an arm of which nothing is left may be missing
  pub LoopsArms : Keeper → ℕ → Label → End → Trees → Arms → Type 0
  LoopsArms keeper cell label out no_more news = news ≡ done
  LoopsArms keeper cell label out (more first others) news =
      (arm : Stmts) × (rest : Arms)
      × ((news ≡ given arm rest) ⊎ ((news ≡ missing rest) × (arm ≡ none)))
      × LoopsTree keeper cell label out first (before arm [])
      × LoopsArms keeper cell label out others rest

-- the loop, before which a flag is cleared
abbrev pub loop_of : Keeper → ℕ → Stmts → Stmts
loop_of Flagged cell body =
    also (language.Do (Set cell 0)) (also (Loop (Until false (Is cell 1)) (Nested body)) none)
loop_of Endless cell body = also (Loop (Until false (Is cell 1)) (Nested body)) none

-- a new flag isn't read; a cell that is never 1 may be
abbrev pub Seen : Keeper → ℕ → ℕ → Type 0
Seen Flagged cell c = c ≢ cell
Seen Endless cell c = Unit {0}

-- the range didn't set the cell, nor read a flag
abbrev pub Unused : Keeper → Range → ℕ → Family → List Range → Type 0
Unused keeper range cell =
    Ordered (λ r c. r ≡ range → Seen keeper cell c) (λ r c. r ≡ range → c ≢ cell)

-- the family with the loop in place of the node
pub record Looped (keeper : Keeper) (cell : ℕ) (range : Range) (label : Label) (out : End)
    (body : Stmts) (g h : Family) (order : List Range) : Type 0 where
  -- the entries are the same
  pub entries : (r : Range) → h.entry r ≡ g.entry r
  -- the loop comes at the label, and then this end
  pub node : h.node range label ≡ tree (loop_of keeper cell body) out
  -- its body is what the node's tree becomes inside the loop
  pub turn : LoopsTree keeper cell label out (g.node range label) (before body [])
  -- the other nodes are the same
  pub same : (r : Range) (l : Label) → (r ≢ range) ⊎ (l ≢ label) → h.node r l ≡ g.node r l
  -- nothing else uses the loop's cell
  pub unused : Unused keeper range cell g order

-- the two arms of IF, the first of which leaves, or the second
abbrev pub two_arms : Bool → Tree → Tree → Trees
two_arms false out stay = more out (more stay no_more)
two_arms true out stay = more stay (more out no_more)

-- the test, or its negation
abbrev pub turned_test : Bool → Test → Test
turned_test false test = test
turned_test true test = Not test

-- the node of a loop tested before: all of it is the IF; and of one tested after: its end is the IF
-- of two bare leaves
abbrev pub tested_node : Bool → Bool → Test → Label → Stmts → End → Tree
tested_node false turned test label body out =
    tree none (Pick (If test) (two_arms turned (tree none out) (tree body (Jump label))))
tested_node true turned test label body out =
    tree body (Pick (If test) (two_arms turned (tree none out) (tree none (Jump label))))

-- the family with a loop that is tested before or after in place of the node
pub record Tested (after turned : Bool) (test : Test) (range : Range) (label : Label) (out : End)
    (body : Stmts) (g h : Family) : Type 0 where
  -- the entries are the same
  pub entries : (r : Range) → h.entry r ≡ g.entry r
  -- the node is that of such a loop
  pub old : g.node range label ≡ tested_node after turned test label body out
  -- and becomes the loop
  pub new : h.node range label
      ≡ tree (also (Loop (Until after (turned_test turned test)) (Nested body)) none) out
  -- the other nodes are the same
  pub same : (r : Range) (l : Label) → (r ≢ range) ⊎ (l ≢ label) → h.node r l ≡ g.node r l
