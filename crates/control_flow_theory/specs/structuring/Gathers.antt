-- A set of nodes that has become one loop, whose turns walk their trees and leave a number in a
-- cell: the number of the node to go on with, or one that ends the loop.
use Rattle.std.specs.Prelude.{ℕ, ◌≡◌, ◌-◌, Bool, true, false, not, ◌==◌, List, [], ◌∷◌, ◌⊎◌, Some}
use Rattle.control_flow_theory.specs.language.Language.{Act, Set, Test, Holds, Not, Is, Above, Picker, ByCell, Until, Stmt, Choose, Loop, StopRun, Stmts, none, also, Arms, done, given, missing, Nested, Range}
use Rattle.control_flow_theory.specs.language.Language as language
use Rattle.control_flow_theory.specs.semantics.Doing.{is_above}
use Rattle.control_flow_theory.specs.language.Items.{Item, Do, before, before_arm}
use Rattle.control_flow_theory.specs.semantics.Graph.{Label, Tree, tree, End, Pick, Jump, Return, Stop, Dead, Trees, no_more, more, Family}
use Rattle.control_flow_theory.specs.semantics.Walk.{tree_at}
use Rattle.control_flow_theory.specs.graph_rules.Joins.{JumpsTree}

-- the test looks at the cell alone
abbrev pub OnCell : ℕ → Test → Type 0
OnCell cell (Holds cond) = ⊥
OnCell cell (Not test) = OnCell cell test
OnCell cell (Is other value) = other ≡ cell
OnCell cell (Above other) = other ≡ cell

-- what such a test says where the cell holds the number
abbrev pub says : Test → ℕ → Bool
says (Holds cond) number = false
says (Not test) number = not (says test number)
says (Is cell value) number = number == value
says (Above cell) number = is_above number

-- an item that sets the cell
abbrev pub sets : ℕ → ℕ → Item
sets cell number = Do (language.Do (Set cell number))

-- the loop ends at the test, and after it comes this end
module _ (cell : ℕ) (test : Test) (out : End) where
  -- the loop is left with this number in the cell, and this end comes next: it follows the loop, or
  -- is picked there by the cell
  abbrev pub Leads : ℕ → End → Type 0
  Leads number end = (says test number ≡ true)
      × ((out ≡ end) ⊎
      ((arms : Trees) × (out ≡ Pick (ByCell cell) arms)
      × (tree_at arms (number - 1) ≡ Some (tree none end))))

  -- with this number in the cell the loop's next turn is at this label; from outside these labels
  -- are reached; the cell holds this number now
  module _ (inside : ℕ → Label → Type 0) (reached : Label → Type 0) (now : ℕ) where
    abbrev mutual
      -- what takes the place of an end inside the loop
      pub GathersEnd : End → List Item → Type 0
      GathersEnd (Pick picker arms) tail =
          (news : Arms) × (tail ≡ Do (Choose picker news) ∷ []) × GathersArms arms news
      GathersEnd (Jump to) tail =
          ((number : ℕ) × inside number to
          × ((tail ≡ sets cell number ∷ []) ⊎ ((number ≡ now) × (tail ≡ []))))
          ⊎ ((number : ℕ) × reached to × (tail ≡ sets cell number ∷ []) × Leads number (Jump to))
      GathersEnd Return tail = (number : ℕ) × (tail ≡ sets cell number ∷ []) × Leads number Return
      GathersEnd Stop tail = tail ≡ Do StopRun ∷ []
      GathersEnd Dead tail = tail ≡ []

      -- what takes the place of a tree
      pub GathersTree : Tree → List Item → Type 0
      GathersTree (tree body end) items =
          (tail : List Item) × (items ≡ before body tail) × GathersEnd end tail

      -- arm by arm
      pub GathersArms : Trees → Arms → Type 0
      GathersArms no_more news = news ≡ done
      GathersArms (more first others) news =
          (arm : Stmts) × (rest : Arms)
          × ((news ≡ given arm rest) ⊎ ((news ≡ missing rest) × (arm ≡ none)))
          × GathersTree first (before arm []) × GathersArms others rest

-- a turn of the loop comes to these items: they are its body, or the body chooses them by the cell,
-- which holds this number
abbrev pub Opens : ℕ → Stmts → ℕ → List Item → Type 0
Opens cell body number items =
    (items ≡ before body [])
    ⊎ ((arms : Arms) × (body ≡ also (Choose (ByCell cell) arms) none)
    × (items ≡ before_arm arms (number - 1) []))

-- the loop, begun at this number
abbrev pub loop_from : ℕ → Test → Stmts → End → ℕ → Tree
loop_from cell test body out number =
    tree (also (language.Do (Set cell number)) (also (Loop (Until false test) (Nested body)) none))
    out

-- the family with the loop in place of the nodes of this range
pub record Gathered (reached : Range → Label → Type 0) (inside : ℕ → Label → Type 0) (range : Range)
    (cell : ℕ) (test : Test) (body : Stmts) (out : End) (g h : Family) : Type 0 where
  -- the entries are the same
  pub entries : (r : Range) → h.entry r ≡ g.entry r
  -- each entry is reached
  pub enters : (r : Range) → reached r (g.entry r)
  -- the loop's test is one on the cell
  pub on_cell : OnCell cell test
  -- what is reached from outside is as it was, or the loop begins there
  pub nodes : (r : Range) (l : Label) → reached r l →
      ((h.node r l ≡ g.node r l) × JumpsTree (reached r) (g.node r l))
      ⊎ ((r ≡ range) × (number : ℕ) × inside number l
      × (h.node r l ≡ loop_from cell test body out number))
  -- each turn walks its node's tree
  pub turns : (number : ℕ) (l : Label) → inside number l →
      (says test number ≡ false) × (items : List Item) × Opens cell body number items
      × GathersTree cell test out inside (reached range) number (g.node range l) items
