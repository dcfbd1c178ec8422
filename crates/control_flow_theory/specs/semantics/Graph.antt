-- Trees, and the graphs of a program's ranges.
use Rattle.std.specs.Prelude.{ℕ}
use Rattle.control_flow_theory.specs.language.Language.{Stmts, Picker, Range}

-- a label is a number: of the point before a place, three times the place; a loop's head is one
-- more, its test or step two more
abbrev pub Label : Type 0
Label = ℕ

mutual
  -- statements without a jump, and an end
  pub data Tree : Type 0 where
    tree : (body : Stmts) → (end : End) → Tree

  -- how a tree ends: by a choice among trees, a jump to a label, the return of its range, a stop of
  -- the run, or where no run comes
  pub data End : Type 0 where
    Pick : (picker : Picker) → (arms : Trees) → End
    Jump : (to : Label) → End
    Return : End
    Stop : End
    Dead : End

  -- the trees of a choice's arms, in order
  pub data Trees : Type 0 where
    no_more : Trees
    more : (first : Tree) → (others : Trees) → Trees

-- the statements of a tree
abbrev pub body_of : Tree → Stmts
body_of (tree body end) = body

-- the end of a tree
abbrev pub end_of : Tree → End
end_of (tree body end) = end

-- an end without a choice and a jump
abbrev pub IsLast : End → Type 0
IsLast (Pick picker arms) = ⊥
IsLast (Jump to) = ⊥
IsLast Return = Unit {0}
IsLast Stop = Unit {0}
IsLast Dead = Unit {0}

-- each range has an entry, and a tree at each label
pub record Family : Type 0 where
  -- the label at which a range begins
  pub entry : Range → Label
  -- the tree at a label
  pub node : Range → Label → Tree
