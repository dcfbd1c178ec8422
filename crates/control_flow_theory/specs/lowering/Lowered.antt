-- The nodes of a range in the order of their labels, and the family that looks them up.
use Rattle.std.specs.Prelude.{ℕ, zero, suc, ◌+◌, ◌≤◌, if◌then◌else◌, ◌==◌, List, [], ◌∷◌, ◌++◌}
use Rattle.control_flow_theory.specs.language.Language.{Paragraph, Program, Range}
use Rattle.control_flow_theory.specs.semantics.Graph.{Label, Tree, Dead, Family}
use Rattle.control_flow_theory.specs.lowering.FlowFacts.{FlowFacts}
use Rattle.control_flow_theory.specs.lowering.Completes.{sizes}
use Rattle.control_flow_theory.specs.lowering.Lower.{point, end_alone, Node, node, nodes, EscapeTargets, leaving_at}
use Rattle.control_flow_theory.specs.lowering.Rests.{Rest, Over, From, Sent, Turns, Cut, rest_from, leaf_of, leaving_of, tree_of}
use Rattle.control_flow_theory.specs.lowering.flow.Comes.{entry_of}

-- the places of a paragraph's statements
abbrev pub total : Paragraph → ℕ
total [] = 0
total (sentence ∷ sentences) = sizes sentence + total sentences

-- the place of the paragraph with this number, where these begin at that place; places number the
-- paragraphs and, after each, its statements in text order
abbrev pub place_from : ℕ → List Paragraph → ℕ → ℕ
place_from place [] number = place
place_from place (paragraph ∷ others) zero = place
place_from place (paragraph ∷ others) (suc number) =
    place_from (place + 1 + total paragraph) others number

-- the place of the paragraph with this number
abbrev pub place_in : Program → ℕ → ℕ
place_in program number = place_from 0 program.paragraphs number

-- the tree at a label; where there is none, Dead
abbrev pub find : Label → List Node → Tree
find key [] = end_alone Dead
find key (one ∷ others) = if one.key == key then one.tree else find key others

module _ (told : FlowFacts) (program : Program) where
  -- the nodes of what is left of a paragraph
  abbrev pub nodes_left : EscapeTargets → Rest → List Node
  nodes_left paragraph Over = []
  nodes_left paragraph (From place stmts others) =
      nodes told (place_in program) stmts place
      (leaving_of told (place_in program) paragraph others)
      (leaf_of told (place_in program) paragraph others)
      (tree_of told (place_in program) paragraph others)
      ++ nodes_left paragraph others
  nodes_left paragraph (Sent holds others) = nodes_left paragraph others
  nodes_left paragraph (Turns place control left reached body others) = nodes_left paragraph others
  nodes_left paragraph (Cut others) = nodes_left paragraph others

  -- the nodes of the paragraphs from this number on, whose first has this place
  abbrev pub nodes_from : Range → ℕ → ℕ → List Paragraph → List Node
  nodes_from range number place [] = []
  nodes_from range number place (paragraph ∷ others) =
      node (point place)
      (tree_of told (place_in program) (leaving_at (place_in program) program range number)
      (rest_from told (place + 1) paragraph))
      ∷ (nodes_left (leaving_at (place_in program) program range number)
      (rest_from told (place + 1) paragraph) ++ nodes_from range (suc number)
      (place + 1 + total paragraph) others)

  -- all nodes of a range
  abbrev pub nodes_of : Range → List Node
  nodes_of range = nodes_from range 0 0 program.paragraphs

  -- the lowered family, with all nodes of each range
  abbrev pub lowered : Family
  lowered = record {
    entry = λ range. point (place_in program (entry_of range));
    node = λ range label. find label (nodes_of range);
  }

-- the keys rise, from the first number on and below the second
abbrev pub Within : ℕ → ℕ → List Node → Type 0
Within low high [] = low ≤ high
Within low high (one ∷ others) = (low ≤ one.key) × Within (one.key + 1) high others
