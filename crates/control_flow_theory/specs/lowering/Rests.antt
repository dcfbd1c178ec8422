-- A rest with its places, its continuation, and the tree that is built from it.
use Rattle.std.specs.Prelude.{ℕ, ◌+◌, ◌≡◌, Bool, true, false, List, [], ◌∷◌}
use Rattle.control_flow_theory.specs.language.Language.{Control, Times, Until, Varying, Loop, Stmts, Nested, Paragraph}
use Rattle.control_flow_theory.specs.language.Items.{Turning, Counted, Tests, Steps, StepsAfter, Item, SentenceEnd, Turn, before}
use Rattle.control_flow_theory.specs.semantics.Graph.{Label, Tree, End, Jump}
use Rattle.control_flow_theory.specs.lowering.FlowFacts.{FlowFacts}
use Rattle.control_flow_theory.specs.lowering.Completes.{cuts, leave_sentence, sizes}
use Rattle.control_flow_theory.specs.lowering.Lower.{loop_head_label, loop_step_label, end_alone, loop_back_label, EscapeTargets, leaf, build, Node, nodes, nodes_in}

-- what is left of a paragraph: statements from a place; the end of a sentence, and whether a NEXT
-- SENTENCE is in it;
-- a loop with an escape, the turns that are left where they are counted, and of VARYING whether its
-- test was reached;
-- and a rest at whose continuation the walk stands
pub data Rest : Type 0 where
  Over : Rest
  From : (place : ℕ) → (stmts : Stmts) → (others : Rest) → Rest
  Sent : (holds : Bool) → (others : Rest) → Rest
  Turns : (place : ℕ) → (control : Control) → (left : ℕ) → (reached : Bool) → (body : Stmts) →
      (others : Rest) → Rest
  Cut : (others : Rest) → Rest

-- how a loop with this control turns: TIMES with so many turns left, VARYING with its test reached
-- or not
abbrev pub turning_of : Control → ℕ → Bool → Turning
turning_of (Times amount) left reached = Counted left
turning_of (Until after test) left reached = Tests test
turning_of (Varying false set step test) left reached = Steps reached step test
turning_of (Varying true set step test) left reached = StepsAfter step test

-- the items that it stands for
abbrev pub items_in : Rest → List Item
items_in Over = []
items_in (From place stmts others) = before stmts (items_in others)
items_in (Sent holds others) = SentenceEnd ∷ items_in others
items_in (Turns place control left reached body others) =
    Turn (turning_of control left reached) (Nested body) ∷ items_in others
items_in (Cut others) = items_in others

-- the label at which a loop's remainder begins; of VARYING before its test was reached, the head
abbrev pub to_turn : Control → Bool → ℕ → Label
to_turn (Times amount) reached place = loop_head_label place
to_turn (Until after test) reached place = loop_back_label (Until after test) place
to_turn (Varying false set step test) false place = loop_head_label place
to_turn (Varying false set step test) true place = loop_step_label place
to_turn (Varying true set step test) reached place = loop_step_label place

-- the rest after the sentence, at whose continuation the walk stands
abbrev pub after_sentence : Rest → Rest
after_sentence Over = Over
after_sentence (From place stmts others) = after_sentence others
after_sentence (Sent holds others) = Cut others
after_sentence (Turns place control left reached body others) = after_sentence others
after_sentence (Cut others) = after_sentence others

-- the rest after its first loop, at whose continuation the walk stands
abbrev pub after_loop : Rest → Rest
after_loop Over = Over
after_loop (From place stmts others) = after_loop others
after_loop (Sent holds others) = after_loop others
after_loop (Turns place control left reached body others) = Cut others
after_loop (Cut others) = after_loop others

-- the rest from its first loop on
abbrev pub at_loop : Rest → Rest
at_loop Over = Over
at_loop (From place stmts others) = at_loop others
at_loop (Sent holds others) = at_loop others
at_loop (Turns place control left reached body others) =
    Turns place control left reached body others
at_loop (Cut others) = at_loop others

-- the same items, where the walk is at no continuation: the tree of a label runs on
abbrev pub uncut : Rest → Rest
uncut Over = Over
uncut (From place stmts others) = From place stmts (uncut others)
uncut (Sent holds others) = Sent holds (uncut others)
uncut (Turns place control left reached body others) =
    Turns place control left reached body (uncut others)
uncut (Cut others) = uncut others

-- the whole rest of a paragraph, from the place of its first statement
abbrev pub rest_from : FlowFacts → ℕ → Paragraph → Rest
rest_from told place [] = Over
rest_from told place (sentence ∷ sentences) =
    From place sentence
    (Sent (leave_sentence (cuts told sentence)) (rest_from told (place + sizes sentence) sentences))

module _ (told : FlowFacts) (place_of : ℕ → ℕ) where
  -- the continuation of a rest, in a paragraph that is left so
  abbrev pub leaf_of : EscapeTargets → Rest → End
  leaf_of paragraph Over = paragraph.paragraph
  leaf_of paragraph (From place stmts others) =
      leaf told place_of stmts place (leaf_of paragraph others)
  leaf_of paragraph (Sent holds others) = leaf_of paragraph others
  leaf_of paragraph (Turns place control left reached body others) =
      Jump (to_turn control reached place)
  leaf_of paragraph (Cut others) = leaf_of paragraph others

  -- where what leaves a rest goes on
  abbrev pub leaving_of : EscapeTargets → Rest → EscapeTargets
  leaving_of paragraph rest = record {
    sentence = leaf_of paragraph (after_sentence rest);
    paragraph = paragraph.paragraph;
    section = paragraph.section;
    loop = leaf_of paragraph (after_loop rest);
    cycle = leaf_of paragraph (at_loop rest);
  }

  -- the tree of a rest
  abbrev pub tree_of : EscapeTargets → Rest → Tree
  tree_of paragraph Over = end_alone paragraph.paragraph
  tree_of paragraph (From place stmts others) =
      build told place_of stmts place (leaving_of paragraph others) (leaf_of paragraph others)
      (tree_of paragraph others)
  tree_of paragraph (Sent true others) = end_alone (leaf_of paragraph others)
  tree_of paragraph (Sent false others) = tree_of paragraph others
  tree_of paragraph (Turns place control left reached body others) =
      end_alone (Jump (to_turn control reached place))
  tree_of paragraph (Cut others) = end_alone (leaf_of paragraph others)

  -- a graph has these nodes
  abbrev pub Has : (Label → Tree) → List Node → Type 0
  Has graph [] = Unit {0}
  Has graph (one ∷ others) = (graph one.key ≡ one.tree) × Has graph others

  -- a graph has the nodes of all that is left
  abbrev pub HasRest : (Label → Tree) → EscapeTargets → Rest → Type 0
  HasRest graph paragraph Over = Unit {0}
  HasRest graph paragraph (From place stmts others) =
      Has graph (nodes told place_of stmts place (leaving_of paragraph others)
      (leaf_of paragraph others) (tree_of paragraph (uncut others)))
      × HasRest graph paragraph others
  HasRest graph paragraph (Sent holds others) = HasRest graph paragraph others
  HasRest graph paragraph (Turns place control left reached body others) =
      Has graph (nodes_in told place_of (Loop control (Nested body)) place
      (leaving_of paragraph others) (leaf_of paragraph others) (tree_of paragraph (uncut others)))
      × HasRest graph paragraph others
  HasRest graph paragraph (Cut others) = HasRest graph paragraph others
