-- How the graphs of a family are walked, step by step.
use Rattle.std.specs.Prelude.{ℕ, zero, suc, List, [], ◌∷◌, ◌++◌, Option, Some, None}
use Rattle.control_flow_theory.specs.runs.Run.{Going, Over}
use Rattle.control_flow_theory.specs.runs.Machine.{Machine}
use Rattle.control_flow_theory.specs.semantics.Outcome.{Event, Trace, How, Normally, Abend, Ending, Stopped, Returned, Lost, Run, Standing, Tried, Got, Ends}
use Rattle.control_flow_theory.specs.language.Language.{Range, Main, Part}
use Rattle.control_flow_theory.specs.semantics.Doing.{Acting, Celled, celled}
use Rattle.control_flow_theory.specs.language.Items.{Item, before}
use Rattle.control_flow_theory.specs.semantics.Items.{Way, On, Halts, Into, To, ToEnd, item_way}
use Rattle.control_flow_theory.specs.semantics.Graph.{Tree, End, Pick, Jump, Return, Stop, Dead, Trees, no_more, more, body_of, end_of, Family}

-- what is still to do in a level: items, and then an end
pub record Level : Type 0 where
  pub range : Range
  pub items : List Item
  pub end : End

-- the level that was entered last, and those that wait for its return, the innermost first
pub record Walk (Memory Left : Type 0) : Type 0 where
  pub level : Level
  -- the levels that wait
  pub callers : List Level
  pub memory : Celled Memory
  pub run : Run Left

-- the tree of the arm with this number, from 0
abbrev pub tree_at : Trees → ℕ → Option Tree
tree_at no_more k = None
tree_at (more first others) zero = Some first
tree_at (more first others) (suc k) = tree_at others k

-- the level at the root of a tree of the range
abbrev pub level_at : Range → Tree → Level
level_at range t = record { range = range; items = before (body_of t) []; end = end_of t }

-- the level at the entry of the range
abbrev pub level_of : Family → Range → Level
level_of family range = level_at range (family.node range (family.entry range))

module _ {Memory Left : Type 0} (acting : Acting Memory) (left : Memory → Left) (family : Family)
  where
    abbrev State : Type 0
    State = Walk Memory Left

    -- the walk after this was shown, with this memory
    abbrev pub walk_shows : Trace → Celled Memory → State → State
    walk_shows trace memory walk =
        record walk {
          memory = memory;
          run = record { trace = walk.run.trace ++ trace; standing = walk.run.standing };
        }

    -- the walk in which the run came to this ending
    abbrev pub walk_comes_to : Ending Left → State → State
    walk_comes_to ending walk =
        record walk { run = record { trace = walk.run.trace; standing = Over ending } }

    -- the walk in which the run stopped so
    abbrev pub walk_stops : How → State → State
    walk_stops how walk = walk_comes_to (Stopped how (left walk.memory.own)) walk

    -- the walk with these items to do in its level
    abbrev pub items_are : List Item → State → State
    items_are items walk =
        record walk {
          level = record { range = walk.level.range; items = items; end = walk.level.end };
        }

    -- the walk at the root of this tree, in the same range
    abbrev pub stands_at : Tree → State → State
    stands_at t walk = record walk { level = level_at walk.level.range t }

    -- the walk at the entry of the range, in a new level; these items wait for its return
    abbrev pub enters : Range → List Item → State → State
    enters range items walk = record walk {
      level = level_of family range;
      callers = record { range = walk.level.range; items = items; end = walk.level.end }
          ∷ walk.callers;
    }

    -- the walk after the head of its items went this way; it is lost at a jump, which no body has
    abbrev pub walk_goes : Way (Celled Memory) → State → State
    walk_goes (On trace memory items) walk = items_are items (walk_shows trace memory walk)
    walk_goes (Halts trace how memory) walk = walk_stops how (walk_shows trace memory walk)
    walk_goes (Into entry exit items) walk = enters (Part entry exit) items walk
    walk_goes (To trace memory paragraph) walk = walk_comes_to Lost walk
    walk_goes (ToEnd trace memory paragraph) walk = walk_comes_to Lost walk

    -- the walk in the arm that was chosen; it is lost where there is no such arm
    abbrev pub picked : Option Tree → State → State
    picked None walk = walk_comes_to Lost walk
    picked (Some t) walk = stands_at t walk

    -- the walk after a choice among these trees
    abbrev pub picks : Trees → Tried (Celled Memory) ℕ → State → State
    picks arms (Got trace k memory) walk = picked (tree_at arms k) (walk_shows trace memory walk)
    picks arms (Ends trace kind memory) walk =
        walk_stops (Abend kind) (walk_shows trace memory walk)

    -- the walk back in the level that waits; the level in which the walk began returns from it
    abbrev pub returns : List Level → State → State
    returns [] walk = walk_comes_to (Returned (left walk.memory.own)) walk
    returns (top ∷ others) walk = record walk { level = top; callers = others }

    -- the step of a walk at the end of its level
    abbrev pub walk_end : End → State → State
    walk_end (Pick picker arms) walk =
        picks arms ((celled acting walk.level.range).pick picker walk.memory) walk
    walk_end (Jump to) walk = stands_at (family.node walk.level.range to) walk
    walk_end Return walk = returns walk.callers walk
    walk_end Stop walk = walk_stops Normally walk
    walk_end Dead walk = walk_comes_to Lost walk

    -- the step of a walk with these items to do in its level
    abbrev pub walk_items : List Item → State → State
    walk_items [] walk = walk_end walk.level.end walk
    walk_items (item ∷ rest) walk =
        walk_goes (item_way (celled acting walk.level.range) item rest walk.memory) walk

    -- the step of a walk that stands so; one that is over stays
    abbrev pub walk_by : Standing Left → State → State
    walk_by Going walk = walk_items walk.level.items walk
    walk_by (Over ending) walk = walk

    -- one step of a walk
    abbrev pub walk_step : State → State
    walk_step walk = walk_by walk.run.standing walk

    -- the walk of a range, from its entry
    abbrev pub walk_begun : Range → Celled Memory → State
    walk_begun range memory =
        record {
          level = level_of family range;
          callers = [];
          memory = memory;
          run = record { trace = []; standing = Going };
        }

    -- the walk of a range as a machine
    abbrev pub walk_machine : Range → Machine (Celled Memory) Event (Ending Left) State
    walk_machine range = record {
      step = walk_step;
      run = λ walk. walk.run;
      begun = walk_begun range;
    }

    -- the walk of the whole program, with no cell set
    abbrev pub main_machine : Machine Memory Event (Ending Left) State
    main_machine =
        record {
          step = walk_step;
          run = λ walk. walk.run;
          begun = λ memory. walk_begun Main (record { own = memory; cells = λ range cell. 0 });
        }
