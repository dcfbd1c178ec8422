-- What Join, Inline and Loop give.
use Rattle.std.specs.Prelude.{ℕ, ◌+◌, Bool, true, false, if◌then◌else◌, ◌==◌, Option, Some, None}
use Rattle.control_flow_theory.specs.language.Language.{Set, Test, If, Picker, By, ByCell, Do, Choose, StopRun, Stmts, none, also, Arms, done, given, Range}
use Rattle.control_flow_theory.specs.semantics.Graph.{Label, Tree, tree, End, Pick, Jump, Return, Stop, Dead, Trees, no_more, more, body_of, end_of}
use Rattle.control_flow_theory.specs.graph_rules.Loops.{Keeper, Flagged, Endless}
use Rattle.control_flow_theory.specs.language.Language as language

-- one list of statements after the other
abbrev pub followed : Stmts → Stmts → Stmts
followed none stmts = stmts
followed (also first others) stmts = also first (followed others stmts)

-- one statement alone
abbrev pub alone : language.Stmt → Stmts
alone stmt = also stmt none

-- Where a leaf leads: a live leaf is a jump or a return, each with its target.

-- where a live leaf leads: to a label, or back from the range
pub data Live : Type 0 where
  ToLabel : (to : Label) → Live
  Back : Live

-- the leaf to this target
abbrev pub end_at : Live → End
end_at (ToLabel to) = Jump to
end_at Back = Return

-- the targets of some leaves: none, one, or several
pub data Targets : Type 0 where
  NoTarget : Targets
  Only : (live : Live) → Targets
  Several : Targets

-- the two targets are one
abbrev pub same_live : Live → Live → Bool
same_live (ToLabel to) (ToLabel other) = to == other
same_live (ToLabel to) Back = false
same_live Back (ToLabel to) = false
same_live Back Back = true

-- the targets of some leaves, with one more
abbrev pub with_live : Live → Targets → Targets
with_live live NoTarget = Only live
with_live live (Only other) = if same_live live other then Only other else Several
with_live live Several = Several

-- the targets of the first leaves and of the others
abbrev pub both_targets : Targets → Targets → Targets
both_targets NoTarget others = others
both_targets (Only live) others = with_live live others
both_targets Several others = Several

-- Join: a Pick whose arms end in leaves with at most one target becomes a statement. Inner Picks
-- come first.

-- the targets of one end, where a Pick counts as several
abbrev pub leaf_targets : End → Targets
leaf_targets (Pick picker arms) = Several
leaf_targets (Jump to) = Only (ToLabel to)
leaf_targets Return = Only Back
leaf_targets Stop = NoTarget
leaf_targets Dead = NoTarget

-- the targets of the ends of these trees
abbrev pub arms_targets : Trees → Targets
arms_targets no_more = NoTarget
arms_targets (more first others) = both_targets (leaf_targets (end_of first)) (arms_targets others)

-- the statements for an end within a statement: Stop is STOP RUN, and other leaves are nothing
abbrev pub last_stmts : End → Stmts
last_stmts Stop = alone StopRun
last_stmts (Pick picker arms) = none
last_stmts (Jump to) = none
last_stmts Return = none
last_stmts Dead = none

-- the statements of an arm: its body, and STOP RUN where it stops
abbrev pub arm_stmts : Tree → Stmts
arm_stmts t = followed (body_of t) (last_stmts (end_of t))

-- the arms of the statement that a choice becomes
abbrev pub arms_stmts : Trees → Arms
arms_stmts no_more = done
arms_stmts (more first others) = given (arm_stmts first) (arms_stmts others)

-- a choice after a body: a statement where its arms have at most one target, else as it was
abbrev pub join_by : Stmts → Picker → Trees → Targets → Tree
join_by body picker arms NoTarget =
    tree (followed body (alone (Choose picker (arms_stmts arms)))) Dead
join_by body picker arms (Only live) =
    tree (followed body (alone (Choose picker (arms_stmts arms)))) (end_at live)
join_by body picker arms Several = tree body (Pick picker arms)

abbrev mutual
  -- the tree after all joins
  pub joined : Tree → Tree
  joined (tree body end) = join_end body end

  -- the tree after all joins, of this body and end
  pub join_end : Stmts → End → Tree
  join_end body (Pick picker arms) =
      join_by body picker (joined_arms arms) (arms_targets (joined_arms arms))
  join_end body (Jump to) = tree body (Jump to)
  join_end body Return = tree body Return
  join_end body Stop = tree body Stop
  join_end body Dead = tree body Dead

  -- each tree after all joins
  pub joined_arms : Trees → Trees
  joined_arms no_more = no_more
  joined_arms (more first others) = more (joined first) (joined_arms others)

-- the tree after one join: of the first Pick in text order to which the rule applies, which is one
-- whose arms hold no Pick

-- the arms with this one first, where a later one was changed
abbrev pub later_arm : Tree → Option Trees → Option Trees
later_arm first None = None
later_arm first (Some others) = Some (more first others)

-- the arms with the first one changed, or else a later one
abbrev pub first_arm : Option Tree → Trees → Option Trees → Option Trees
first_arm (Some one) others rest = Some (more one others)
first_arm None others rest = rest

-- the tree with these arms, where one was changed
abbrev pub with_arms : Stmts → Picker → Option Trees → Option Tree
with_arms body picker None = None
with_arms body picker (Some arms) = Some (tree body (Pick picker arms))

-- the tree after one join: of this choice where the rule applies, else within its arms
abbrev pub once_by : Stmts → Picker → Trees → Targets → Option Trees → Option Tree
once_by body picker arms NoTarget inner = Some (join_by body picker arms NoTarget)
once_by body picker arms (Only live) inner = Some (join_by body picker arms (Only live))
once_by body picker arms Several inner = with_arms body picker inner

abbrev mutual
  -- the tree after one join, if one applies
  pub joined_once : Tree → Option Tree
  joined_once (tree body end) = once_end body end

  -- the tree with this body and end after one join, if one applies
  pub once_end : Stmts → End → Option Tree
  once_end body (Pick picker arms) = once_by body picker arms (arms_targets arms) (once_arms arms)
  once_end body (Jump to) = None
  once_end body Return = None
  once_end body Stop = None
  once_end body Dead = None

  -- these trees after a join in the first to which one applies
  pub once_arms : Trees → Option Trees
  once_arms no_more = None
  once_arms (more first others) =
      first_arm (joined_once first) others (later_arm first (once_arms others))

-- Inline: the tree of a node takes the place of the jumps to it.

abbrev mutual
  -- the tree with this node in place of its jumps to the label
  pub inlined : Label → Tree → Tree → Tree
  inlined label node (tree body end) = inline_end label node body end

  -- a tree with this body and end, with the node in place of its jumps to the label
  pub inline_end : Label → Tree → Stmts → End → Tree
  inline_end label node body (Pick picker arms) =
      tree body (Pick picker (inlined_arms label node arms))
  inline_end label node body (Jump to) =
      if to == label then tree (followed body (body_of node)) (end_of node) else tree body (Jump to)
  inline_end label node body Return = tree body Return
  inline_end label node body Stop = tree body Stop
  inline_end label node body Dead = tree body Dead

  -- each of these trees so
  pub inlined_arms : Label → Tree → Trees → Trees
  inlined_arms label node no_more = no_more
  inlined_arms label node (more first others) =
      more (inlined label node first) (inlined_arms label node others)

-- the number of leaves that jump to a label
abbrev mutual
  pub leaves_to : Label → Tree → ℕ
  leaves_to label (tree body end) = end_leaves_to label end

  -- how many leaves of an end jump to the label
  pub end_leaves_to : Label → End → ℕ
  end_leaves_to label (Pick picker arms) = arms_leaves_to label arms
  end_leaves_to label (Jump to) = if to == label then 1 else 0
  end_leaves_to label Return = 0
  end_leaves_to label Stop = 0
  end_leaves_to label Dead = 0

  -- how many leaves of these trees jump to the label
  pub arms_leaves_to : Label → Trees → ℕ
  arms_leaves_to label no_more = 0
  arms_leaves_to label (more first others) = leaves_to label first + arms_leaves_to label others

-- Loop: where the live leaves of a node but those that jump to it have at most one target.

abbrev mutual
  -- the targets of a tree's leaves, but for those that jump to the label
  pub other_targets : Label → Tree → Targets
  other_targets label (tree body end) = end_targets label end

  -- the targets of an end, without the label
  pub end_targets : Label → End → Targets
  end_targets label (Pick picker arms) = other_arms_targets label arms
  end_targets label (Jump to) = if to == label then NoTarget else Only (ToLabel to)
  end_targets label Return = Only Back
  end_targets label Stop = NoTarget
  end_targets label Dead = NoTarget

  -- the targets of these trees, without the label
  pub other_arms_targets : Label → Trees → Targets
  other_arms_targets label no_more = NoTarget
  other_arms_targets label (more first others) =
      both_targets (other_targets label first) (other_arms_targets label others)

-- a leaf to the target sets the flag, where there is one
abbrev pub leaving : Keeper → ℕ → Stmts
leaving Flagged cell = alone (Do (Set cell 1))
leaving Endless cell = none

abbrev mutual
  -- the statements of a tree within the loop on a label
  pub flat : Keeper → ℕ → Label → Tree → Stmts
  flat keeper cell label (tree body end) = followed body (flat_end keeper cell label end)

  -- what an end becomes within the loop
  pub flat_end : Keeper → ℕ → Label → End → Stmts
  flat_end keeper cell label (Pick picker arms) =
      alone (Choose picker (flat_arms keeper cell label arms))
  flat_end keeper cell label (Jump to) = if to == label then none else leaving keeper cell
  flat_end keeper cell label Return = leaving keeper cell
  flat_end keeper cell label Stop = alone StopRun
  flat_end keeper cell label Dead = none

  -- what the trees of a choice become within the loop
  pub flat_arms : Keeper → ℕ → Label → Trees → Arms
  flat_arms keeper cell label no_more = done
  flat_arms keeper cell label (more first others) =
      given (flat keeper cell label first) (flat_arms keeper cell label others)
