-- Trails that show a fault.
use Rattle.std.specs.Prelude.{ℕ, zero, suc, ◌≡◌, Bool, true, false, if◌then◌else◌, ◌==◌, List, [], ◌∷◌, ◌++◌, map, Option, Some, None, slice_get, ◌⊎◌}
use Rattle.cob_tree.specs.declared.program.Range.{Range}
use Rattle.cob_tree.specs.declared.ending.FlowFault.{FlowFault}
use Rattle.program_points.specs.declared.paths.trail.Move.{Move}
use Rattle.program_points.specs.declared.paths.trail.Move.TheVariants.{Arm, Over, Into}
use Rattle.program_points.specs.declared.paths.trail.Lemma.{Lemma}
use Rattle.program_points.specs.declared.paths.trail.Hop.{Hop}
use Rattle.program_points.specs.declared.paths.trail.Trail.{Trail}
use Rattle.control_flow_theory.specs.language.Language.{Chooser, Program}
use Rattle.program_points.specs.paths.Step.{Point, start, Next, Ways, Calls, Stops, Ends, next, way_at, only, is_paragraph}
use Rattle.program_points.specs.paths.Flow.{main_range, part, is_exit, fault_of}

-- where a trail has come to inside a level, and the moves that it has left
pub record Walk : Type 0 where
  pub point : Point
  pub moves : List Move

-- the walk at this point, with these moves left
abbrev pub walk : Point → List Move → Walk
walk point moves = record { point = point; moves = moves }

-- the walk at this point, if there is one
abbrev pub walk_to : Option Point → List Move → Option Walk
walk_to None moves = None
walk_to (Some point) moves = Some (walk point moves)

-- the way that a move names, from 1
abbrev pub arm_at : List (Option Point) → ℕ → Option Point
arm_at ways zero = None
arm_at ways (suc number) = way_at ways number

-- the first move chooses one of the ways
abbrev pub by_arm : List (Option Point) → List Move → Option Walk
by_arm ways [] = None
by_arm ways (Arm number ∷ moves) = walk_to (arm_at ways number) moves
by_arm ways (Over number ∷ moves) = None
by_arm ways (Into ∷ moves) = None

-- the walk after a step; only a choice takes a move
abbrev pub by_choice : Option Point → List (Option Point) → List Move → Option Walk
by_choice None ways moves = by_arm ways moves
by_choice (Some point) ways moves = Some (walk point moves)

-- the range is there, and has this entry and exit
abbrev pub is_range : Option Range → ℕ → ℕ → Bool
is_range None entry exit = false
is_range (Some range) entry exit = if range.entry == entry then is_exit range.exit exit else false

-- the first move steps over a PERFORM of this range, by the lemma that it names
abbrev pub over_call : List Range → ℕ → ℕ → Point → List Move → Option Walk
over_call lemmas entry exit after [] = None
over_call lemmas entry exit after (Arm number ∷ moves) = None
over_call lemmas entry exit after (Over number ∷ moves) =
    if is_range (slice_get lemmas number) entry exit then Some (walk after moves) else None
over_call lemmas entry exit after (Into ∷ moves) = None

-- the walk past the end of a paragraph that isn't the range's exit, into the next one
abbrev pub past_end : Program → Option ℕ → ℕ → List Move → Option Walk
past_end program exit paragraph moves =
    if is_exit exit paragraph then None
    else (if is_paragraph program (suc paragraph)
    then Some (walk (start program (suc paragraph)) moves) else None)

-- One step inside a range's level: what has one way takes no move, a choice takes its arm, and a
-- PERFORM is stepped over by a lemma of its range.
abbrev pub onward_by : (Chooser → Bool) → Program → List Range → Range → Next → List Move →
    Option Walk
onward_by never_first program lemmas range (Ways ways) moves = by_choice (only ways) ways moves
onward_by never_first program lemmas range (Calls entry exit after) moves =
    over_call lemmas entry exit after moves
onward_by never_first program lemmas range Stops moves = None
onward_by never_first program lemmas range (Ends paragraph) moves =
    past_end program range.exit paragraph moves

-- one step inside a range's level
abbrev pub onward : (Chooser → Bool) → Program → List Range → Range → Walk → Option Walk
onward never_first program lemmas range here =
    onward_by never_first program lemmas range (next never_first program here.point) here.moves

-- the steps lead from the first to the second inside a range's level
pub data Leads (never_first : Chooser → Bool) (program : Program) (lemmas : List Range)
    (range : Range) : Walk → Walk → Type 0 where
  here : (there : Walk) → Leads never_first program lemmas range there there
  further : (from via to : Walk) → onward never_first program lemmas range from ≡ Some via →
      Leads never_first program lemmas range via to → Leads never_first program lemmas range from to

-- what moves come to: those of a lemma, of a hop, or of the last hop
pub data Aim : Type 0 where
  Return : Aim
  Enter : Range → Aim
  Fault : FlowFault → (ends : List ℕ) → Aim

-- the one move that is left enters the range that is performed, which is this one
abbrev pub IsEntered : Range → List Move → Range → Type 0
IsEntered range [] called = ⊥
IsEntered range (Arm number ∷ moves) called = ⊥
IsEntered range (Over number ∷ moves) called = ⊥
IsEntered range (Into ∷ moves) called = (moves ≡ []) × (range ≡ called)

-- what control does here is the aim, and no move is left but to enter a range
abbrev pub Meets : Aim → Range → Next → List Move → Type 0
Meets Return range (Ends paragraph) moves = (moves ≡ []) × (is_exit range.exit paragraph ≡ true)
Meets Return range (Ways ways) moves = ⊥
Meets Return range (Calls entry exit after) moves = ⊥
Meets Return range Stops moves = ⊥
Meets (Enter called) range (Calls entry exit after) moves = IsEntered called moves (part entry exit)
Meets (Enter called) range (Ways ways) moves = ⊥
Meets (Enter called) range Stops moves = ⊥
Meets (Enter called) range (Ends paragraph) moves = ⊥
Meets (Fault fault ends) range now moves = (moves ≡ []) × (fault_of now ends ≡ Some fault)

-- the moves lead from the range's entry to the aim
pub record LeadsTo (never_first : Chooser → Bool) (program : Program) (lemmas : List Range)
    (range : Range) (aim : Aim) (moves : List Move) : Type 0 where
  -- the range begins with a paragraph of the program
  pub is_there : is_paragraph program range.entry ≡ true
  pub end : Walk
  -- the steps lead to this walk
  pub path : Leads never_first program lemmas range (walk (start program range.entry) moves) end
  -- where the aim is met
  pub meets : Meets aim range (next never_first program end.point) end.moves

-- each lemma steps over the ranges of earlier ones alone
abbrev pub LemmasHold : (Chooser → Bool) → Program → List Range → List Lemma → Type 0
LemmasHold never_first program earlier [] = Unit {0}
LemmasHold never_first program earlier (lemma ∷ lemmas) =
    LeadsTo never_first program earlier lemma.range Return lemma.moves
    × LemmasHold never_first program (earlier ++ lemma.range ∷ []) lemmas

-- the exits of the hops so far, the last first
abbrev pub with_exit : Option ℕ → List ℕ → List ℕ
with_exit None ends = ends
with_exit (Some exit) ends = exit ∷ ends

-- this hop and those after it lead to the fault: each into the next one's range, and the last one
-- to the fault, judged against the exits of the hops
abbrev pub HopsLead : (Chooser → Bool) → Program → List Range → FlowFault → List ℕ → Hop →
    List Hop → Type 0
HopsLead never_first program lemmas fault ends hop [] =
    LeadsTo never_first program lemmas hop.range (Fault fault ends) hop.moves
HopsLead never_first program lemmas fault ends hop (later ∷ hops) =
    LeadsTo never_first program lemmas hop.range (Enter later.range) hop.moves
    × HopsLead never_first program lemmas fault (with_exit later.range.exit ends) later hops

-- the hops begin in main and lead to the fault
abbrev pub BeginsInMain : (Chooser → Bool) → Program → List Range → FlowFault → List Hop → Type 0
BeginsInMain never_first program lemmas fault [] = ⊥
BeginsInMain never_first program lemmas fault (hop ∷ hops) = (hop.range ≡ main_range)
    × HopsLead never_first program lemmas fault [] hop hops

-- the ranges of the lemmas
abbrev pub lemma_ranges : List Lemma → List Range
lemma_ranges lemmas = map (λ (lemma : Lemma). lemma.range) lemmas

-- the ranges of the hops
abbrev pub hop_ranges : List Hop → List Range
hop_ranges hops = map (λ (hop : Hop). hop.range) hops

-- following the trail through the program shows the fault that it names
pub record IsAccepted (never_first : Chooser → Bool) (program : Program) (trail : Trail)
    : Type 0 where
  -- each lemma's moves lead to its return
  pub lemmas : LemmasHold never_first program [] trail.lemmas
  -- the hops lead from main to the fault
  pub hops : BeginsInMain never_first program (lemma_ranges trail.lemmas) trail.fault trail.hops

-- the range is among these
abbrev pub IsIn : Range → List Range → Type 0
IsIn range [] = ⊥
IsIn range (other ∷ ranges) = (other ≡ range) ⊎ IsIn range ranges

-- no range is among these twice
abbrev pub NoneTwice : List Range → Type 0
NoneTwice [] = Unit {0}
NoneTwice (range ∷ ranges) = (IsIn range ranges → ⊥) × NoneTwice ranges
