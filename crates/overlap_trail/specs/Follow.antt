-- What comes of following a trail's moves.
use Rattle.std.specs.Prelude.{ℕ, ◌≡◌, ◌≤◌, ◌<◌, ◌+◌, Bool, true, false, List, [], ◌∷◌, Option, Some, None, length, drop}
use Rattle.cob_tree.specs.declared.file.FileEntry.{FileEntry}
use Rattle.cob_tree.specs.declared.program.Range.{Range}
use Rattle.cob_tree.specs.declared.stmt.Stmt as tree
use Rattle.control_flow_theory.specs.language.Language.{Chooser, Control, Body, Stmts, none, Program}
use Rattle.control_flow_theory.specs.language.Control.{seen_stmts}
use Rattle.control_flow_theory.specs.language.Items.{Item, Turn, before, before_body, past_sentence, from_loop}
use Rattle.program_points.specs.declared.paths.trail.Lemma.{Lemma}
use Rattle.program_points.specs.declared.paths.trail.Move.{Move}
use Rattle.program_points.specs.declared.paths.trail.Move.TheVariants.{Arm, Over, Into}
use Rattle.program_points.specs.paths.Step.{Point, at, start, Next, Ways, Calls, next, way_at, only}
use Rattle.program_points.specs.paths.Accepted.{Walk, walk, walk_to, by_arm, by_choice, onward, Aim, Meets, lemma_ranges}
use Rattle.program_points.specs.numbering.Kind.{never_first_of, remainder}
use Rattle.program_points.specs.numbering.Build.{branch_points, seen_maybe}
use Rattle.overlap_trail.specs.declared.follow.Branch.{Branch}
use Rattle.overlap_trail.specs.declared.follow.Branch.TheVariants.{First, Second, Neither}
use Rattle.overlap_trail.specs.declared.follow.Followed.{Followed}
use Rattle.overlap_trail.specs.declared.follow.Followed.TheVariants.{Through, To, Left, Ended, SectionEnded, Broken, Cycled, Met, Lost}

-- what moves are followed by: the choosers that never give their first arm, and the ranges that may
-- be stepped over
pub record Known : Type 0 where
  pub never_first : Chooser → Bool
  pub lemmas : List Range

-- what moves are followed by, with the ranges of these lemmas
abbrev pub knowing : (Chooser → Bool) → List Lemma → Known
knowing never_first lemmas = record { never_first = never_first; lemmas = lemma_ranges lemmas }

-- what moves are followed by in a program with these files, and with these lemmas
abbrev pub known_of : List FileEntry → List Lemma → Known
known_of files lemmas = knowing (never_first_of files) lemmas

-- what moves are to lead to, and in which level
pub record Sought : Type 0 where
  pub program : Program
  pub range : Range
  pub aim : Aim

-- what is sought: this aim, in this range of a program
abbrev pub sought_of : Program → Range → Aim → Sought
sought_of program range aim = record { program = program; range = range; aim = aim }

-- what control does at a point
abbrev pub next_at : Known → Sought → Point → Next
next_at known sought point = next known.never_first sought.program point

-- one step of what is followed
abbrev pub onward_at : Known → Sought → Walk → Option Walk
onward_at known sought here =
    onward known.never_first sought.program known.lemmas sought.range here

-- what was sought is here
abbrev pub MeetsAt : Known → Sought → Walk → Type 0
MeetsAt known sought here =
    Meets sought.aim sought.range (next_at known sought here.point) here.moves

-- the moves lead on, past no point at which what is sought is met
pub data Quietly (known : Known) (sought : Sought) : Walk → Walk → Type 0 where
  rests : (there : Walk) → Quietly known sought there there
  on_to : (from via to : Walk) → (MeetsAt known sought from → ⊥) →
      onward_at known sought from ≡ Some via → Quietly known sought via to →
      Quietly known sought from to

-- the same, with one step at least
abbrev pub Goes : Known → Sought → Walk → Walk → Type 0
Goes known sought from to = (via : Walk) × (MeetsAt known sought from → ⊥)
    × (onward_at known sought from ≡ Some via) × Quietly known sought via to

-- the walk leads to where no step leads on, and what is sought isn't met there
abbrev pub IsStuck : Known → Sought → Walk → Type 0
IsStuck known sought from = (end : Walk) × Quietly known sought from end
    × (MeetsAt known sought end → ⊥) × (onward_at known sought end ≡ None)

-- the walk leads to a PERFORM that no move steps over
abbrev pub IsMet : Known → Sought → Walk → ℕ → ℕ → List Move → Type 0
IsMet known sought from entry exit moves = (point : Point) × (after : Point)
    × Quietly known sought from (walk point moves)
    × (next_at known sought point ≡ Calls entry exit after)
    × (onward_at known sought (walk point moves) ≡ None)

-- what following comes to in a section whose last paragraph is this one, with this rest after what
-- was followed
abbrev pub ComesTo : Known → Sought → ℕ → ℕ → List Item → List Move → Walk → Followed → Type 0
ComesTo known sought last paragraph rest moves from (Through taken) =
    Quietly known sought from (walk (at paragraph rest) (drop taken moves))
ComesTo known sought last paragraph rest moves from (To to taken) =
    Goes known sought from (walk (start sought.program to) (drop taken moves))
ComesTo known sought last paragraph rest moves from (Left taken) =
    Quietly known sought from (walk (at paragraph (past_sentence rest)) (drop taken moves))
ComesTo known sought last paragraph rest moves from (Ended taken) =
    Quietly known sought from (walk (at paragraph []) (drop taken moves))
ComesTo known sought last paragraph rest moves from (SectionEnded taken) =
    Quietly known sought from (walk (at last []) (drop taken moves))
ComesTo known sought last paragraph rest moves from (Broken taken) =
    Quietly known sought from (walk (at paragraph (from_loop false rest)) (drop taken moves))
ComesTo known sought last paragraph rest moves from (Cycled taken) =
    Quietly known sought from (walk (at paragraph (from_loop true rest)) (drop taken moves))
ComesTo known sought last paragraph rest moves from (Met entry exit taken) =
    IsMet known sought from entry exit (drop taken moves)
ComesTo known sought last paragraph rest moves from Lost = IsStuck known sought from

-- the moves after the taken ones were followed through the statements
abbrev pub Follows : Known → List Move → ℕ → ℕ → Stmts → Followed → Type 0
Follows known moves last taken stmts way =
    (sought : Sought) (paragraph : ℕ) (rest : List Item) →
    ComesTo known sought last paragraph rest moves
    (walk (at paragraph (before stmts rest)) (drop taken moves)) way

-- the same through one of several branches
abbrev pub FollowsBranches : Known → List Move → ℕ → ℕ → List Stmts → Followed → Type 0
FollowsBranches known moves last taken branches way =
    (sought : Sought) (paragraph : ℕ) (rest : List Item) (from : Point) →
    next_at known sought from ≡ Ways (branch_points paragraph rest branches) →
    ComesTo known sought last paragraph rest moves (walk from (drop taken moves)) way

-- the same through these, if they are there
abbrev pub FollowsArm : Known → List Move → ℕ → ℕ → Option Stmts → Followed → Type 0
FollowsArm known moves last taken None way = way ≡ Lost
FollowsArm known moves last taken (Some stmts) way = Follows known moves last taken stmts way

-- the same through one of two arms: neither may be there, and the first may be never taken where it
-- isn't
abbrev pub FollowsBoth : Known → List Move → ℕ → ℕ → Option (List tree.Stmt) →
    Option (List tree.Stmt) → Bool → Followed → Type 0
FollowsBoth known moves last taken None None silent way = way ≡ Through taken
FollowsBoth known moves last taken None (Some second) true way =
    Follows known moves last taken (seen_stmts last second) way
FollowsBoth known moves last taken None (Some second) false way =
    FollowsBranches known moves last taken (none ∷ seen_stmts last second ∷ []) way
FollowsBoth known moves last taken (Some first) second silent way =
    FollowsBranches known moves last taken (seen_stmts last first ∷ seen_maybe last second ∷ []) way

-- Loops.

-- the point is a loop's remainder, or its first test: it is left, or turns
abbrev pub IsTurn : Known → Sought → ℕ → List Item → Control → Body → Point → Type 0
IsTurn known sought paragraph rest control body point =
    next_at known sought point ≡ Ways (Some (at paragraph rest)
    ∷ Some (at paragraph (before_body body (Turn (remainder control) body ∷ rest))) ∷ [])

-- the moves were followed through what is left of a loop
abbrev pub Turns : Known → List Move → ℕ → ℕ → Body → Followed → Type 0
Turns known moves last taken body way =
    (control : Control) (sought : Sought) (paragraph : ℕ) (rest : List Item) (first : Point) →
    IsTurn known sought paragraph rest control body first →
    ComesTo known sought last paragraph rest moves (walk first (drop taken moves)) way

-- the moves lead from one turn of a loop to another
abbrev pub TurnsOn : Known → List Move → Body → ℕ → ℕ → Type 0
TurnsOn known moves body taken now =
    (control : Control) (sought : Sought) (paragraph : ℕ) (rest : List Item) (first : Point) →
    IsTurn known sought paragraph rest control body first →
    (here : Point) × IsTurn known sought paragraph rest control body here
    × Quietly known sought (walk first (drop taken moves)) (walk here (drop now moves))

-- what comes of a body, as a turn of its loop
abbrev pub turned_way : Followed → Followed
turned_way (Through now) = Cycled now
turned_way (Broken now) = Through now
turned_way way = way

-- through the first of the statements the moves are followed, until so many are taken
abbrev pub FollowsOn : Known → List Move → Stmts → Stmts → ℕ → ℕ → Type 0
FollowsOn known moves stmts left taken now =
    (sought : Sought) (paragraph : ℕ) (rest : List Item) →
    Quietly known sought (walk (at paragraph (before stmts rest)) (drop taken moves))
    (walk (at paragraph (before left rest)) (drop now moves))

-- Moves.

-- the moves that are taken now are no fewer than before, and no more than there are
abbrev pub IsBetween : ℕ → ℕ → ℕ → Type 0
IsBetween taken most now = (taken ≤ now) × (now ≤ most)

-- how many moves are taken, between these numbers
abbrev pub IsTaken : ℕ → ℕ → Followed → Type 0
IsTaken taken most (Through now) = IsBetween taken most now
IsTaken taken most (To to now) = IsBetween taken most now
IsTaken taken most (Left now) = IsBetween taken most now
IsTaken taken most (Ended now) = IsBetween taken most now
IsTaken taken most (SectionEnded now) = IsBetween taken most now
IsTaken taken most (Broken now) = IsBetween taken most now
IsTaken taken most (Cycled now) = IsBetween taken most now
IsTaken taken most (Met entry exit now) = IsBetween taken most now
IsTaken taken most Lost = Unit {0}

-- the arm that the first move names
abbrev pub first_arm : List Move → Option ℕ
first_arm [] = None
first_arm (Arm number ∷ moves) = Some number
first_arm (Over number ∷ moves) = None
first_arm (Into ∷ moves) = None

-- the lemma that the first move names
abbrev pub first_over : List Move → Option ℕ
first_over [] = None
first_over (Arm number ∷ moves) = None
first_over (Over number ∷ moves) = Some number
first_over (Into ∷ moves) = None

-- the move that chooses this arm comes after the moves that are taken
abbrev pub IsArmFirst : List Move → ℕ → ℕ → Type 0
IsArmFirst moves taken number = (drop taken moves ≡ Arm number ∷ drop (taken + 1) moves)
    × (taken < length moves)

-- a move that steps over the lemma with this number comes after the moves that are taken
abbrev pub IsOverFirst : List Move → ℕ → ℕ → Type 0
IsOverFirst moves taken number = (drop taken moves ≡ Over number ∷ drop (taken + 1) moves)
    × (taken < length moves)

-- the move after the taken ones chooses this one of two ways
abbrev pub IsSide : List Move → ℕ → Branch → Type 0
IsSide moves taken First = IsArmFirst moves taken 1
IsSide moves taken Second = IsArmFirst moves taken 2
IsSide moves taken Neither =
    (first second : Option Point) → by_arm (first ∷ second ∷ []) (drop taken moves) ≡ None

-- there is one branch alone, or there are several
abbrev pub AreSeveral : Bool → List Stmts → Type 0
AreSeveral several [] = ⊥
AreSeveral several (branch ∷ []) = several ≡ false
AreSeveral several (branch ∷ other ∷ branches) = several ≡ true

-- the moves choose the branch with this number, from 0, and this many of them are taken then
pub record Picks (moves : List Move) (taken : ℕ) (branches : List Stmts) (index now : ℕ) : Type 0
  where
    -- the moves choose this branch wherever it is
    pub chosen : (paragraph : ℕ) (rest : List Item) →
        let ways = branch_points paragraph rest branches in
        by_choice (only ways) ways (drop taken moves)
        ≡ walk_to (way_at ways index) (drop now moves)
    -- so many moves are taken
    pub taken_then : IsBetween taken (length moves) now

-- the moves choose none of the branches
abbrev pub PicksNone : List Move → ℕ → List Stmts → Type 0
PicksNone moves taken branches = (paragraph : ℕ) (rest : List Item) →
    let ways = branch_points paragraph rest branches in
    by_choice (only ways) ways (drop taken moves) ≡ None
