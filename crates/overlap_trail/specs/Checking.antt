-- What a check of a trail looks at.
use Rattle.std.specs.Prelude.{ℕ, ◌≡◌, ◌<◌, Bool, false, ◌==◌, List, [], ◌∷◌, length, drop}
use Rattle.cob_tree.specs.declared.program.Range.{Range}
use Rattle.program_points.specs.declared.paths.trail.Move.{Move}
use Rattle.program_points.specs.declared.paths.trail.Hop.{Hop}
use Rattle.cob_tree.specs.declared.ending.FlowFault.{FlowFault}
use Rattle.control_flow_theory.specs.language.Language.{Chooser, Paragraph, Program}
use Rattle.control_flow_theory.specs.language.Items.{items_of}
use Rattle.program_points.specs.paths.Step.{at, start}
use Rattle.program_points.specs.paths.Flow.{is_among, main_range}
use Rattle.program_points.specs.paths.Accepted.{Walk, walk, Leads, Aim, LeadsTo, with_exit}
use Rattle.program_points.specs.paths.Accepted as accepted
use Rattle.overlap_trail.specs.declared.judge.Goal.{Goal}
use Rattle.overlap_trail.specs.declared.judge.Goal.TheVariants.{Return, Enter, Fault}
use Rattle.overlap_trail.specs.declared.leg.ParagraphStep.{ParagraphStep}
use Rattle.overlap_trail.specs.declared.leg.ParagraphStep.TheVariants.{There, Nowhere, On}
use Rattle.overlap_trail.specs.declared.leg.ParagraphOutcome.{ParagraphOutcome}
use Rattle.overlap_trail.specs.declared.leg.ParagraphOutcome.TheVariants.{ToEnd, ToSectionEnd, ToStart, Met, Lost}
use Rattle.overlap_trail.specs.Follow.{Known, Sought, sought_of, MeetsAt, Quietly, Goes, IsStuck, IsMet, IsBetween}

-- the exits of hops, the last first, after these
abbrev pub exits_from : List ℕ → List Hop → List ℕ
exits_from ends [] = ends
exits_from ends (hop ∷ hops) = exits_from (with_exit hop.range.exit ends) hops

-- the exits of hops, the last first
abbrev pub exits_of : List Hop → List ℕ
exits_of hops = exits_from [] hops

-- the first of the exits is this paragraph
abbrev pub top_is : ℕ → List ℕ → Bool
top_is paragraph [] = false
top_is paragraph (top ∷ others) = top == paragraph

-- one of the exits after the first is this paragraph
abbrev pub below_is : ℕ → List ℕ → Bool
below_is paragraph [] = false
below_is paragraph (top ∷ others) = is_among paragraph others

-- the aim of a goal, after these hops
abbrev pub aim_of : Goal → List Hop → Aim
aim_of Return hops = accepted.Return
aim_of (Enter range) hops = accepted.Enter range
aim_of (Fault fault) hops = accepted.Fault fault (exits_of hops)

-- what following a paragraph comes to, in a section whose last one is this
abbrev pub ComesOut : Known → Sought → ℕ → ℕ → List Move → Walk → ParagraphOutcome → Type 0
ComesOut known sought last paragraph moves from (ToEnd taken) =
    Quietly known sought from (walk (at paragraph []) (drop taken moves))
ComesOut known sought last paragraph moves from (ToSectionEnd taken) =
    Quietly known sought from (walk (at last []) (drop taken moves))
ComesOut known sought last paragraph moves from (ToStart to taken) =
    Goes known sought from (walk (start sought.program to) (drop taken moves))
ComesOut known sought last paragraph moves from (Met entry exit taken) =
    IsMet known sought from entry exit (drop taken moves)
ComesOut known sought last paragraph moves from Lost = IsStuck known sought from

-- the moves were followed through the rest of a paragraph's sentences
abbrev pub FollowsSentences : Known → List Move → ℕ → ℕ → Paragraph → ParagraphOutcome → Type 0
FollowsSentences known moves last taken sentences out = (sought : Sought) (paragraph : ℕ) →
    ComesOut known sought last paragraph moves
    (walk (at paragraph (items_of sentences)) (drop taken moves)) out

-- how many moves are taken, between these numbers
abbrev pub IsTakenOut : ℕ → ℕ → ParagraphOutcome → Type 0
IsTakenOut taken most (ToEnd now) = IsBetween taken most now
IsTakenOut taken most (ToSectionEnd now) = IsBetween taken most now
IsTakenOut taken most (ToStart to now) = IsBetween taken most now
IsTakenOut taken most (Met entry exit now) = IsBetween taken most now
IsTakenOut taken most Lost = Unit {0}

-- the moves lead from here to what is sought
abbrev pub Arrives : Known → Sought → Walk → Type 0
Arrives known sought from = (end : Walk)
    × Leads known.never_first sought.program known.lemmas sought.range from end
    × MeetsAt known sought end

-- what following a paragraph came to: what is sought, nothing, or the start of a paragraph
abbrev pub IsLeg : Known → Sought → List Move → Walk → ℕ → ParagraphStep → Type 0
IsLeg known sought moves from taken There = Arrives known sought from
IsLeg known sought moves from taken Nowhere = Arrives known sought from → ⊥
IsLeg known sought moves from taken (On paragraph now) =
    Goes known sought from (walk (start sought.program paragraph) (drop now moves))
    × IsBetween taken (length moves) now

-- what comes of a PERFORM that no move steps over
abbrev pub IsCallLeg : Range → Aim → List Move → ℕ → ℕ → ℕ → ParagraphStep → Type 0
IsCallLeg range aim moves entry exit taken leg =
    (known : Known) (program : Program) (from : Walk) →
    IsMet known (sought_of program range aim) from entry exit (drop taken moves) →
    IsLeg known (sought_of program range aim) moves from taken leg

-- where it goes on, the paragraph that was followed is one of so many
abbrev pub IsOnFrom : ℕ → ℕ → ParagraphStep → Type 0
IsOnFrom paragraph count There = Unit {0}
IsOnFrom paragraph count Nowhere = Unit {0}
IsOnFrom paragraph count (On to now) = paragraph < count

-- where a hop's moves are to lead to, with these hops after it
abbrev pub aim_behind : FlowFault → List ℕ → List Hop → Aim
aim_behind fault ends [] = accepted.Fault fault ends
aim_behind fault ends (later ∷ hops) = accepted.Enter later.range

-- these hops, after ones that end so, lead from one to the next, and the last one to the fault
abbrev pub HopsFrom : (Chooser → Bool) → Program → List Range → FlowFault → List ℕ → List Hop →
    Type 0
HopsFrom never_first program lemmas fault ends [] = Unit {0}
HopsFrom never_first program lemmas fault ends (hop ∷ hops) =
    LeadsTo never_first program lemmas hop.range
    (aim_behind fault (with_exit hop.range.exit ends) hops) hop.moves
    × HopsFrom never_first program lemmas fault (with_exit hop.range.exit ends) hops

-- the first hop is in main
abbrev pub IsFirstMain : List Hop → Type 0
IsFirstMain [] = ⊥
IsFirstMain (hop ∷ hops) = hop.range ≡ main_range
