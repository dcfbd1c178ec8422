-- How places are added for statements.
use Rattle.std.specs.Prelude.{ℕ, suc, ◌≡◌, ◌<◌, ◌≤◌, ◌+◌, ◌^◌, Bool, true, false, List, [], ◌∷◌, ◌++◌, map, length, Option, Some, None, option_map, slice_get, slice_set, ◌&&◌, not, is_some}
use Rattle.cob_tree.specs.declared.program.Range.{Range}
use Rattle.cob_tree.specs.declared.stmt.Stmt as tree
use Rattle.cob_tree.specs.declared.stmt.When.{When}
use Rattle.control_flow_theory.specs.language.Control.{seen_stmts, seen_when}
use Rattle.control_flow_theory.specs.language.Language.{Chooser, Stmts, none, Arms, done, given, missing, Paragraph, Program}
use Rattle.control_flow_theory.specs.language.Items.{items_of, Item, before, past_sentence, from_loop}
use Rattle.program_points.specs.paths.Step.{Point, at, start, next}
use Rattle.program_points.specs.declared.point_table.table.ProgramPoint.{ProgramPoint}
use Rattle.program_points.specs.declared.point_table.table.Table.{Table}
use Rattle.program_points.specs.point_table.Table.{Describes, AllBelow}
use Rattle.program_points.specs.declared.numbering.build.Exits.{Exits}
use Rattle.program_points.specs.declared.numbering.build.Here.{Here}
use Rattle.program_points.specs.declared.numbering.kind.LoopStart.{LoopStart}
use Rattle.program_points.specs.declared.numbering.kind.LoopStart.TheVariants.{Before, Again, After}
use Rattle.program_points.specs.declared.point_table.table.ProgramPoint.TheVariants.{Goes, Chooses}

-- a table without its starts and owners
abbrev pub part_of : List ProgramPoint → List Range → Table
part_of places ranges = record { places = places; owners = []; starts = []; ranges = ranges }

-- places of this paragraph were added after the old ones, and each of them says what control does
-- at its point
pub record Grown (never_first : Chooser → Bool) (program : Program) (home : ℕ) (old new : List
    ProgramPoint) (old_ranges new_ranges : List Range) (points later : ℕ → Point) : Type 0 where
  pub longer : length old ≤ length new
  -- the old places are the same
  pub kept : (number : ℕ) → number < length old → slice_get new number ≡ slice_get old number
  -- the ranges keep their numbers
  pub ranges : (number : ℕ) (range : Range) → slice_get old_ranges number ≡ Some range →
      slice_get new_ranges number ≡ Some range
  -- the old places keep their points
  pub same : (number : ℕ) → number < length old → later number ≡ points number
  -- each new place says what control does at its point
  pub described : (number : ℕ) → length old ≤ number → number < length new →
      (place : ProgramPoint) × (slice_get new number ≡ Some place)
      × Describes (part_of new new_ranges) later place (next never_first program (later number))
  -- each new place is in this paragraph
  pub owned : (number : ℕ) → length old ≤ number → number < length new →
      (later number).paragraph ≡ home

-- the first places are the starts of the paragraphs, and the next ones their ends
pub record HasParagraphs (program : Program) (count : ℕ) (places : List ProgramPoint)
    (points : ℕ → Point) : Type 0 where
  -- the first places are the starts of the paragraphs
  pub starts : (paragraph : ℕ) → paragraph < count → points paragraph ≡ start program paragraph
  -- and the next ones their ends
  pub ends : (paragraph : ℕ) → paragraph < count → points (count + paragraph) ≡ at paragraph []
  pub room : count + count ≤ length places

-- the paragraph, and the last one of its section, are among so many, and 32 bits number the places
-- of their starts and ends
abbrev pub IsHere : ℕ → Here → Type 0
IsHere count here = (here.number < count) × (here.last < count) × (count + count < 2 ^ 32)

-- the place is at this point
abbrev pub IsAt : List ProgramPoint → (ℕ → Point) → ℕ → Point → Type 0
IsAt places points place point = (points place ≡ point) × (place < length places)

-- what the places after statements have to be
pub record IsBehind (program : Program) (count number : ℕ) (old : List ProgramPoint)
    (points : ℕ → Point)
    (rest : List Item) (exits : Exits) : Type 0 where
  pub paragraphs : HasParagraphs program count old points
  -- the paragraph is one of these
  pub here : number < count
  -- control goes on there after the statements
  pub after : IsAt old points exits.after (at number rest)
  -- and there after the sentence
  pub leave : IsAt old points exits.leave (at number (past_sentence rest))
  -- and there after the loop
  pub broken : IsAt old points exits.broken (at number (from_loop false rest))
  -- and there at the loop's next turn
  pub cycled : IsAt old points exits.cycled (at number (from_loop true rest))

-- the statements at these places begin at this one, whatever follows them
abbrev pub Builds : (Chooser → Bool) → ℕ → ℕ → List ProgramPoint → List ProgramPoint → List Range →
    List Range →
    Stmts → Exits → ℕ → Type 0
Builds never_first count number old new old_ranges new_ranges stmts exits begin =
    (program : Program) (points : ℕ → Point) (rest : List Item) →
    IsBehind program count number old points rest exits →
    (later : ℕ → Point) × Grown never_first program number old new old_ranges new_ranges points
    later
    × IsAt new later begin (at number (before stmts rest))

-- the statements of each arm, none of a missing one
abbrev pub branches_of : Arms → List Stmts
branches_of done = []
branches_of (given arm others) = arm ∷ branches_of others
branches_of (missing others) = none ∷ branches_of others

-- the points at which these branches begin
abbrev pub branch_points : ℕ → List Item → List Stmts → List (Option Point)
branch_points number rest branches = map (λ stmts. Some (at number (before stmts rest))) branches

-- the same of several lists of statements, of each of which one is chosen
abbrev pub BuildsBranches : (Chooser → Bool) → ℕ → ℕ → List ProgramPoint → List ProgramPoint →
    List Range →
    List Range → List Stmts → Exits → List (Option ℕ) → Type 0
BuildsBranches never_first count number old new old_ranges new_ranges branches exits ways =
    (program : Program) (points : ℕ → Point) (rest : List Item) →
    IsBehind program count number old points rest exits →
    (later : ℕ → Point) × Grown never_first program number old new old_ranges new_ranges points
    later
    × (branch_points number rest branches ≡ map (λ (way : Option ℕ). option_map later way) ways)
    × AllBelow (length new) ways

-- two ways, of which the first may be never taken
abbrev pub two_ways : Bool → ℕ → ℕ → List (Option ℕ)
two_ways true first second = None ∷ Some second ∷ []
two_ways false first second = Some first ∷ Some second ∷ []

-- what is left of a loop leaves it or turns
abbrev pub turned_at : ℕ → ℕ → ℕ → List ProgramPoint → List ProgramPoint
turned_at turn after start places = slice_set places turn (Chooses (two_ways false after start))

-- how a loop is closed, and where it begins
abbrev pub IsClosed : LoopStart → ℕ → ℕ → ℕ → ℕ → List ProgramPoint → List ProgramPoint → Type 0
IsClosed Before turn after start begin old new =
    (begin ≡ length old) × (new ≡ turned_at turn after start old ++ Goes turn ∷ [])
IsClosed After turn after start begin old new =
    (begin ≡ length old) × (new ≡ turned_at turn after start old ++ Goes start ∷ [])
IsClosed Again turn after start begin old new = (begin ≡ suc (length old))
    × (new ≡ (turned_at turn after start old ++ Chooses (two_ways false after start) ∷ [])
    ++ Goes (length old) ∷ [])

-- the first way may be never taken
abbrev pub barring : Bool → List (Option ℕ) → List (Option ℕ)
barring true (first ∷ ways) = None ∷ ways
barring barred ways = ways

-- the same exits after statements that begin at this place
abbrev pub after_at : Exits → ℕ → Exits
after_at exits place = record {
  after = place;
  leave = exits.leave;
  broken = exits.broken;
  cycled = exits.cycled;
}

-- the exits of a loop's body
abbrev pub inside : Exits → ℕ → Exits
inside exits turn = record {
  after = turn;
  leave = exits.leave;
  broken = exits.after;
  cycled = turn;
}

-- the statements of several branches were built, and after them a choice among them
abbrev pub BuildsChoice : (Chooser → Bool) → ℕ → ℕ → List ProgramPoint → List ProgramPoint →
    List Range →
    List Range → List Stmts → Bool → Exits → ℕ → Type 0
BuildsChoice never_first count number old new old_ranges new_ranges branches barred exits begin =
    (mid : List ProgramPoint) × (ways : List (Option ℕ))
    × BuildsBranches never_first count number old mid old_ranges new_ranges branches exits ways
    × (new ≡ mid ++ Chooses (barring barred ways) ∷ []) × (begin ≡ length mid)

-- statements that may be absent
abbrev pub seen_maybe : ℕ → Option (List tree.Stmt) → Stmts
seen_maybe last None = none
seen_maybe last (Some stmts) = seen_stmts last stmts

-- the statements of WHENs
abbrev pub seen_branches : ℕ → List When → List Stmts
seen_branches last whens = map (λ when. (seen_when last when).arm) whens

-- neither of two arms is there
abbrev pub no_arms : Option (List tree.Stmt) → Option (List tree.Stmt) → Bool
no_arms None None = true
no_arms None (Some second) = false
no_arms (Some first) second = false

-- two arms: without either control goes on after them
abbrev pub BuildsBoth : (Chooser → Bool) → ℕ → ℕ → List ProgramPoint → List ProgramPoint →
    List Range →
    List Range → ℕ → Option (List tree.Stmt) → Option (List tree.Stmt) → Bool → Exits → ℕ → Type 0
BuildsBoth never_first count number old new old_ranges new_ranges last first second silent exits
    begin =
    (no_arms first second ≡ true →
    (begin ≡ length old) × (new ≡ old ++ Goes exits.after ∷ []) × (new_ranges ≡ old_ranges))
    × (no_arms first second ≡ false →
    BuildsChoice never_first count number old new old_ranges new_ranges
    (seen_maybe last first ∷ seen_maybe last second
    ∷ []) (silent && not (is_some first)) exits begin)

-- the rest of a paragraph, up to the place at its end
abbrev pub BuildsRest : (Chooser → Bool) → ℕ → ℕ → List ProgramPoint → List ProgramPoint →
    List Range →
    List Range → Paragraph → ℕ → Type 0
BuildsRest never_first count number old new old_ranges new_ranges sentences begin =
    (program : Program) (points : ℕ → Point) → HasParagraphs program count old points →
    number < count →
    (later : ℕ → Point) × Grown never_first program number old new old_ranges new_ranges points
    later
    × IsAt new later begin (at number (items_of sentences))
