-- Where control is, and what a step does to it, whatever the data.
use Rattle.std.specs.Prelude.{ℕ, zero, suc, Bool, true, false, if◌then◌else◌, List, [], ◌∷◌, length, Option, Some, None, slice_get}
use Rattle.control_flow_theory.specs.language.Language.{Chooser, By, Choose, GoDepending, Arms, done, given, missing, Paragraph, Program}
use Rattle.control_flow_theory.specs.language.Items.{Turning, Counted, Item, Do, SentenceEnd, Turn}
use Rattle.control_flow_theory.specs.semantics.Outcome.{Got}
use Rattle.control_flow_theory.specs.semantics.Doing.{Doing}
use Rattle.control_flow_theory.specs.semantics.Items.{Way, On, Halts, Into, To, ToEnd, item_way}
use Rattle.control_flow_theory.specs.semantics.Source.{rest_of}
use Rattle.control_flow_theory.specs.lowering.FlowFacts.{arm_count}
use Rattle.control_flow_theory.specs.lowering.flow.Paths.{is_first}

-- where control is: a paragraph, and what is still to do there
pub record Point : Type 0 where
  pub paragraph : ℕ
  pub rest : List Item

-- the point in this paragraph, with this rest
abbrev pub at : ℕ → List Item → Point
at paragraph rest = record { paragraph = paragraph; rest = rest }

-- the point at the beginning of the paragraph with this number
abbrev pub start : Program → ℕ → Point
start program number = at number (rest_of program number)

-- the paragraph is there
abbrev pub is_present : Option Paragraph → Bool
is_present None = false
is_present (Some paragraph) = true

-- a paragraph has this number
abbrev pub is_paragraph : Program → ℕ → Bool
is_paragraph program number = is_present (slice_get program.paragraphs number)

-- What a step does to control, whatever the data: it goes one of these ways, of which one that is
-- never taken is none; performs a range, and goes on there where that returns; stops the run; or is
-- at the paragraph's end.
pub data Next : Type 0 where
  Ways : List (Option Point) → Next
  Calls : (entry : ℕ) → (exit : ℕ) → (after : Point) → Next
  Stops : Next
  Ends : (paragraph : ℕ) → Next

-- Each way of an item is what the item does where its parts give that way.

-- what chooses gives the arm with this number, and a test holds by way 0
abbrev pub by_way : ℕ → Doing (Unit {0})
by_way way = record {
  act = λ act nothing. Got [] tt nothing;
  test = λ test nothing. Got [] (is_first way) nothing;
  pick = λ picker nothing. Got [] way nothing;
  count = λ amount nothing. Got [] 0 nothing;
}

-- how a loop turns, by a way: a counted loop has no turn left, or one and maybe more; how many
-- isn't looked at
abbrev pub turning_by : ℕ → Turning → Turning
turning_by way (Counted turns) = Counted way
turning_by way turning = turning

-- the item, by this way of a counted loop
abbrev pub item_by : ℕ → Item → Item
item_by way (Do stmt) = Do stmt
item_by way SentenceEnd = SentenceEnd
item_by way (Turn turning body) = Turn (turning_by way turning) body

-- what the item does by this way
abbrev pub way_of : ℕ → Item → List Item → Way (Unit {0})
way_of way item rest = item_way (by_way way) (item_by way item) rest tt

-- the point to which a way leads, from this paragraph
abbrev pub led : Program → ℕ → Way (Unit {0}) → Option Point
led program number (On trace nothing items) = Some (at number items)
led program number (Halts trace how nothing) = None
led program number (Into entry exit items) = None
led program number (To trace nothing to) = Some (start program to)
led program number (ToEnd trace nothing to) = Some (at to [])

-- an arm is given
abbrev pub some_given : Arms → Bool
some_given done = false
some_given (given arm others) = true
some_given (missing others) = some_given others

-- how many ways it has: its arms, where one is given; its names and the way after it; or no turn
-- and one more
abbrev pub way_count : Item → ℕ
way_count (Do (Choose picker arms)) = if some_given arms then arm_count arms else 1
way_count (Do (GoDepending to on)) = suc (length to)
way_count (Turn turning body) = 2
way_count item = 1

-- the item is a choice whose first way is never taken
abbrev pub first_is_barred : (Chooser → Bool) → Item → Bool
first_is_barred never_first (Do (Choose (By chooser) arms)) =
    if some_given arms then never_first chooser else false
first_is_barred never_first item = false

-- the ways, of which the first is none where it is never taken
abbrev pub without_first : Bool → List (Option Point) → List (Option Point)
without_first true (first ∷ ways) = None ∷ ways
without_first barred ways = ways

module _ (never_first : Chooser → Bool) (program : Program) (number : ℕ) where
  -- where so many ways lead, from this one on
  abbrev pub ways_from : ℕ → ℕ → Item → List Item → List (Option Point)
  ways_from way zero item rest = []
  ways_from way (suc count) item rest =
      led program number (way_of way item rest) ∷ ways_from (suc way) count item rest

  -- the ways of an item
  abbrev pub ways_of : Item → List Item → List (Option Point)
  ways_of item rest =
      without_first (first_is_barred never_first item) (ways_from 0 (way_count item) item rest)

  -- what comes next by what one way does; what stops or performs does so by each way
  abbrev pub next_by : Item → List Item → Way (Unit {0}) → Next
  next_by item rest (On trace nothing items) = Ways (ways_of item rest)
  next_by item rest (Halts trace how nothing) = Stops
  next_by item rest (Into entry exit items) = Calls entry exit (at number items)
  next_by item rest (To trace nothing to) = Ways (ways_of item rest)
  next_by item rest (ToEnd trace nothing to) = Ways (ways_of item rest)

  -- what a step does at this rest
  abbrev pub next_in : List Item → Next
  next_in [] = Ends number
  next_in (item ∷ rest) = next_by item rest (way_of 0 item rest)

-- what a step does at this point
abbrev pub next : (Chooser → Bool) → Program → Point → Next
next never_first program point = next_in never_first program point.paragraph point.rest

-- the way, if it is there
abbrev pub flattened : {A : Type 0} → Option (Option A) → Option A
flattened None = None
flattened (Some way) = way

-- the way with this number, from 0
abbrev pub way_at : {A : Type 0} → List (Option A) → ℕ → Option A
way_at ways number = flattened (slice_get ways number)

-- there is no way
abbrev pub no_way : {A : Type 0} → List (Option A) → Bool
no_way [] = true
no_way (None ∷ ways) = no_way ways
no_way (Some way ∷ ways) = false

-- the one way, where there is no choice
abbrev pub only : {A : Type 0} → List (Option A) → Option A
only [] = None
only (None ∷ ways) = only ways
only (Some way ∷ ways) = if no_way ways then Some way else None
