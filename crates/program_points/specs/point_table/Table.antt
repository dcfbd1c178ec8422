-- A program's places, by number, and what a level comes to among them.
use Rattle.std.specs.Prelude.{ℕ, suc, ◌≡◌, ◌<◌, Bool, true, false, List, [], ◌∷◌, map, length, Option, Some, None, option_map, slice_get}
use Rattle.cob_tree.specs.declared.program.Range.{Range}
use Rattle.control_flow_theory.specs.language.Language.{Chooser, Program}
use Rattle.program_points.specs.paths.Step.{Point, start, Next, next, is_paragraph}
use Rattle.program_points.specs.paths.Step as lang
use Rattle.program_points.specs.paths.Flow.{part, is_exit, ReturnsIn}
use Rattle.program_points.specs.declared.point_table.table.ProgramPoint.{ProgramPoint}
use Rattle.program_points.specs.declared.point_table.table.ProgramPoint.TheVariants.{Goes, Chooses, Calls, Stops, Ends}
use Rattle.program_points.specs.declared.point_table.table.Table.{Table}

-- each of these ways leads to a number below this one
abbrev pub AllBelow : ℕ → List (Option ℕ) → Type 0
AllBelow most [] = Unit {0}
AllBelow most (None ∷ ways) = AllBelow most ways
AllBelow most (Some way ∷ ways) = (way < most) × AllBelow most ways

-- a place says what control does at its point
abbrev pub Describes : Table → (ℕ → Point) → ProgramPoint → Next → Type 0
Describes table points (Goes to) now = (now ≡ lang.Ways (Some (points to) ∷ []))
    × (to < length table.places)
Describes table points (Chooses ways) now =
    (now ≡ lang.Ways (map (λ (way : Option ℕ). option_map points way) ways))
    × AllBelow (length table.places) ways
Describes table points (Calls range after) now = (entry : ℕ) × (exit : ℕ)
    × (now ≡ lang.Calls entry exit (points after))
    × (slice_get table.ranges range ≡ Some (part entry exit)) × (after < length table.places)
Describes table points Stops now = now ≡ lang.Stops
Describes table points (Ends paragraph) now = now ≡ lang.Ends paragraph

-- the table's places are the program's, each at this point of it
pub record IsTable (never_first : Chooser → Bool) (program : Program) (table : Table) (points : ℕ →
    Point) : Type 0 where
  -- a paragraph's place is its start
  pub starts : (paragraph place : ℕ) → slice_get table.starts paragraph ≡ Some place →
      (points place ≡ start program paragraph) × (place < length table.places)
      × (is_paragraph program paragraph ≡ true)
  -- each paragraph has one
  pub started : (paragraph : ℕ) → is_paragraph program paragraph ≡ true → (place : ℕ)
      × (slice_get table.starts paragraph ≡ Some place)
  -- each place says what control does at its point
  pub places : (number : ℕ) (place : ProgramPoint) → slice_get table.places number ≡ Some place →
      Describes table points place (next never_first program (points number))
  -- and is in its paragraph
  pub owned : (number : ℕ) (place : ProgramPoint) → slice_get table.places number ≡ Some place →
      slice_get table.owners number ≡ Some (points number).paragraph
  -- each range begins with a paragraph of the program
  pub entries : (number : ℕ) (range : Range) → slice_get table.ranges number ≡ Some range →
      is_paragraph program range.entry ≡ true

-- control comes to this place in the level of this range, where these ranges return
pub data ComesIn (table : Table) (returns : List Bool) (range : Range) : ℕ → Type 0 where
  enters : (place : ℕ) → slice_get table.starts range.entry ≡ Some place →
      ComesIn table returns range place
  goes : (from to : ℕ) → ComesIn table returns range from →
      slice_get table.places from ≡ Some (Goes to) → ComesIn table returns range to
  chooses : (from to number : ℕ) (ways : List (Option ℕ)) → ComesIn table returns range from →
      slice_get table.places from ≡ Some (Chooses ways) → slice_get ways number ≡ Some (Some to) →
      ComesIn table returns range to
  over : (from after called : ℕ) → ComesIn table returns range from →
      slice_get table.places from ≡ Some (Calls called after) →
      slice_get returns called ≡ Some true → ComesIn table returns range after
  falls : (from paragraph to : ℕ) → ComesIn table returns range from →
      slice_get table.places from ≡ Some (Ends paragraph) → is_exit range.exit paragraph ≡ false →
      slice_get table.starts (suc paragraph) ≡ Some to → ComesIn table returns range to

-- the range comes to its return
abbrev pub ReturnsHere : Table → List Bool → Range → Type 0
ReturnsHere table returns range = (place : ℕ) × (paragraph : ℕ) × ComesIn table returns range place
    × (slice_get table.places place ≡ Some (Ends paragraph)) × (is_exit range.exit paragraph ≡ true)

-- each range that is marked as returning does return
abbrev pub IsSound : (Chooser → Bool) → Program → Table → List Bool → Type 0
IsSound never_first program table returns = (number : ℕ) (range : Range) →
    slice_get table.ranges number ≡ Some range → slice_get returns number ≡ Some true →
    ReturnsIn never_first program range

-- each range that comes to its return, where these return, is among these
abbrev pub IsClosed : Table → List Bool → Type 0
IsClosed table returns = (number : ℕ) (range : Range) →
    slice_get table.ranges number ≡ Some range → ReturnsHere table returns range →
    slice_get returns number ≡ Some true

-- each number in a place is one of the table's places, ranges or paragraphs
abbrev pub IsTidyPlace : Table → ProgramPoint → Type 0
IsTidyPlace table (Goes to) = to < length table.places
IsTidyPlace table (Chooses ways) = AllBelow (length table.places) ways
IsTidyPlace table (Calls range after) = (range < length table.ranges)
    × (after < length table.places)
IsTidyPlace table Stops = Unit {0}
IsTidyPlace table (Ends paragraph) = paragraph < length table.starts

-- each number in a table is one of its places, ranges or paragraphs
pub record IsTidy (table : Table) : Type 0 where
  -- the numbers in each place are known
  pub places : (number : ℕ) (place : ProgramPoint) → slice_get table.places number ≡ Some place →
      IsTidyPlace table place
  -- each paragraph has a place
  pub starts : (paragraph place : ℕ) → slice_get table.starts paragraph ≡ Some place →
      place < length table.places
  pub size : length table.owners ≡ length table.places
  -- each place is in a paragraph
  pub owners : (number owner : ℕ) → slice_get table.owners number ≡ Some owner →
      owner < length table.starts
