-- What is known of a program's places while they are numbered.
use Rattle.std.specs.Prelude.{ℕ, suc, ◌≡◌, ◌<◌, ◌≤◌, ◌+◌, Bool, List, length, Some, slice_get}
use Rattle.cob_tree.specs.declared.program.Range.{Range}
use Rattle.control_flow_theory.specs.language.Language.{Chooser, Paragraph, Program, paragraph_at}
use Rattle.program_points.specs.paths.Step.{Point, next}
use Rattle.program_points.specs.declared.point_table.table.ProgramPoint.{ProgramPoint}
use Rattle.program_points.specs.declared.point_table.table.ProgramPoint.TheVariants.{Ends}
use Rattle.program_points.specs.declared.point_table.table.Table.{Table}
use Rattle.program_points.specs.point_table.Table.{Describes, IsTable}
use Rattle.program_points.specs.numbering.Build.{HasParagraphs, part_of}

-- as many places as starts and ends, and the ends after the starts
pub record HasEnds (count : ℕ) (places : List ProgramPoint) : Type 0 where
  pub size : length places ≡ count + count
  -- the second half are the ends
  pub ends : (number : ℕ) → number < count → slice_get places (count + number) ≡ Some (Ends number)

-- the paragraphs of such places
pub record CountsTwice (count : ℕ) (owners : List ℕ) : Type 0 where
  pub size : length owners ≡ count + count
  -- the first half are the paragraphs in order
  pub first : (number : ℕ) → number < count → slice_get owners number ≡ Some number
  -- and so is the second
  pub second : (number : ℕ) → number < count → slice_get owners (count + number) ≡ Some number

-- the places of the starts from this one on, and those after the starts, say what control does at
-- their points, and each place is in the paragraph that is given
pub record IsNumbered (never_first : Chooser → Bool) (program : Program) (count : ℕ) (places : List
    ProgramPoint) (ranges : List Range) (owners : List ℕ) (from : ℕ) (points : ℕ → Point) : Type 0
  where
    pub paragraphs : HasParagraphs program count places points
    -- each place from there on says what control does at its point
    pub told : (number : ℕ) → from ≤ number → number < length places →
        (place : ProgramPoint) × (slice_get places number ≡ Some place)
        × Describes (part_of places ranges) points place (next never_first program (points number))
    -- and is in its paragraph
    pub owned : (number : ℕ) → number < length places →
        (slice_get owners number ≡ Some (points number).paragraph)
        × ((points number).paragraph < count)

-- there are points at which the places are so
abbrev pub Numbered : (Chooser → Bool) → Program → ℕ → List ProgramPoint → List Range → List ℕ → ℕ →
    Type 0
Numbered never_first program count places ranges owners from = (points : ℕ → Point)
    × IsNumbered never_first program count places ranges owners from points

-- the ranges that are known keep their numbers
abbrev pub KeepsRanges : List Range → List Range → Type 0
KeepsRanges old new = (number : ℕ) (range : Range) → slice_get old number ≡ Some range →
    slice_get new number ≡ Some range

-- up to this number, the list goes on with this paragraph
pub record Extends (old new : List ℕ) (until paragraph : ℕ) : Type 0 where
  pub size : length new ≡ until
  -- the old numbers are the same
  pub kept : (number : ℕ) → number < length old → slice_get new number ≡ slice_get old number
  -- the new ones are this paragraph
  pub more : (number : ℕ) → length old ≤ number → number < until →
      slice_get new number ≡ Some paragraph

-- one start more is described, with this paragraph
abbrev pub BuildsParagraph : (Chooser → Bool) → ℕ → List ProgramPoint → List ProgramPoint →
    List Range →
    List Range → List ℕ → List ℕ → Paragraph → ℕ → Type 0
BuildsParagraph never_first count old new old_ranges new_ranges old_owners new_owners paragraph
    number =
    (program : Program) → paragraph_at program number ≡ paragraph →
    Numbered never_first program count old old_ranges old_owners (suc number) →
    Numbered never_first program count new new_ranges new_owners number
    × KeepsRanges old_ranges new_ranges

-- all starts are described, with these paragraphs
abbrev pub NumbersAll : (Chooser → Bool) → List Paragraph → ℕ → List ProgramPoint →
    List ProgramPoint →
    List Range → List Range → List ℕ → List ℕ → Type 0
NumbersAll never_first paragraphs count old new old_ranges new_ranges old_owners new_owners =
    (program : Program) → program.paragraphs ≡ paragraphs →
    Numbered never_first program count old old_ranges old_owners count →
    Numbered never_first program count new new_ranges new_owners 0
    × KeepsRanges old_ranges new_ranges

-- each range's entry is one of so many paragraphs
abbrev pub BoundsEntries : ℕ → List Range → Type 0
BoundsEntries count ranges = (number : ℕ) (range : Range) →
    slice_get ranges number ≡ Some range → range.entry < count

-- each number below this one is at its own number
pub record Counts (count : ℕ) (starts : List ℕ) : Type 0 where
  pub size : length starts ≡ count
  -- each number is at its own place
  pub each : (number : ℕ) → number < count → slice_get starts number ≡ Some number

-- the table is one of the program
abbrev pub HasTable : (Chooser → Bool) → Program → Table → Type 0
HasTable never_first program table = (points : ℕ → Point)
    × IsTable never_first program table points
