-- The ranges that the PERFORM statements of a program name.
use Rattle.std.specs.Prelude.{ℕ, suc, ◌≡◌, Bool, true, false, ◌==◌, nat_lt, ◌&&◌, ◌||◌, List, [], ◌∷◌, ◌++◌, map, Option, Some, None, slice_get, ◌⊎◌}
use Rattle.cob_tree.specs.declared.stmt.Stmt.{Stmt, fold-Stmt}
use Rattle.cob_tree.specs.declared.stmt.Stmt.TheOpen.{Stmt-F, Arms-F, When-F}
use Rattle.cob_tree.specs.declared.stmt.Arms.{Arms, fold-Arms}
use Rattle.cob_tree.specs.declared.stmt.When.{When, fold-When}
use Rattle.cob_tree.specs.declared.program.Sentence.{Sentence}
use Rattle.cob_tree.specs.declared.program.Paragraph.{Paragraph}
use Rattle.cob_tree.specs.declared.program.Program.{Program}
use Rattle.cob_tree.specs.declared.program.Range.{Range}

-- lists one after the other
abbrev pub joined : List (List Range) → List Range
joined [] = []
joined (first ∷ others) = first ++ joined others

-- the ranges that an arm names, which may be absent
abbrev pub joined_if : Option (List (List Range)) → List Range
joined_if None = []
joined_if (Some lists) = joined lists

-- the range from an entry to an exit, alone
abbrev pub named_range : ℕ → ℕ → List Range
named_range entry exit = record { entry = entry; exit = Some exit } ∷ []

-- the ranges that one level of a statement names
abbrev pub named_step : Stmt-F (List Range) (List Range) (List Range) → List Range
named_step (Stmt-F.Arith calc into arms) = arms
named_step (Stmt-F.Read file into arms) = arms
named_step (Stmt-F.If cond met unmet) = joined met ++ joined unmet
named_step (Stmt-F.Evaluate subject whens other) = joined whens ++ joined_if other
named_step (Stmt-F.Loop control body) = joined body
named_step (Stmt-F.Perform entry exit control) = named_range entry exit
named_step _ = []

-- those of a statement's arms
abbrev pub arms_step : Arms-F (List Range) (List Range) (List Range) → List Range
arms_step arms = joined_if arms.first ++ joined_if arms.second

-- those of a WHEN
abbrev pub when_step : When-F (List Range) (List Range) (List Range) → List Range
when_step when = joined when.stmts

-- the ranges that the statement names, as often as it does
abbrev pub named_stmt : Stmt → List Range
named_stmt = fold-Stmt (List Range) (List Range) (List Range) named_step arms_step when_step

-- the ranges that arms name
abbrev pub named_arms : Arms → List Range
named_arms = fold-Arms (List Range) (List Range) (List Range) named_step arms_step when_step

-- the ranges that a WHEN names
abbrev pub named_when : When → List Range
named_when = fold-When (List Range) (List Range) (List Range) named_step arms_step when_step

-- the ranges that these statements name
abbrev pub named_stmts : List Stmt → List Range
named_stmts stmts = joined (map named_stmt stmts)

-- the ranges that these WHENs name
abbrev pub named_whens : List When → List Range
named_whens whens = joined (map named_when whens)

-- the ranges that a sentence names
abbrev pub named_sentence : Sentence → List Range
named_sentence sentence = named_stmts sentence.stmts

-- the ranges that a paragraph names
abbrev pub named_paragraph : Paragraph → List Range
named_paragraph paragraph = joined (map named_sentence paragraph.sentences)

-- the ranges that these paragraphs name
abbrev pub named_paragraphs : List Paragraph → List Range
named_paragraphs paragraphs = joined (map named_paragraph paragraphs)

-- main is before all, then by entry, then by exit

-- the first entry and exit are before the later ones: by entry, then by exit
abbrev pub pair_before : (entry exit later_entry later_exit : ℕ) → Bool
pair_before entry exit later_entry later_exit =
    nat_lt entry later_entry || (entry == later_entry && nat_lt exit later_exit)

-- the same of ranges whose exit may be none, as main's
abbrev pub exit_before : ℕ → Option ℕ → ℕ → Option ℕ → Bool
exit_before entry exit later_entry None = false
exit_before entry None later_entry (Some later) = true
exit_before entry (Some exit) later_entry (Some later) = pair_before entry exit later_entry later

-- the first range is before the other
abbrev pub is_before : Range → Range → Bool
is_before range other = exit_before range.entry range.exit other.entry other.exit

-- the range of the whole program
abbrev pub main_range : Range
main_range = record { entry = 0; exit = None }

-- the list has the range
abbrev pub Has : List Range → Range → Type 0
Has ranges range = (number : ℕ) × (slice_get ranges number ≡ Some range)

-- the range is the last one once more, or after it
abbrev pub IsNext : (last range : Range) → Type 0
IsNext last range = (range ≡ last) ⊎ (is_before last range ≡ true)

-- each of the ranges is the one before it once more, or after it
abbrev pub IsInOrder : List Range → Type 0
IsInOrder ranges = (number : ℕ) (range next : Range) → slice_get ranges number ≡ Some range →
    slice_get ranges (suc number) ≡ Some next → IsNext range next

-- the range is the last one once more, or was added after it
abbrev pub IsBehind : (old new : List Range) → (last range : Range) → Type 0
IsBehind old new last range = ((range ≡ last) × (new ≡ old))
    ⊎ ((is_before last range ≡ true) × (new ≡ old ++ range ∷ []))

-- main, and the ranges of the list, each before the next
pub record IsRisingOf (list ranges : List Range) : Type 0 where
  -- main is the first
  pub main : slice_get ranges 0 ≡ Some main_range
  -- each is before the next
  pub rising : (number : ℕ) (range next : Range) → slice_get ranges number ≡ Some range →
      slice_get ranges (suc number) ≡ Some next → is_before range next ≡ true
  -- each range of the list is there
  pub all : (range : Range) → Has list range → Has ranges range
  -- and no other but main
  pub only : (range : Range) → Has ranges range → (range ≡ main_range) ⊎ Has list range

-- main, and the ranges that PERFORM statements of the text name
abbrev pub AreRangesOf : Program → List Range → Type 0
AreRangesOf program ranges = IsRisingOf (named_paragraphs program.paragraphs) ranges
