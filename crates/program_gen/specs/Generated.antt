-- The program that is generated for a number: groups of four paragraphs, each performed once, whose
-- jumps a sequence of numbers picks.
use Rattle.std.specs.Prelude.{ℕ, zero, suc, ◌+◌, ◌*◌, ◌-◌, ◌/◌, ◌%◌, ◌^◌, false, true, List, [], ◌∷◌, ◌++◌, Some, None, codes}
use Rattle.std.specs.Fmt.{decimal}
use Rattle.cob_tree.specs.declared.number.Number.{Number}
use Rattle.cob_tree.specs.declared.place.Place.{Place, roll-Place}
use Rattle.cob_tree.specs.declared.place.Operand.TheVariants as operand
use Rattle.cob_tree.specs.declared.place.Expr.TheVariants.{Leaf}
use Rattle.cob_tree.specs.declared.cond.Cond.TheVariants.{Relation}
use Rattle.cob_tree.specs.declared.cond.Rel.TheVariants.{Less}
use Rattle.cob_tree.specs.declared.calc.Calc.TheVariants.{Add}
use Rattle.cob_tree.specs.declared.control.Control.TheVariants.{Once}
use Rattle.cob_tree.specs.declared.picture.Picture.TheVariants as picture
use Rattle.cob_tree.specs.declared.picture.Sign.TheVariants.{Within}
use Rattle.cob_tree.specs.declared.picture.Usage.TheVariants as usage
use Rattle.cob_tree.specs.declared.entry.Entry.{Entry}
use Rattle.cob_tree.specs.declared.stmt.Arms.{roll-Arms}
use Rattle.cob_tree.specs.declared.stmt.Stmt.{Stmt}
use Rattle.cob_tree.specs.declared.stmt.Stmt.TheVariants.{Display, Arith, If, Perform, Go, StopRun, Exit}
use Rattle.cob_tree.specs.declared.program.Sentence.{Sentence}
use Rattle.cob_tree.specs.declared.program.Paragraph.{Paragraph}
use Rattle.cob_tree.specs.declared.program.Program.{Program}

-- ---- the sequence

-- the number after this one
abbrev pub next_of : ℕ → ℕ
next_of x = (1103515245 * x + 12345) % 2 ^ 31

-- the paragraph of a group, from 1 to 4, that a number picks
abbrev pub picked : ℕ → ℕ
picked x = 1 + (x / 65536) % 4

-- ---- what the paragraphs say

-- the item C as a place, the program's only item
abbrev pub counter : Place
counter = roll-Place (record { item = 0; of = []; subs = []; window = None })

-- the number as a literal
abbrev pub whole : ℕ → Number
whole n = record { negative = false; digits = decimal n; scale = 0 }

-- 01 C PIC 9(6) VALUE 0.
abbrev pub counter_entry : Entry
counter_entry = record {
  level = 1;
  name = Some (codes "C");
  file = None;
  redefines = None;
  picture = Some (picture.Number false 6 0);
  sign = Within;
  usage = usage.Display;
  occurs = None;
  value = Some (operand.Number (whole 0));
  ranges = [];
}

-- ADD 1 TO C
abbrev pub count_one : Stmt
count_one =
    Arith (Add (operand.Number (whole 1) ∷ [])) (record { place = counter; rounded = false } ∷ [])
    (roll-Arms (record { first = None; second = None }))

-- IF C < bound GO TO a paragraph
abbrev pub jump_below : (bound to : ℕ) → Stmt
jump_below bound to =
    If (Relation (Leaf (operand.Place counter)) Less (Leaf (operand.Number (whole bound))))
    (Go to ∷ []) []

-- a sentence of one statement
abbrev pub sentence : Stmt → Sentence
sentence stmt = record { stmts = stmt ∷ [] }

-- a paragraph of this name, in no section
abbrev pub paragraph : List ℕ → List Sentence → Paragraph
paragraph name sentences = record { name = Some name; section = None; sentences = sentences }

-- ---- a group: its number counts from 1, and its paragraphs are from the place 4 * group - 3 on

-- G-group-number
abbrev pub group_word : (group number : ℕ) → List ℕ
group_word group number = codes "G-" ++ decimal group ++ codes "-" ++ decimal number

-- the paragraph that counts, and goes to what x picks while the counter is below ten times the
-- group
abbrev pub jumping : (group number x : ℕ) → Paragraph
jumping group number x =
    paragraph (group_word group number)
    (sentence count_one ∷ sentence (jump_below (10 * group) (4 * group - 4 + picked x)) ∷ [])

-- the last paragraph of a group, which is EXIT
abbrev pub leaving : ℕ → Paragraph
leaving group = paragraph (group_word group 4) (sentence Exit ∷ [])

-- three that jump, by the three numbers after x, and one that leaves
abbrev pub group_of : (group x : ℕ) → List Paragraph
group_of group x =
    jumping group 1 (next_of x) ∷ jumping group 2 (next_of (next_of x))
    ∷ jumping group 3 (next_of (next_of (next_of x))) ∷ leaving group ∷ []

-- the paragraphs of so many groups, from this one on; x is the last number that was used
abbrev pub groups_of : (count group x : ℕ) → List Paragraph
groups_of zero group x = []
groups_of (suc count) group x =
    group_of group x ++ groups_of count (suc group) (next_of (next_of (next_of x)))

-- ---- the whole

-- PERFORM G-group-1 THRU G-group-4
abbrev pub perform_group : ℕ → Stmt
perform_group group = Perform (4 * group - 3) (4 * group) Once

-- the sentences that perform so many groups, from this one on
abbrev pub performs_of : (count group : ℕ) → List Sentence
performs_of zero group = []
performs_of (suc count) group = sentence (perform_group group) ∷ performs_of count (suc group)

-- the paragraph that performs each group, shows the counter and stops
abbrev pub main_of : ℕ → Paragraph
main_of n =
    paragraph (codes "M")
    (performs_of n 1
    ++ sentence (Display (operand.Place counter ∷ []) true) ∷ sentence StopRun ∷ [])

-- n groups, whose sequence begins after n
abbrev pub generated : ℕ → Program
generated n = record {
  name = codes "GEN-" ++ decimal n;
  files = [];
  entries = counter_entry ∷ [];
  paragraphs = main_of n ∷ groups_of n 1 n;
}
