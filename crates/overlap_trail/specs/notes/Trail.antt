-- The lines that tell a trail.
use Rattle.std.specs.Prelude.{ℕ, suc, List, [], ◌∷◌, ◌++◌, Option, Some, None, codes}
use Rattle.std.specs.Fmt.{decimal}
use Rattle.cob_base.specs.Bytes.{line_feed}
use Rattle.cob_tree.specs.declared.program.Paragraph.{Paragraph}
use Rattle.cob_tree.specs.declared.program.Range.{Range}
use Rattle.out_names.specs.Naming.{paragraph_label}
use Rattle.cob_tree.specs.declared.ending.FlowFault.{FlowFault}
use Rattle.cob_tree.specs.declared.ending.FlowFault.TheVariants.{Overlap, Reentry}
use Rattle.program_points.specs.declared.paths.trail.Move.{Move}
use Rattle.program_points.specs.declared.paths.trail.Move.TheVariants.{Arm, Over, Into}
use Rattle.program_points.specs.declared.paths.trail.Lemma.{Lemma}
use Rattle.program_points.specs.declared.paths.trail.Hop.{Hop}
use Rattle.program_points.specs.declared.paths.trail.Trail.{Trail}

-- the label, or a star where there is none
abbrev pub label_or_star : Option (List ℕ) → List ℕ
label_or_star None = codes "*"
label_or_star (Some label) = label

-- what shows a paragraph: its label, or a star where it has none
abbrev pub label_text : List Paragraph → ℕ → List ℕ
label_text paragraphs number = label_or_star (paragraph_label paragraphs number)

-- a range from its entry to its exit; main has none
abbrev pub range_between : List Paragraph → (entry : ℕ) → (exit : Option ℕ) → List ℕ
range_between paragraphs entry None = codes "MAIN"
range_between paragraphs entry (Some exit) =
    label_text paragraphs entry ++ codes " THRU " ++ label_text paragraphs exit

-- a range, by the labels of its entry and exit
abbrev pub range_text : List Paragraph → Range → List ℕ
range_text paragraphs range = range_between paragraphs range.entry range.exit

-- a move, after a space
abbrev pub move_text : Move → List ℕ
move_text (Arm number) = codes " ARM " ++ decimal number
move_text (Over number) = codes " OVER " ++ decimal number
move_text Into = codes " INTO"

-- the moves, each after a space
abbrev pub moves_text : List Move → List ℕ
moves_text [] = []
moves_text (move ∷ moves) = move_text move ++ moves_text moves

-- a range, and the moves that are followed in its level
abbrev pub level_text : List Paragraph → Range → List Move → List ℕ
level_text paragraphs range moves = range_text paragraphs range ++ codes ":" ++ moves_text moves

-- the first line of a trail: its fault
abbrev pub fault_text : List Paragraph → FlowFault → List ℕ
fault_text paragraphs (Overlap paragraph) =
    codes "FLOW OVERLAP " ++ label_text paragraphs paragraph
fault_text paragraphs (Reentry paragraph) =
    codes "FLOW REENTRY " ++ label_text paragraphs paragraph

-- the line of the lemma with this number
abbrev pub lemma_text : List Paragraph → (number : ℕ) → Lemma → List ℕ
lemma_text paragraphs number lemma =
    codes "RETURN " ++ decimal number ++ codes " " ++ level_text paragraphs lemma.range lemma.moves

-- the line of a hop
abbrev pub hop_text : List Paragraph → Hop → List ℕ
hop_text paragraphs hop = codes "IN " ++ level_text paragraphs hop.range hop.moves

-- a line for each lemma, after a line feed; they are numbered from this number on
abbrev pub lemma_lines : List Paragraph → (from : ℕ) → List Lemma → List ℕ
lemma_lines paragraphs from [] = []
lemma_lines paragraphs from (lemma ∷ lemmas) =
    line_feed ∷ lemma_text paragraphs from lemma ++ lemma_lines paragraphs (suc from) lemmas

-- a line for each hop, after a line feed
abbrev pub hop_lines : List Paragraph → List Hop → List ℕ
hop_lines paragraphs [] = []
hop_lines paragraphs (hop ∷ hops) =
    line_feed ∷ hop_text paragraphs hop ++ hop_lines paragraphs hops

-- all of them
abbrev pub trail_text : List Paragraph → Trail → List ℕ
trail_text paragraphs trail = fault_text paragraphs trail.fault
    ++ lemma_lines paragraphs 0 trail.lemmas ++ hop_lines paragraphs trail.hops
