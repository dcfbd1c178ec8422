-- The labels of a range's nodes are below three times the places.
use Rattle.std.proofs.Common.{◌≡◌, ℕ, suc, ◌+◌, ◌*◌, ◌≤◌, ◌<◌, if◌then◌else◌, List, [], ◌∷◌, map, refl, ap, ap₂, sym, ◌∙◌, subst, arith, inl, inr}
use Rattle.std.proofs.lemmas.Bool.Decides.{eqb_tells}
use Rattle.std.proofs.lemmas.List.Sums.{sum_by-cons}
use Rattle.cob_tree.specs.declared.program.Paragraph.{Paragraph}
use Rattle.cob_tree.specs.declared.program.Program as code
use Rattle.cob_tree.specs.declared.program.Sentence.{Sentence}
use Rattle.control_flow_theory.specs.language.Control.{control_of, section_last, seen_paragraph, seen_paragraphs, seen_sentence}
use Rattle.control_flow_theory.specs.language.Language.{Program, Range}
use Rattle.control_flow_theory.specs.semantics.Graph.{Label, Tree, tree, End, Pick, Jump, Return, Stop, Dead, Trees, no_more, more, end_of}
use Rattle.control_flow_theory.specs.lowering.FlowFacts.{IsSource, FlowFacts}
use Rattle.control_flow_theory.specs.lowering.Lower as lower
use Rattle.control_flow_theory.specs.lowering.Lower.{Node}
use Rattle.control_flow_theory.specs.lowering.Lowered.{find, lowered, nodes_from, nodes_of, place_in, total, Within}
use Rattle.control_flow_theory.specs.lowering.Reached.{ArmsJumpTo, entered, IsReached, jumped, JumpsTo}
use Rattle.control_flow_theory.specs.lowering.WellFormed.{AllAreWell, AreWell, IsLabelOf, IsRangeOf, IsWellEnd, IsWellTree}
use Rattle.control_flow_theory.specs.lowering.flow.Comes.{entry_of}
use Rattle.control_flow_theory.proofs.lowering_lemmas.graphs.WellFormed.{all-well, named-label}
use Rattle.lowering_labels.proofs.points_lemmas.SizeLemmas.{sizes-seen}
use Rattle.lowering_labels.specs.points.Layout.{end_from, paragraph_size}
use Rattle.statement_lowering.specs.continuations.Paragraphs.{left_at, nodes_of_paragraph, sentence_size, sentence_sizes}
use Rattle.statement_lowering.proofs.continuations_lemmas.Begins.{within-sentences}
use Rattle.statement_lowering.proofs.continuations_lemmas.ProgramContinuations.{from_first}
use Rattle.statement_lowering.proofs.continuations_lemmas.Within.{within-append, within-lower}

total_is : (last : ℕ) (sentences : List Sentence) → total (map (seen_sentence last) sentences) ≡ sentence_sizes sentences
total_is last [] = refl
total_is last (sentence ∷ others) = ap₂ (λ a b. a + b) (sizes-seen last sentence.stmts) (total_is last others) ∙ sym (sum_by-cons sentence_size sentence others)

module _ (told : FlowFacts) (program : Program) (range : Range) where
  abbrev ends : ℕ → End
  ends = lower.paragraph_end_target (place_in program) program range

  within_paragraph : (number last place : ℕ) (paragraph : Paragraph) →
      Within (3 * place) (3 * (place + 1 + paragraph_size paragraph)) (nodes_of_paragraph told (place_in program) (left_at ends number) place (seen_paragraph last paragraph))
  within_paragraph number last place paragraph =
      let xs = within-sentences told (place_in program) (left_at ends number) last (place + 1) paragraph.sentences in
      (omega arith, within-lower (3 * (place + 1)) (3 * place + 1) (3 * (place + 1 + paragraph_size paragraph)) _ (omega arith) xs)

  pub within_from : (number place : ℕ) (paragraphs : List Paragraph) → Within (3 * place) (3 * end_from place paragraphs) (nodes_from told program range number place (seen_paragraphs number paragraphs))
  within_from number place [] = omega arith
  within_from number place (paragraph ∷ others) =
      let last = section_last number others in
      let seen = seen_paragraph last paragraph in
      let next = place + 1 + paragraph_size paragraph in
      let ys = nodes_from told program range (suc number) (place + 1 + total seen) (seen_paragraphs (suc number) others) in
      let far : place + 1 + total seen ≡ next = ap (λ n. place + 1 + n) (total_is last paragraph.sentences) in
      subst (Within (3 * place) (3 * end_from place (paragraph ∷ others))) (sym (from_first told program range number place seen (seen_paragraphs (suc number) others)))
      (within-append (3 * place) (3 * next) (3 * end_from place (paragraph ∷ others)) (nodes_of_paragraph told (place_in program) (left_at ends number) place seen) ys (within_paragraph number last place paragraph)
      (subst (λ n. Within (3 * next) (3 * end_from place (paragraph ∷ others)) (nodes_from told program range (suc number) n (seen_paragraphs (suc number) others))) (sym far) (within_from (suc number) next others)))

pub label_above : (a b : ℕ) (xs : List Node) (label : Label) → Within a b xs → IsLabelOf xs label → a ≤ label
label_above a b [] label h l = absurd l
label_above a b (x ∷ xs) label h (inl is) = omega (arith, h.0, is)
label_above a b (x ∷ xs) label h (inr later) = omega (arith, h.0, label_above (x.key + 1) b xs label h.1 later)

bound_above : (a b : ℕ) (xs : List Node) → Within a b xs → a < b + 1
bound_above a b [] h = omega (arith, h)
bound_above a b (x ∷ xs) h = omega (arith, h.0, bound_above (x.key + 1) b xs h.1)

pub label_below : (a b : ℕ) (xs : List Node) (label : Label) → Within a b xs → IsLabelOf xs label → label < b
label_below a b [] label h l = absurd l
label_below a b (x ∷ xs) label h (inl is) = omega (arith, is, bound_above (x.key + 1) b xs h.1)
label_below a b (x ∷ xs) label h (inr later) = label_below (x.key + 1) b xs label h.1 later

-- Jumps lead to nodes.

mutual
  jump_label : (told : FlowFacts) (labels : List Node) (end : End) (label : Label) → IsWellEnd told labels end → JumpsTo label end → IsLabelOf labels label
  jump_label told labels (Pick picker arms) label w j = arm_label told labels arms label w.1 j
  jump_label told labels (Jump to) label w j = subst (IsLabelOf labels) j w
  jump_label told labels Return label w j = absurd j
  jump_label told labels Stop label w j = absurd j
  jump_label told labels Dead label w j = absurd j

  arm_label : (told : FlowFacts) (labels : List Node) (arms : Trees) (label : Label) → AreWell told labels arms → ArmsJumpTo label arms → IsLabelOf labels label
  arm_label told labels no_more label w j = absurd j
  arm_label told labels (more (tree body end) others) label w (inl here) = jump_label told labels end label w.1 here
  arm_label told labels (more (tree body end) others) label w (inr later) = arm_label told labels others label w.2 later

tree_label : (told : FlowFacts) (labels : List Node) (t : Tree) (label : Label) → IsWellTree told labels t → JumpsTo label (end_of t) → IsLabelOf labels label
tree_label told labels (tree body end) label w j = jump_label told labels end label w.1 j

found_well : (told : FlowFacts) (labels xs : List Node) (label : Label) → AllAreWell told labels xs → IsWellTree told labels (find label xs)
found_well told labels [] label w = (refl, tt)
found_well told labels (x ∷ xs) label w = elim (eqb_tells x.key label) [
  | inl e ↦ subst (IsWellTree told labels) (sym (ap (λ b. if b then x.tree else find label xs) e.0)) w.0
  | inr e ↦ subst (IsWellTree told labels) (sym (ap (λ b. if b then x.tree else find label xs) e.0)) (found_well told labels xs label w.1)
]

pub reached_label : (told : FlowFacts) (program : Program) (range : Range) (label : Label) → IsSource told program → IsRangeOf program range → IsReached (lowered told program) range label → IsLabelOf (nodes_of told program range) label
reached_label told program range label source lt entered = named-label told program range (entry_of range) lt
reached_label told program range label source lt (jumped from to h j) =
    tree_label told (nodes_of told program range) (find from (nodes_of told program range)) to
    (found_well told (nodes_of told program range) (nodes_of told program range) from (all-well told program range source)) j

pub nodes_within : (told : FlowFacts) (program : code.Program) (range : Range) → Within 0 (3 * end_from 0 program.paragraphs) (nodes_of told (control_of program) range)
nodes_within told program range = within_from told (control_of program) range 0 0 program.paragraphs
