-- Graphs that a program whose statements are as they are read is lowered to have arms.
use Rattle.std.proofs.Common.{◌≡◌, ◌≤◌, ℕ, zero, suc, Bool, true, false, List, [], ◌∷◌, map, refl, sym, ◌∙◌, subst}
use Rattle.std.proofs.lemmas.Bool.{and_parts}
use Rattle.cob_tree.specs.Depth.{program_depth}
use Rattle.cob_tree.specs.declared.program.Paragraph as trees
use Rattle.cob_tree.specs.declared.program.Program as cobol
use Rattle.cob_tree.specs.declared.program.Range as code
use Rattle.cob_tree.specs.declared.program.Sentence as sentences
use Rattle.control_flow_theory.specs.language.Control.{control_of, seen_paragraphs, seen_sentence, section_last}
use Rattle.control_flow_theory.specs.language.Language.{Evaluate, Read, Arith, Depending, Picker, If, By, ByCell, Stmt, Choose, Arms, done, given, missing, Paragraph, Program, Range}
use Rattle.control_flow_theory.specs.semantics.Graph.{Label, tree, End, Trees, no_more, more}
use Rattle.control_flow_theory.specs.lowering.FlowFacts.{FlowFacts}
use Rattle.control_flow_theory.specs.lowering.Completes.{cut, cut_arms, first_is_dead}
use Rattle.control_flow_theory.specs.lowering.Lower.{EscapeTargets, build_arms, depending}
use Rattle.control_flow_theory.specs.lowering.Renamed.{picker_anew, stmt_anew, arms_anew, trees_anew}
use Rattle.control_flow_theory.specs.graph_rules.Reduced.{Graph}
use Rattle.control_flow_theory.specs.main_theorem.Numbering.{numbers_by}
use Rattle.program_facts.specs.completion.FlowFacts.{flow_facts_of}
use Rattle.lowering_labels.specs.points.FallThrough.{seen_range}
use Rattle.branch_tree.specs.Graph.{seen_graph}
use Rattle.branch_tree.specs.declared.graph.Graph as coded
use Rattle.program_facts.specs.well_scoped.Part.{Counts, is_filled}
use Rattle.program_facts.specs.well_scoped.Named.{counts_of, stmts_named, sentence_named, sentences_named, paragraphs_named}
use Rattle.pending_returns.specs.declared.facts.Summary.{Summary}
use Rattle.cob_base.specs.Limit.{max_nesting}
use Rattle.procedure_split.specs.shaped_ranges.Graphs.{AreGraphsOf, IsGraphOf}
use Rattle.procedure_split.specs.shaped_ranges.Laws.{HasFlow}
use Rattle.procedure_split.specs.Splitting.{IsSplit}
use Rattle.procedure_split.specs.split_depth.Arms.{begins_given, has_some, has_given, HasArms, ChoiceHasArms}
use Rattle.procedure_split.proofs.split_depth_lemmas.Named.{list-has}
use Rattle.procedure_split.specs.kept_arms.Trees.{SomeTree, PickHasArms, NodesHaveArms, GraphsHaveArms}
use Rattle.procedure_split.proofs.kept_arms_lemmas.Split.{graphs-within}
use Rattle.control_flow_theory.specs.language.Each.{EachSentence, EachParagraph}
use Rattle.control_flow_theory.proofs.main_theorem_lemmas.graphs.EachLowered.{BearsLowering, lowered-each}

-- ---- lowering

begins-some : (arms : Arms) → begins_given arms ≡ true → has_some arms ≡ true
begins-some done h = cc
begins-some (given arm others) h = refl
begins-some (missing others) h = refl

given-some : (arms : Arms) → has_given arms ≡ true → has_some arms ≡ true
given-some done h = cc
given-some (given arm others) h = refl
given-some (missing others) h = refl

some-of : (picker : Picker) (arms : Arms) → HasArms picker arms → has_some arms ≡ true
some-of (If test) arms h = begins-some arms h
some-of (By (Evaluate subject tests has_other)) arms h = given-some arms h
some-of (By (Read file into true)) arms h = begins-some arms h
some-of (By (Read file into false)) arms h = h
some-of (By (Arith calc into)) arms h = h
some-of (By (Depending on names)) arms h = given-some arms h
some-of (ByCell cell) arms h = given-some arms h

module _ (told : FlowFacts) where
  begins-cut : (arms : Arms) → begins_given (cut_arms told arms) ≡ begins_given arms
  begins-cut done = refl
  begins-cut (given arm others) = refl
  begins-cut (missing others) = refl

  given-cut : (arms : Arms) → has_given (cut_arms told arms) ≡ has_given arms
  given-cut done = refl
  given-cut (given arm others) = refl
  given-cut (missing others) = given-cut others

  some-cut : (arms : Arms) → has_some (cut_arms told arms) ≡ has_some arms
  some-cut done = refl
  some-cut (given arm others) = refl
  some-cut (missing others) = refl

  picker-cut : (picker : Picker) (arms : Arms) → HasArms picker arms → HasArms picker (cut_arms told arms)
  picker-cut (If test) arms h = begins-cut arms ∙ h
  picker-cut (By (Evaluate subject tests has_other)) arms h = given-cut arms ∙ h
  picker-cut (By (Read file into true)) arms h = begins-cut arms ∙ h
  picker-cut (By (Read file into false)) arms h = some-cut arms ∙ h
  picker-cut (By (Arith calc into)) arms h = some-cut arms ∙ h
  picker-cut (By (Depending on names)) arms h = given-cut arms ∙ h
  picker-cut (ByCell cell) arms h = given-cut arms ∙ h

  cut-has : (stmt : Stmt) → ChoiceHasArms stmt → ChoiceHasArms (cut told stmt)
  cut-has (Choose picker arms) h = picker-cut picker arms h
  cut-has stmt h = tt

  some-built : (places : ℕ → ℕ) (first : Bool) (arms : Arms) (place : ℕ) (leaving : EscapeTargets) (after : End) →
      has_some arms ≡ true → SomeTree (build_arms told places first arms place leaving after)
  some-built places first done place leaving after h = cc
  some-built places first (given arm others) place leaving after h = tt
  some-built places first (missing others) place leaving after h = tt

  depending-some : (places : ℕ → ℕ) (to : List ℕ) (after : End) → SomeTree (depending told places to after)
  depending-some places [] after = tt
  depending-some places (to ∷ others) after = tt

  bears-lowering : BearsLowering told ChoiceHasArms ChoiceHasArms PickHasArms
  bears-lowering = record {
    cuts = cut-has;
    picks = λ places picker arms place leaving after h. some-built places (first_is_dead told picker) arms place leaving after (some-of picker arms h);
    depends = λ places to on after h. depending-some places to after;
    counts = λ amount body place one other h. (tt, tt, tt);
    tests = λ after test body one other h. tt;
    varies = λ after set step test body one other h. (tt, tt, tt);
  }

-- ---- cells that are numbered anew

module _ (number : ℕ → ℕ) where
  begins-anew : (arms : Arms) → begins_given (arms_anew number arms) ≡ begins_given arms
  begins-anew done = refl
  begins-anew (given arm others) = refl
  begins-anew (missing others) = refl

  given-anew : (arms : Arms) → has_given (arms_anew number arms) ≡ has_given arms
  given-anew done = refl
  given-anew (given arm others) = refl
  given-anew (missing others) = given-anew others

  some-anew : (arms : Arms) → has_some (arms_anew number arms) ≡ has_some arms
  some-anew done = refl
  some-anew (given arm others) = refl
  some-anew (missing others) = refl

  picker-has : (picker : Picker) (arms : Arms) → HasArms picker arms →
      HasArms (picker_anew number picker) (arms_anew number arms)
  picker-has (If test) arms h = begins-anew arms ∙ h
  picker-has (By (Evaluate subject tests has_other)) arms h = given-anew arms ∙ h
  picker-has (By (Read file into true)) arms h = begins-anew arms ∙ h
  picker-has (By (Read file into false)) arms h = some-anew arms ∙ h
  picker-has (By (Arith calc into)) arms h = some-anew arms ∙ h
  picker-has (By (Depending on names)) arms h = given-anew arms ∙ h
  picker-has (ByCell cell) arms h = given-anew arms ∙ h

  stmt-anew-has : (stmt : Stmt) → ChoiceHasArms stmt → ChoiceHasArms (stmt_anew number stmt)
  stmt-anew-has (Choose picker arms) h = picker-has picker arms h
  stmt-anew-has stmt h = tt

  some-trees : (picker : Picker) (ts : Trees) → PickHasArms picker ts → PickHasArms (picker_anew number picker) (trees_anew number ts)
  some-trees picker no_more some = absurd some
  some-trees picker (more (tree body end) others) some = tt

-- ---- the graphs of a program

module _ (told : FlowFacts) (program : Program) (have : EachParagraph ChoiceHasArms program.paragraphs) where
  graph-has : (range : Range) (graph : Graph) → IsGraphOf told program range graph →
      NodesHaveArms graph.nodes
  graph-has range graph is =
      let all : Range → Label → Bool = λ other. is.keep in
      let number = numbers_by all program range in
      subst (λ (g : Graph). NodesHaveArms g.nodes) (sym is.is)
      (lowered-each told ChoiceHasArms ChoiceHasArms PickHasArms (bears-lowering told) program number ChoiceHasArms PickHasArms
      (stmt-anew-has number) (some-trees number) have range is.keep)

  graphs-have : (ranges : List code.Range) (graphs : List coded.Graph) →
      AreGraphsOf told program ranges graphs → GraphsHaveArms graphs
  graphs-have ranges [] are at graph is = cc
  graphs-have [] (first ∷ graphs) are at graph is = absurd are
  graphs-have (range ∷ ranges) (first ∷ graphs) are zero graph is =
      let same : first ≡ graph = cc in
      subst (λ other. NodesHaveArms (seen_graph other).nodes) same
      (graph-has (seen_range range) (seen_graph first) are.0)
  graphs-have (range ∷ ranges) (first ∷ graphs) are (suc at) graph is =
      graphs-have ranges graphs are.1 at graph is

-- ---- statements as they are read

module _ (counts : Counts) where
  sentences-have : (last : ℕ) (list : List sentences.Sentence) → sentences_named counts list ≡ true →
      EachSentence ChoiceHasArms (map (seen_sentence last) list)
  sentences-have last [] e = tt
  sentences-have last (sentence ∷ list) e =
      let h = and_parts (sentence_named counts sentence) (sentences_named counts list) e in
      let s = and_parts (is_filled sentence.stmts) (stmts_named counts sentence.stmts) h.0 in
      (list-has counts last sentence.stmts s.1, sentences-have last list h.1)

  paragraphs-have : (number : ℕ) (list : List trees.Paragraph) → paragraphs_named counts list ≡ true →
      EachParagraph ChoiceHasArms (seen_paragraphs number list)
  paragraphs-have number [] e = tt
  paragraphs-have number (paragraph ∷ list) e =
      let h = and_parts (sentences_named counts paragraph.sentences) (paragraphs_named counts list) e in (
        sentences-have (section_last number list) paragraph.sentences h.0,
        paragraphs-have (suc number) list h.1,
      )

pub split-nests : (program made : cobol.Program) (summary : Summary) → HasFlow program summary →
    paragraphs_named (counts_of program) program.paragraphs ≡ true →
    (split : IsSplit program summary made) → program_depth made ≤ max_nesting
split-nests program made summary flow named split =
    graphs-within program made summary flow split
    (graphs-have (flow_facts_of program.files split.plan.returning) (control_of program)
    (paragraphs-have (counts_of program) 0 program.paragraphs named) split.plan.order split.graphs
    split.lowered.are)
