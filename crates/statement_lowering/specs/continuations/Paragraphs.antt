-- What a table of rests says of the paragraphs of graphs.
use Rattle.std.specs.Prelude.{ℕ, ◌≡◌, ◌+◌, ◌*◌, Bool, if◌then◌else◌, List, [], ◌∷◌, ◌++◌, drop, length, reverse, sum_by, None}
use Rattle.cob_tree.specs.Places.{stmt_places}
use Rattle.cob_tree.specs.declared.program.Paragraph.{Paragraph}
use Rattle.cob_tree.specs.declared.program.Program.{Program}
use Rattle.cob_tree.specs.declared.program.Sentence.{Sentence}
use Rattle.cob_tree.specs.declared.stmt.Stmt.{Stmt}
use Rattle.control_flow_theory.specs.language.Control.{control_of, section_last, seen_paragraph}
use Rattle.control_flow_theory.specs.language.Language as language
use Rattle.control_flow_theory.specs.semantics.Graph as graph
use Rattle.control_flow_theory.specs.lowering.FlowFacts.{FlowFacts}
use Rattle.control_flow_theory.specs.lowering.Completes.{cuts, leave_sentence, sizes}
use Rattle.control_flow_theory.specs.lowering.Lower as lower
use Rattle.control_flow_theory.specs.lowering.Lowered.{lowered, place_in}
use Rattle.control_flow_theory.specs.lowering.Rests.{Rest, Sent, leaf_of, leaving_of, rest_from, tree_of}
use Rattle.lowering_labels.specs.declared.points.layout.PlaceTable.{PlaceTable}
use Rattle.lowering_labels.specs.declared.points.jump_target.JumpTarget.TheVariants as leaf
use Rattle.lowering_labels.specs.points.Layout.{IsLayout, paragraph_size}
use Rattle.lowering_labels.specs.points.JumpTarget.{IsJumpTarget}
use Rattle.statement_lowering.specs.declared.context.LoweringContext.{LoweringContext}
use Rattle.statement_lowering.specs.LowerList.{flow_facts_by}
use Rattle.statement_lowering.specs.declared.continuations.paragraphs.Begin.{Begin}
use Rattle.statement_lowering.specs.declared.continuations.continuation.Successors.{Successors}
use Rattle.statement_lowering.specs.declared.continuations.continuation.Continuation.{Continuation}
use Rattle.statement_lowering.specs.continuations.Successors.{Lowering, begun}
use Rattle.statement_lowering.specs.continuations.Statements.{Adds, Agrees, AllFit, AreRests, told}

-- the begin after the last sentence: the paragraph's end
abbrev pub paragraph_end : Begin
paragraph_end = record { after = leaf.Return; behind = None }

-- the begin of a sentence at a place, by that of the next one
pub record IsBegin (layout : PlaceTable) (stmts : List Stmt) (place : ℕ) (next found : Begin) : Type
    0
  where
    -- where control goes on after the sentence before
    pub after : IsJumpTarget layout.places.items layout.end stmts place next.after found.after
    -- the place at which its tree goes on
    pub behind : found.behind ≡ begun stmts place next.behind

-- how many places a sentence takes
abbrev pub sentence_size : Sentence → ℕ
sentence_size sentence = sum_by stmt_places sentence.stmts

-- the begins of sentences from a place on, and of what follows them
abbrev pub AreBegins : PlaceTable → ℕ → List Sentence → List Begin → Type 0
AreBegins layout place [] found = found ≡ paragraph_end ∷ []
AreBegins layout place (sentence ∷ others) [] = ⊥
AreBegins layout place (sentence ∷ others) (first ∷ []) = ⊥
AreBegins layout place (sentence ∷ others) (first ∷ next ∷ found) =
    IsBegin layout sentence.stmts place next first
    × AreBegins layout (place + sentence_size sentence) others (next ∷ found)

-- the places of sentences
abbrev pub sentence_sizes : List Sentence → ℕ
sentence_sizes sentences = sum_by sentence_size sentences

-- the begins of these sentences are stacked, the first of them on top
pub record AreStacked (layout : PlaceTable) (place : ℕ) (sentences : List Sentence)
    (found : List Begin) : Type 0 where
  pub firsts : List Begin
  -- these are the begins of the sentences
  pub are : AreBegins layout place sentences firsts
  -- they are on top of one another, the first on top
  pub is : found ≡ reverse firsts

-- the first is on top
abbrev pub IsTop : List Begin → Begin → Type 0
IsTop begins found =
    (first : Begin) (others : List Begin) → begins ≡ reverse (first ∷ others) → found ≡ first

-- one more, before the first
abbrev pub AddsBegin : PlaceTable → List Stmt → ℕ → (old new : List Begin) → Type 0
AddsBegin layout stmts place old new =
    (next : Begin) (others : List Begin) → old ≡ reverse (next ∷ others) →
    (first : Begin) × IsBegin layout stmts place next first × (new ≡ old ++ first ∷ [])

-- the first on top is taken
abbrev pub TakesTop : (old new : List Begin) → Begin → Type 0
TakesTop old new found =
    (first : Begin) (others : List Begin) → old ≡ reverse (first ∷ others) →
    (found ≡ first) × (new ≡ reverse others)

-- where control goes on from a sentence, by the begin of the next one
abbrev pub inside : Begin → Bool → ℕ → ℕ → Successors
inside next leaves paragraph last = record {
  after = next.after;
  behind = if leaves then None else next.behind;
  sentence = next.after;
  behind_loop = leaf.Return;
  cycle = leaf.Return;
  paragraph = paragraph;
  last = last;
}

-- a paragraph is left so
abbrev pub left_at : (ℕ → graph.End) → ℕ → lower.EscapeTargets
left_at ends number = record {
  sentence = ends number;
  paragraph = ends number;
  section = ends;
  loop = ends number;
  cycle = ends number;
}

module _ (told : FlowFacts) (place_of : ℕ → ℕ) (leaving : lower.EscapeTargets) where
  -- what follows the statements of a sentence
  abbrev pub rest_behind : language.Stmts → ℕ → language.Paragraph → Rest
  rest_behind sentence place others =
      Sent (leave_sentence (cuts told sentence))
      (rest_from told (place + sizes sentence) others)

  -- the nodes of sentences from a place on
  abbrev pub nodes_of_sentences : ℕ → language.Paragraph → List lower.Node
  nodes_of_sentences place [] = []
  nodes_of_sentences place (sentence ∷ others) =
      lower.nodes told place_of sentence place
      (leaving_of told place_of leaving (rest_behind sentence place others))
      (leaf_of told place_of leaving (rest_behind sentence place others))
      (tree_of told place_of leaving (rest_behind sentence place others))
      ++ nodes_of_sentences (place + sizes sentence) others

  -- the nodes of a paragraph at this place: its begin, and those of its sentences
  abbrev pub nodes_of_paragraph : ℕ → language.Paragraph → List lower.Node
  nodes_of_paragraph place paragraph =
      lower.node (lower.point place)
      (tree_of told place_of leaving (rest_from told (place + 1) paragraph))
      ∷ nodes_of_sentences (place + 1) paragraph

-- the graph is one of what is known, and has the nodes of a paragraph
pub record HasParagraph (telling : LoweringContext) (g : Lowering telling.layout.now)
    (paragraph : Paragraph) (place number last : ℕ) : Type 0 where
  -- lowering knows the same files
  pub files : g.files ≡ telling.files.now
  -- and the same ranges that return
  pub returning : g.returning ≡ telling.returning.now
  -- the graph has the paragraph's nodes
  pub nodes : Agrees g.node (3 * place) (3 * (place + 1 + paragraph_size paragraph))
      (nodes_of_paragraph (told telling.layout.now g) g.place_of (left_at g.ends number) place
      (seen_paragraph last paragraph))

-- the rests of a paragraph are added
abbrev pub AddsParagraph : LoweringContext → Paragraph → (number last : ℕ) →
    (old new : List Continuation) →
    Type 0
AddsParagraph telling paragraph number last old new =
    Adds telling.layout.now (1 + paragraph_size paragraph)
    (λ g. HasParagraph telling g paragraph (length old) number last) old new

-- the section of the paragraph before the one with this number ends there
abbrev pub EndsBefore : List Paragraph → (number last : ℕ) → Type 0
EndsBefore paragraphs number last =
    (before : ℕ) → number ≡ before + 1 → last ≡ section_last before (drop number paragraphs)

-- the graph of a range of a program
abbrev pub graph_of : (telling : LoweringContext) (program : Program) → language.Range →
    IsLayout program telling.layout.now.places.items telling.layout.now.end →
    Lowering telling.layout.now
graph_of telling program range layout = record {
  node = (lowered (flow_facts_by telling) (control_of program)).node range;
  ends = lower.paragraph_end_target (place_in (control_of program)) (control_of program) range;
  place_of = place_in (control_of program);
  at = layout.places_in;
  files = telling.files.now;
  returning = telling.returning.now;
}

-- there is at each place of a program its rest, in each range
pub record AreRestsOf (telling : LoweringContext) (program : Program)
    (spots : List Continuation) : Type 0 where
  -- there is a rest for each place
  pub count : length spots ≡ telling.layout.now.end
  -- each rest goes on within the table
  pub fit : AllFit telling.layout.now.end 0 spots
  -- in each range the trees are those of the rests
  pub rests : (range : language.Range)
      (layout : IsLayout program telling.layout.now.places.items telling.layout.now.end) →
      AreRests telling.layout.now (graph_of telling program range layout) 0 spots
