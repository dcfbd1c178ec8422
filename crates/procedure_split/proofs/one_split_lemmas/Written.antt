-- Paragraphs with the same names and statements are the same.
use Rattle.std.proofs.Common.{◌≡◌, ℕ, suc, List, [], ◌∷◌, map, length, Option, Some, slice_get, refl, ap, ap₂, sym, ◌∙◌, arith}
use Rattle.std.specs.Prelude.{pred}
use Rattle.cob_tree.specs.declared.stmt.Stmt.{Stmt}
use Rattle.cob_tree.specs.declared.program.Paragraph.{Paragraph}
use Rattle.cob_tree.specs.declared.program.Range as code
use Rattle.cob_tree.specs.declared.program.Sentence.{Sentence}
use Rattle.control_flow_theory.specs.language.Laws.{statements_of}
use Rattle.control_flow_theory.specs.graph_rules.Reduced.{Graphs}
use Rattle.control_flow_theory.specs.structuring.Closes.{closed_graph}
use Rattle.control_flow_theory.specs.rendering.Rendering.{Procedure}
use Rattle.control_flow_theory.proofs.rendering_lemmas.Written.{or_else, map-get}
use Rattle.control_flow_theory.specs.main_theorem.Chain.{procedure_of, procedures_of}
use Rattle.lowering_labels.specs.points.FallThrough.{seen_range}

pub lists-same : {A : Type 0} (xs ys : List A) → length xs ≡ length ys →
    ((at : ℕ) (x y : A) → slice_get xs at ≡ Some x → slice_get ys at ≡ Some y → x ≡ y) → xs ≡ ys
lists-same [] [] many each = refl
lists-same [] (y ∷ ys) many each = absurd (omega (arith, many))
lists-same (x ∷ xs) [] many each = absurd (omega (arith, many))
lists-same (x ∷ xs) (y ∷ ys) many each =
    ap₂ (λ first rest. first ∷ rest) (each 0 x y refl refl)
    (lists-same xs ys (ap pred many) (λ at a b h g. each (suc at) a b h g))

abbrev stmts_in : Sentence → List Stmt
stmts_in sentence = sentence.stmts

abbrev all_stmts : List Sentence → List (List Stmt)
all_stmts = map stmts_in

sentence-same : (one other : Sentence) → one.stmts ≡ other.stmts → one ≡ other
sentence-same one other same = ap (λ (stmts : List Stmt). record { stmts = stmts }) same

first-same : {A : Type 0} (x y : A) (xs ys : List A) → x ∷ xs ≡ y ∷ ys → x ≡ y
first-same x y xs ys e = ap (or_else x) (ap (λ l. slice_get l 0) e)

rest-same : {A : Type 0} (x y : A) (xs ys : List A) → x ∷ xs ≡ y ∷ ys → xs ≡ ys
rest-same {A} x y xs ys e = ap rest e where
  rest : List A → List A
  rest [] = []
  rest (first ∷ others) = others

sentences-same : (ones others : List Sentence) → all_stmts ones ≡ all_stmts others →
    ones ≡ others
sentences-same [] [] same = refl
sentences-same [] (other ∷ others) same = cc
sentences-same (one ∷ ones) [] same = cc
sentences-same (one ∷ ones) (other ∷ others) same =
    ap₂ (λ first rest. first ∷ rest)
    (sentence-same one other
    (first-same one.stmts other.stmts (all_stmts ones) (all_stmts others) same))
    (sentences-same ones others
    (rest-same one.stmts other.stmts (all_stmts ones) (all_stmts others) same))

pub paragraph-same : (one other : Paragraph) → one.name ≡ other.name →
    one.section ≡ other.section → all_stmts one.sentences ≡ all_stmts other.sentences →
    one ≡ other
paragraph-same one other name section same =
    ap (λ (n : Option (List ℕ)). record {
      name = n;
      section = one.section;
      sentences = one.sentences;
    }) name
    ∙ ap (λ (s : Option (List ℕ)). record {
      name = other.name;
      section = s;
      sentences = one.sentences;
    }) section
    ∙ ap (λ (ss : List Sentence). record {
      name = other.name;
      section = other.section;
      sentences = ss;
    }) (sentences-same one.sentences other.sentences same)

some-same : {A : Type 0} (x y : A) → Some x ≡ Some y → x ≡ y
some-same x y e = ap (or_else x) e

-- the statements of paragraphs that stand at one place
pub statements-at : (ones others : List Paragraph) → statements_of ones ≡ statements_of others →
    (at : ℕ) (one other : Paragraph) → slice_get ones at ≡ Some one →
    slice_get others at ≡ Some other → all_stmts one.sentences ≡ all_stmts other.sentences
statements-at ones others same at one other here there =
    some-same (all_stmts one.sentences) (all_stmts other.sentences)
    (sym (map-get (λ (p : Paragraph). all_stmts p.sentences) ones at one here)
    ∙ ap (λ l. slice_get l at) same
    ∙ map-get (λ (p : Paragraph). all_stmts p.sentences) others at other there)

-- the procedures of ranges whose graphs are the same
pub procedures-same : (order : List code.Range) (graphs others : Graphs) →
    ((at : ℕ) (range : code.Range) → slice_get order at ≡ Some range →
    graphs (seen_range range) ≡ others (seen_range range)) →
    procedures_of (map seen_range order) graphs ≡ procedures_of (map seen_range order) others
procedures-same [] graphs others each = refl
procedures-same (range ∷ order) graphs others each =
    ap₂ (λ (first : Procedure) (rest : List Procedure). first ∷ rest)
    (ap (λ graph. procedure_of (seen_range range) (closed_graph graph)) (each 0 range refl))
    (procedures-same order graphs others (λ at one here. each (suc at) one here))
