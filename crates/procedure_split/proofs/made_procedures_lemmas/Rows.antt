-- Lists with an item for each range.
use Rattle.std.proofs.Common.{◌≡◌, ℕ, zero, suc, true, false, if◌then◌else◌, List, [], ◌∷◌, map, length, Option, Some, None, slice_get, refl, ap, ap₂, sym, subst, ◌∙◌, inl, inr}
use Rattle.std.specs.Prelude.{pred}
use Rattle.cob_tree.specs.declared.program.Paragraph.{Paragraph}
use Rattle.cob_tree.specs.declared.program.Range as code
use Rattle.control_flow_theory.specs.language.Control.{seen_paragraph, seen_paragraphs, section_last}
use Rattle.control_flow_theory.specs.language.Language as language
use Rattle.control_flow_theory.specs.language.Language.{Range, same_range}
use Rattle.control_flow_theory.proofs.semantics_lemmas.Ranges.{same-self, range-tells}
use Rattle.control_flow_theory.specs.graph_rules.Walked.{In, is_in}
use Rattle.control_flow_theory.specs.graph_rules.Reduced.{Graphs}
use Rattle.control_flow_theory.specs.lowering.FlowFacts.{FlowFacts}
use Rattle.control_flow_theory.specs.structuring.Closes.{closed_graph}
use Rattle.control_flow_theory.specs.rendering.Rendering.{Procedure, place_of}
use Rattle.control_flow_theory.proofs.rendering_lemmas.Written.{or_else}
use Rattle.control_flow_theory.specs.main_theorem.Chain.{procedure_of, procedures_of, CallsStandLater}
use Rattle.procedure_split.specs.plan.Laws.{as_control, ending_at}
use Rattle.lowering_labels.specs.points.FallThrough.{range_by, seen_range}
use Rattle.branch_tree.specs.Graph.{seen_graph}
use Rattle.branch_tree.specs.declared.graph.Graph.{Graph}
use Rattle.procedure_split.proofs.shaped_ranges_lemmas.Keeping.{AreApart}
use Rattle.procedure_split.specs.shaped_ranges.Shaping.{AllShaped, IsShapedTo}
use Rattle.procedure_split.specs.declared.shaped_ranges.shaping.Closed.{Closed}

-- where there are as many, there is one beside each
pub beside : {A B : Type 0} (first : List A) (second : List B) → length second ≡ length first →
    (at : ℕ) (one : A) → slice_get first at ≡ Some one →
    (other : B) × (slice_get second at ≡ Some other)
beside [] second many at one is = cc
beside (x ∷ xs) [] many at one is = cc
beside (x ∷ xs) (y ∷ ys) many zero one is = (y, refl)
beside (x ∷ xs) (y ∷ ys) many (suc at) one is = beside xs ys (ap pred many) at one is

pub shaped-at : (graphs : List Graph) (closed : List Closed) → AllShaped graphs closed →
    (at : ℕ) (one : Closed) → slice_get closed at ≡ Some one →
    (graph : Graph) × (slice_get graphs at ≡ Some graph) × IsShapedTo (seen_graph graph) one
shaped-at [] [] all at one is = cc
shaped-at [] (first ∷ closed) all at one is = absurd all
shaped-at (graph ∷ graphs) [] all at one is = absurd all
shaped-at (graph ∷ graphs) (first ∷ closed) all zero one is =
    let same : first ≡ one = ap (or_else first) is in
    (graph, refl, subst (λ other. IsShapedTo (seen_graph graph) other) same all.0)
shaped-at (graph ∷ graphs) (first ∷ closed) all (suc at) one is =
    shaped-at graphs closed all.1 at one is

as-planned : (entry : ℕ) (exit : Option ℕ) → range_by entry exit ≡ ending_at entry exit
as-planned entry None = refl
as-planned entry (Some exit) = refl

pub all-as-planned : (order : List code.Range) → map seen_range order ≡ map as_control order
all-as-planned [] = refl
all-as-planned (range ∷ ranges) =
    ap₂ (λ first others. first ∷ others) (as-planned range.entry range.exit)
    (all-as-planned ranges)

pub later-apart : (told : FlowFacts) (program : language.Program) (ranges : List Range) →
    CallsStandLater told program ranges → AreApart ranges
later-apart told program [] later = tt
later-apart told program (range ∷ ranges) later =
    (later.0, later-apart told program ranges later.2)

pub in-at : (ranges : List Range) (at : ℕ) (range : Range) → slice_get ranges at ≡ Some range →
    In range ranges
in-at [] at range is = cc
in-at (first ∷ ranges) zero range is =
    let same : first ≡ range = ap (or_else first) is in
    subst (λ other. In other (first ∷ ranges)) same
    (ap (λ t. if t then true else is_in first ranges) (same-self first))
in-at (first ∷ ranges) (suc at) range is =
    elim (same_range first range) as (λ t. (if t then true else is_in range ranges) ≡ true) [
      | true ↦ refl
      | false ↦ in-at ranges at range is
    ]

module _ (graphs : Graphs) where
  abbrev pub procedure_by : Range → Procedure
  procedure_by range = procedure_of range (closed_graph (graphs range))

  pub procedure-at : (ranges : List Range) (at : ℕ) (range : Range) →
      slice_get ranges at ≡ Some range →
      slice_get (procedures_of ranges graphs) at ≡ Some (procedure_by range)
  procedure-at [] at range is = cc
  procedure-at (first ∷ ranges) zero range is =
      ap (λ other. Some (procedure_by other)) (ap (or_else first) is)
  procedure-at (first ∷ ranges) (suc at) range is = procedure-at ranges at range is

  -- no range twice: each has its number for its place
  pub place-at : (ranges : List Range) → AreApart ranges → (at : ℕ) (range : Range) →
      slice_get ranges at ≡ Some range → place_of (procedures_of ranges graphs) range ≡ at
  place-at [] apart at range is = cc
  place-at (first ∷ ranges) apart zero range is =
      let same : first ≡ range = ap (or_else first) is in
      subst (λ other. place_of (procedures_of (first ∷ ranges) graphs) other ≡ 0) same
      (ap (λ t. if t then 0 else suc (place_of (procedures_of ranges graphs) first))
      (same-self first))
  place-at (first ∷ ranges) apart (suc at) range is = elim (range-tells first range) [
    | inl found ↦ absurd (
        let there : is_in first ranges ≡ true =
        ap (λ other. is_in other ranges) found.1 ∙ in-at ranges at range is in
        let no : false ≡ true = sym apart.0 ∙ there in
        cc)
    | inr other ↦
        ap (λ t. if t then 0 else suc (place_of (procedures_of ranges graphs) range)) other.0
        ∙ ap suc (place-at ranges apart.1 at range is)
  ]

  -- paragraphs that are each seen as what is written of the range beside it
  pub all-seen-as : (write : Procedure → language.Paragraph) (number : ℕ)
      (order : List code.Range) (paragraphs : List Paragraph) →
      length paragraphs ≡ length order →
      ((at : ℕ) (range : code.Range) (paragraph : Paragraph) → slice_get order at ≡ Some range →
      slice_get paragraphs at ≡ Some paragraph → (last : ℕ) →
      seen_paragraph last paragraph ≡ write (procedure_by (seen_range range))) →
      seen_paragraphs number paragraphs ≡ map write (procedures_of (map seen_range order) graphs)
  all-seen-as write number [] [] many each = refl
  all-seen-as write number [] (paragraph ∷ paragraphs) many each = cc
  all-seen-as write number (range ∷ order) [] many each = cc
  all-seen-as write number (range ∷ order) (paragraph ∷ paragraphs) many each =
      ap₂ (λ first others. first ∷ others)
      (each 0 range paragraph refl refl (section_last number paragraphs))
      (all-seen-as write (suc number) order paragraphs (ap pred many)
      (λ at other one here there. each (suc at) other one here there))
