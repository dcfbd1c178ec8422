-- Graphs that are the same for each range of an order are the same family.
use Rattle.std.proofs.Common.{◌≡◌, ℕ, true, false, if◌then◌else◌, List, [], ◌∷◌, Some, refl, ap, ◌∙◌, subst}
use Rattle.control_flow_theory.specs.semantics.Structural.{Outcome, Went, Stands}
use Rattle.control_flow_theory.specs.semantics.Doing.{Acting, Celled}
use Rattle.control_flow_theory.specs.semantics.Graph.{Label}
use Rattle.control_flow_theory.specs.language.Language.{Range, same_range}
use Rattle.control_flow_theory.specs.graph_rules.Families.{Never, Has, MaySet, IsFamily}
use Rattle.control_flow_theory.specs.graph_rules.Fits.{TreeFits}
use Rattle.control_flow_theory.specs.graph_rules.Reduced.{Graph, Graphs, tree_in, family_of, kinds_of}
use Rattle.control_flow_theory.specs.graph_rules.Walked.{In, is_in, graph_walks, performed, run_of, walked}
use Rattle.control_flow_theory.proofs.semantics_lemmas.Ranges.{same-self}
use Rattle.control_flow_theory.specs.structuring.Closes.{IsClosed}
use Rattle.end_to_end_laws.specs.rewriting.Families.{IsSoundFamily}

-- the same graph for each range of the order
abbrev pub Agree : (graphs others : Graphs) → List Range → Type 0
Agree graphs others order = (range : Range) → In range order → graphs range ≡ others range

pub among : (first range : Range) (ranges : List Range) → In range ranges → In range (first ∷ ranges)
among first range ranges there = elim (same_range first range) as (λ b. (if b then true else is_in range ranges) ≡ true) [ true ↦ refl | false ↦ there ]

pub first-in : (first : Range) (ranges : List Range) → In first (first ∷ ranges)
first-in first ranges = ap (λ b. if b then true else is_in first ranges) (same-self first)

module _ (graphs others : Graphs) where
  abbrev Fits-in : List Range → Range → Graph → Type 0
  Fits-in behind range graph = (label : Label) → TreeFits (λ to. In to behind) (λ cell. Has (λ r c. kinds_of (λ r. graph) r c) range cell) (λ cell. MaySet (λ r c. kinds_of (λ r. graph) r c) range cell) (tree_in graph.nodes label)

  pub family-agrees : (order : List Range) → Agree graphs others order → IsFamily (kinds_of graphs) (family_of graphs) order → IsFamily (kinds_of others) (family_of others) order
  family-agrees [] agree is = tt
  family-agrees (first ∷ ranges) agree is = (
    is.0,
    subst (λ graph. Fits-in ranges first graph) (agree first (first-in first ranges)) is.1,
    family-agrees ranges (λ range there. agree range (among first range ranges there)) is.2,
  )

module _ {Memory Left : Type 0} (acting : Acting Memory) (left : Memory → Left) (graphs others : Graphs) where
  abbrev Does : Type 0
  Does = Range → Celled Memory → ℕ → Outcome (Celled Memory) Left

  performed-agree : (order : List Range) → Agree graphs others order → performed acting left (family_of graphs) order ≡ performed acting left (family_of others) order
  performed-agree [] agree = λ i range. performed acting left (family_of graphs) [] range
  performed-agree (first ∷ ranges) agree =
      let behind : performed acting left (family_of graphs) ranges ≡ performed acting left (family_of others) ranges = performed-agree ranges (λ range there. agree range (among first range ranges there)) in
      let walks = λ (perform : Does) (graph : Graph). graph_walks acting left first perform (λ label. tree_in graph.nodes label) graph.entry in
      let one : walks (performed acting left (family_of graphs) ranges) (graphs first) ≡ walks (performed acting left (family_of others) ranges) (others first) =
      ap (λ (perform : Does). walks perform (graphs first)) behind ∙ ap (λ graph. walks (performed acting left (family_of others) ranges) graph) (agree first (first-in first ranges)) in
      λ i range. if same_range first range then one i else behind i range

  run-alike : (outcome : Outcome (Celled Memory) Left) → run_of acting left (family_of graphs) outcome ≡ run_of acting left (family_of others) outcome
  run-alike (Went trace memory units) = refl
  run-alike (Stands trace standing) = refl

  pub walked-agree : (order : List Range) → Agree graphs others order → (range : Range) (memory : Celled Memory) (units : ℕ) →
      walked acting left (family_of graphs) order range memory units ≡ walked acting left (family_of others) order range memory units
  walked-agree order agree range memory units =
      run-alike (performed acting left (family_of graphs) order range memory units)
      ∙ ap (λ (perform : Does). run_of acting left (family_of others) (perform range memory units)) (performed-agree order agree)

  -- a sound family stays one, where every memory is ready for the first graphs
  pub family-sound : (order : List Range) → Agree graphs others order → ((range : Range) (cell : ℕ) → kinds_of graphs range cell ≡ Some Never → ⊥) →
      IsSoundFamily acting left graphs order → IsSoundFamily acting left others order
  family-sound order agree changes sound = record {
    closed = λ range here. subst IsClosed (agree range here) (sound.closed range here);
    family = family-agrees graphs others order agree sound.family;
    sound = λ range here start units lost.
        sound.sound range here (record { memory = start.memory; ready = λ r c never. absurd (changes r c never) }) units
        (ap (λ run. run.standing) (walked-agree order agree range start.memory units) ∙ lost);
  }
