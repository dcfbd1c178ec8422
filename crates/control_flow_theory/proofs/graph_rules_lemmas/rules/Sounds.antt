-- A family that matches a sound one is sound, and the laws of the rules.
use Rattle.std.proofs.Common.{◌≡◌, ◌≢◌, ℕ, ◌+◌, ◌*◌, Bool, true, List, [], refl, ap, sym, ◌∙◌, subst, arith, inl}
use Rattle.control_flow_theory.specs.runs.Run.{Going, Over}
use Rattle.control_flow_theory.specs.runs.Machine.{iterate, meaning}
use Rattle.control_flow_theory.specs.semantics.Outcome.{Lost}
use Rattle.control_flow_theory.specs.language.Language.{Range, Stmts, Test}
use Rattle.control_flow_theory.specs.semantics.Doing.{Acting}
use Rattle.control_flow_theory.specs.language.Items.{before}
use Rattle.control_flow_theory.specs.semantics.Graph.{Label, Tree, tree, End, Pick, Jump, Return, Stop, Dead, Trees, no_more, more, body_of, end_of, Family}
use Rattle.control_flow_theory.specs.semantics.Walk.{walk_step, walk_begun, walk_machine}
use Rattle.control_flow_theory.specs.graph_rules.Charged.{Matched}
use Rattle.control_flow_theory.specs.graph_rules.Walked.{In, walked, walked_from}
use Rattle.control_flow_theory.specs.graph_rules.Joins.{JoinsEnd, JoinsTree, JoinsTrees, Joined, Pruned}
use Rattle.control_flow_theory.specs.graph_rules.Inlines.{Inlined}
use Rattle.control_flow_theory.specs.graph_rules.Loops.{Tested}
use Rattle.control_flow_theory.specs.graph_rules.Families.{Never, Kinds, Has, MaySet, IsFamily, Ready, Extends, IsSound}
use Rattle.control_flow_theory.specs.graph_rules.Laws.{WalkTakesItsUnits, WalksAreTied, DoesTheSame, JoinKeeps, PruneKeeps, InlineKeeps, TestedKeeps, LoopKeeps, SoundBySteps}
use Rattle.control_flow_theory.proofs.graph_rules_lemmas.walks.Walks.{walked-pays, walked-tied}
use Rattle.control_flow_theory.proofs.graph_rules_lemmas.rules.Join.{join-matched}
use Rattle.control_flow_theory.proofs.graph_rules_lemmas.rules.Inline.{inline-matched}
use Rattle.control_flow_theory.proofs.graph_rules_lemmas.rules.Tested.{tested-matched}
use Rattle.control_flow_theory.proofs.graph_rules_lemmas.rules.Looped.{looped-matched}

module _ {Memory Left : Type 0} (acting : Acting Memory) (left : Memory → Left) where
  -- a walk by recursion that isn't lost has no step that is
  pub steps-sound : (kinds : Kinds) (g : Family) (order : List Range) → IsFamily kinds g order → IsSound acting left kinds g order → (range : Range) → In range order → (start : Ready Memory kinds) (n : ℕ) →
      (iterate (walk_step acting left g) n (walk_begun acting left g range start.memory)).run.standing ≢ Over Lost
  steps-sound kinds g order family sound range here start n lost =
      let t = walked-tied acting left g (Has kinds) (MaySet kinds) order family range here in
      let k = t.back * (n + 1) in
      let covers = t.covers start.memory n k (omega arith) in
      let over : (meaning (walk_machine acting left g range) start.memory n).standing ≢ Going = λ is. (let e = sym is ∙ lost in cc) in
      sound range here start k (ap (λ r. r.standing) (covers.ends over) ∙ lost)

  pub matched-sound : (kinds more : Kinds) (g h : Family) (order : List Range) → Extends kinds more → IsSound acting left kinds g order →
      ((range : Range) → In range order → Matched 8 (walked_from acting left (λ (start : Ready Memory more). start.memory) g order range) (walked_from acting left (λ (start : Ready Memory more). start.memory) h order range)) → DoesTheSame Memory Left acting left more g h order
  matched-sound kinds kinds2 g h order extends sound matched = (
    (λ range here start units lost.
        let covers = (matched range here start units).1 in
        let over : (walked acting left h order range start.memory units).standing ≢ Going = λ is. (let e = sym is ∙ lost in cc) in
        sound range here (record { memory = start.memory; ready = λ r c is. start.ready r c (extends r c Never is) }) (8 * (units + 1)) (ap (λ r. r.standing) (covers.ends over) ∙ lost)),
    matched,
  )

  same-kinds : (kinds : Kinds) → Extends kinds kinds
  same-kinds kinds = λ r c k is. is

-- a tree is joined to itself
mutual
  self-end : (end : End) → JoinsEnd end [] end
  self-end (Pick picker arms) = inl (arms, refl, refl, self-trees arms)
  self-end (Jump to) = (refl, refl)
  self-end Return = (refl, refl)
  self-end Stop = inl (refl, refl)
  self-end Dead = refl

  pub self-tree : (t : Tree) → JoinsTree t (before (body_of t) []) (end_of t)
  self-tree (tree body end) = ([], refl, self-end end)

  pub self-trees : (arms : Trees) → JoinsTrees arms arms
  self-trees no_more = refl
  self-trees (more first others) = (first, others, refl, self-tree first, self-trees others)

pruned-joined : (reached : Range → Label → Type 0) (g h : Family) → Pruned reached g h → Joined reached g h
pruned-joined reached g h p = record {
  entries = p.entries;
  enters = p.enters;
  closed = p.closed;
  nodes = λ r l here. subst (λ t. JoinsTree (g.node r l) (before (body_of t) []) (end_of t)) (sym (p.same r l here)) (self-tree (g.node r l));
}

module _ {Memory Left : Type 0} where
  pub walk-takes : WalkTakesItsUnits Memory Left
  walk-takes acting left kinds family order is range here = λ memory units. (walked-pays acting left family (Has kinds) (MaySet kinds) order is range here memory units).0

  pub walks-tied : WalksAreTied Memory Left
  walks-tied acting left kinds family order is range here = walked-tied acting left family (Has kinds) (MaySet kinds) order is range here

  pub join-any : (acting : Acting Memory) (left : Memory → Left) (kinds more_kinds : Kinds) (g h : Family) (order : List Range) → Extends kinds more_kinds → IsFamily kinds g order → IsFamily more_kinds h order → IsSound acting left kinds g order →
      (reached : Range → Label → Type 0) → Joined reached g h → DoesTheSame Memory Left acting left more_kinds g h order
  join-any acting left kinds kinds2 g h order extends fg fh sound reached joined =
      matched-sound acting left kinds kinds2 g h order extends sound (λ range here.
      join-matched acting left (Has kinds) (MaySet kinds) reached g h order fg joined (λ (start : Ready Memory kinds2). start.memory) range here
      (λ start. steps-sound acting left kinds g order fg sound range here (record { memory = start.memory; ready = λ x c e. start.ready x c (extends x c Never e) })) (Has kinds2) (MaySet kinds2) fh)

  pub inline-any : (acting : Acting Memory) (left : Memory → Left) (kinds more_kinds : Kinds) (g h : Family) (order : List Range) → Extends kinds more_kinds → IsFamily kinds g order → IsFamily more_kinds h order → IsSound acting left kinds g order →
      (range : Range) (label : Label) → Inlined range label g h → DoesTheSame Memory Left acting left more_kinds g h order
  inline-any acting left kinds kinds2 g h order extends fg fh sound range label inlined =
      matched-sound acting left kinds kinds2 g h order extends sound (λ r here start units.
      let m = inline-matched acting left (Has kinds) (MaySet kinds) range label g h order fg inlined r here (Has kinds2) (MaySet kinds2) fh start.memory units in (m.1, m.0))

  pub tested-any : (acting : Acting Memory) (left : Memory → Left) (kinds more_kinds : Kinds) (g h : Family) (order : List Range) → Extends kinds more_kinds → IsFamily kinds g order → IsFamily more_kinds h order → IsSound acting left kinds g order →
      (after turned : Bool) (test : Test) (range : Range) (label : Label) (out : End) (body : Stmts) → Tested after turned test range label out body g h → DoesTheSame Memory Left acting left more_kinds g h order
  tested-any acting left kinds kinds2 g h order extends fg fh sound after turned test range label out body tested =
      matched-sound acting left kinds kinds2 g h order extends sound (λ r here start units.
      tested-matched acting left (Has kinds) (MaySet kinds) after turned test range label out body g h order fg tested r here (Has kinds2) (MaySet kinds2) fh start.memory units)

  pub join-keeps : JoinKeeps Memory Left
  join-keeps acting left kinds g h order fg fh sound reached joined = join-any acting left kinds kinds g h order (same-kinds acting left kinds) fg fh sound (λ r l. reached r l ≡ true) joined

  pub prune-keeps : PruneKeeps Memory Left
  prune-keeps acting left kinds g h order fg fh sound reached pruned = join-any acting left kinds kinds g h order (same-kinds acting left kinds) fg fh sound (λ r l. reached r l ≡ true) (pruned-joined (λ r l. reached r l ≡ true) g h pruned)

  pub inline-keeps : InlineKeeps Memory Left
  inline-keeps acting left kinds g h order fg fh sound range label inlined = inline-any acting left kinds kinds g h order (same-kinds acting left kinds) fg fh sound range label inlined

  pub tested-keeps : TestedKeeps Memory Left
  tested-keeps acting left kinds g h order fg fh sound after turned test range label out body tested = tested-any acting left kinds kinds g h order (same-kinds acting left kinds) fg fh sound after turned test range label out body tested

  pub loop-keeps : LoopKeeps Memory Left
  loop-keeps acting left kinds kinds2 g h order extends fg fh sound keeper cell range label out body is looped =
      matched-sound acting left kinds kinds2 g h order extends sound (λ r here.
      looped-matched acting left keeper cell range label out body g h order looped (λ (start : Ready Memory kinds2). start.memory) r here (λ start e. start.ready range cell (is e))
      (λ start. steps-sound acting left kinds g order fg sound r here (record { memory = start.memory; ready = λ x c e. start.ready x c (extends x c Never e) })) (Has kinds2) (MaySet kinds2) fh)

  pub sound-by-steps : SoundBySteps Memory Left
  sound-by-steps acting left kinds family order is = (
    (λ steps range here start units lost.
        let t = walked-tied acting left family (Has kinds) (MaySet kinds) order is range here in
        let k = t.there * (units + 1) in
        let covers = t.covered start.memory units k (omega arith) in
        let over : (walked acting left family order range start.memory units).standing ≢ Going = λ e. (let q = sym e ∙ lost in cc) in
        steps range here start k (ap (λ r. r.standing) (covers.ends over) ∙ lost)),
    (λ sound range here start n. steps-sound acting left kinds family order is sound range here start n),
  )
