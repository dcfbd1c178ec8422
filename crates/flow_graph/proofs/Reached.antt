-- The labels that are reached, so far.
use Rattle.std.proofs.Common.{◌≡◌, ℕ, zero, suc, ◌+◌, ◌*◌, ◌≤◌, ◌<◌, inl, inr, Bool, List, [], ◌∷◌, length, Some, slice_get, refl, ap, sym, ◌∙◌, subst, arith}
use Rattle.std.proofs.lemmas.Option.{slice_get_within}
use Rattle.cob_tree.specs.declared.program.Program.{Program}
use Rattle.cob_tree.specs.declared.program.Range as code
use Rattle.control_flow_theory.specs.language.Control.{control_of}
use Rattle.control_flow_theory.specs.semantics.Graph as graph
use Rattle.control_flow_theory.specs.lowering.Lowered.{nodes_of}
use Rattle.control_flow_theory.specs.lowering.Reached.{entered, jumped, JumpsTo}
use Rattle.lowering_labels.specs.points.FallThrough.{seen_range}
use Rattle.lowering_labels.specs.points.Layout.{end_from}
use Rattle.statement_lowering.specs.LowerList.{flow_facts_by}
use Rattle.statement_lowering.specs.declared.context.LoweringContext.{LoweringContext}
use Rattle.statement_lowering.specs.declared.continuations.continuation.Continuation.{Continuation}
use Rattle.flow_graph.specs.label_trees.Node.{IsWhole, node_in}
use Rattle.pending_returns.specs.levels.Reach.{Adds, Holds, IsMarked}
use Rattle.pending_returns.proofs.levels_lemmas.Searching.{before-or-now}
use Rattle.flow_graph.specs.Reaching.{AddsNodeJumps, AreReachedIn, Begins, IsRangeIn, NodeJumpsBelow, Reaches}
use Rattle.flow_graph.proofs.LabelRows.{label_below, nodes_within, reached_label}

there : (xs : List ℕ) (at : ℕ) → at < length xs → (x : ℕ) × (slice_get xs at ≡ Some x)
there [] at lt = absurd (omega (arith, lt))
there (x ∷ xs) zero lt = (x, refl)
there (x ∷ xs) (suc at) lt = there xs at (omega (arith, lt))

module _ (telling : LoweringContext) (spots : List Continuation) (range : code.Range) where
  abbrev Is : Program → Type 0
  Is program = IsRangeIn telling spots range program

  abbrev Enters : ℕ → Type 0
  Enters entry = Begins telling spots range entry

  -- those looked at have all to which they jump among the labels
  pub record ReachSoFar (entry : ℕ) (labels : List ℕ) (marks : List Bool) (at : ℕ) : Type 0 where
    pub marked : IsMarked labels marks
    pub size : length marks ≡ 3 * length spots
    pub begun : Holds labels entry
    pub sound : (program : Program) → Is program → (label : ℕ) → Holds labels label → Reaches telling program range label
    pub done : (program : Program) → Is program → (number from to : ℕ) → number < at → slice_get labels number ≡ Some from →
        JumpsTo to (graph.end_of (node_in telling program range from)) → Holds labels to

  pub reaches_below : IsWhole telling spots → (program : Program) → Is program → (label : ℕ) → Reaches telling program range label → label < 3 * length spots
  reaches_below whole program is label h =
      let told = flow_facts_by telling in
      let lt : label < 3 * end_from 0 program.paragraphs = label_below 0 (3 * end_from 0 program.paragraphs) (nodes_of told (control_of program) (seen_range range)) label (nodes_within told program (seen_range range))
      (reached_label told (control_of program) (seen_range range) label is.table.source is.own h) in
      omega (arith, lt, whole.count, is.table.placed.last)

  pub entry_below : IsWhole telling spots → (program : Program) → Is program → (entry : ℕ) → Enters entry → entry < 3 * length spots
  entry_below whole program is entry begins = reaches_below whole program is entry (subst (Reaches telling program range) (sym (begins program is)) entered)

  nothing : (labels : List ℕ) (label : ℕ) → labels ≡ [] → Holds labels label → ⊥
  nothing labels label none h = (let f : slice_get [] h.0 ≡ Some label = ap (λ (ls : List ℕ). slice_get ls h.0) (sym none) ∙ h.1 in let k : ⊥ = cc in k)

  pub reach_begin : (before later : List ℕ) (marks : List Bool) (entry : ℕ) → Enters entry → before ≡ [] → IsMarked later marks → length marks ≡ 3 * length spots → Adds before later entry → ReachSoFar entry later marks 0
  reach_begin before later marks entry begins none marked size adds = record {
    marked = marked;
    size = size;
    begun = adds.added;
    sound = λ program is label h. elim (adds.only label h) [
      | inl old ↦ absurd (nothing before label none old)
      | inr same ↦ subst (Reaches telling program range) (sym (same ∙ begins program is)) entered
    ];
    done = λ program is number from to lt e j. absurd (omega (arith, lt));
  }

  pub jumps_below : (entry : ℕ) (labels : List ℕ) (marks : List Bool) (at here : ℕ) → ReachSoFar entry labels marks at → IsWhole telling spots → (program : Program) × Is program →
      Holds labels here → NodeJumpsBelow telling spots range here (length marks)
  jumps_below entry labels marks at here so whole some holds = (
    some.0,
    some.1.table,
    λ label jumps.
        let lt : label < 3 * length spots = reaches_below whole some.0 some.1 label (jumped here label (so.sound some.0 some.1 here holds) jumps) in
        omega (arith, lt, so.size),
  )

  pub reach_more : (entry : ℕ) (labels later : List ℕ) (marks more : List Bool) (at here : ℕ) → ReachSoFar entry labels marks at → at < length labels → slice_get labels at ≡ Some here →
      AddsNodeJumps telling spots range here labels later → IsMarked later more → length more ≡ length marks → (program : Program) × Is program → ReachSoFar entry later more (at + 1)
  reach_more entry labels later marks more at here so lt is_here adds marked size some =
      let one = adds some.0 some.1.table in
      let kept : (other : ℕ) → Holds labels other → Holds later other = λ other h. (h.0, one.kept h.0 other h.1) in
      record {
        marked = marked;
        size = size ∙ so.size;
        begun = kept entry so.begun;
        sound = λ program is other h. elim ((adds program is.table).only other h) [
          | inl old ↦ so.sound program is other old
          | inr jumps ↦ jumped here other (so.sound program is here (at, is_here)) jumps
        ];
        done = λ program is number from to less e jumps. elim (before-or-now number at less) [
          | inl before ↦
              let old = there labels number (omega (arith, lt, before)) in
              let both : Some old.0 ≡ Some from = sym (one.kept number old.0 old.1) ∙ e in
              let same : old.0 ≡ from = cc in
              kept to (so.done program is number from to before (old.1 ∙ ap (λ (n : ℕ). Some n) same) jumps)
          | inr now ↦
              let e3 : slice_get later at ≡ Some from = ap (λ (n : ℕ). slice_get later n) (sym now) ∙ e in
              let both : Some here ≡ Some from = sym (one.kept at here is_here) ∙ e3 in
              let same : here ≡ from = cc in
              (adds program is.table).added to (subst (JumpsTo to) (ap (λ n. graph.end_of (node_in telling program range n)) (sym same)) jumps)
        ];
      }

  complete : (entry : ℕ) (labels : List ℕ) (marks : List Bool) (at : ℕ) → Enters entry → ReachSoFar entry labels marks at → length labels ≤ at → (program : Program) → Is program → (label : ℕ) → Reaches telling program range label → Holds labels label
  complete entry labels marks at begins so le program is label entered = subst (Holds labels) (begins program is) so.begun
  complete entry labels marks at begins so le program is label (jumped from to h j) =
      let k = complete entry labels marks at begins so le program is from h in
      so.done program is k.0 from to (let lt : k.0 < length labels = slice_get_within labels k.0 from k.1 in omega (arith, lt, le)) k.1 j

  pub reach_all : (entry : ℕ) (labels : List ℕ) (marks : List Bool) (at : ℕ) → Enters entry → ReachSoFar entry labels marks at → length labels ≤ at → AreReachedIn telling spots range labels
  reach_all entry labels marks at begins so le = λ program is. (so.sound program is, complete entry labels marks at begins so le program is)
