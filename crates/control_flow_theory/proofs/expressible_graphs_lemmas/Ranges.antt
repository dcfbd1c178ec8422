-- The nodes of a range of a source that may be written may be written.
use Rattle.std.proofs.Common.{◌≡◌, ℕ, suc, ◌+◌, Bool, true, false, if◌then◌else◌, nat_eq, List, [], ◌∷◌, Option, Some, None, inl, inr, sym, subst}
use Rattle.std.specs.Prelude.{slice_get, length}
use Rattle.control_flow_theory.specs.language.Language.{Act, Do, Stmts, none, also, Paragraph, Program, Range, Main, Part}
use Rattle.control_flow_theory.specs.semantics.Graph.{Tree, End, Return}
use Rattle.control_flow_theory.specs.lowering.FlowFacts.{FlowFacts, IsSource, OwnStmts, OwnParagraph, OwnParagraphs}
use Rattle.control_flow_theory.specs.lowering.Completes.{cuts, leave_sentence, sizes, skips}
use Rattle.control_flow_theory.specs.lowering.Lower.{Node, nodes, build, push, fall_leaf, paragraph_end_target, EscapeTargets, leaving_at}
use Rattle.control_flow_theory.specs.lowering.Rests.{Rest, Sent, rest_from, leaf_of, leaving_of, tree_of, after_loop, at_loop}
use Rattle.control_flow_theory.specs.lowering.Lowered.{total, place_in, nodes_left, nodes_from, nodes_of}
use Rattle.control_flow_theory.specs.rendering.Rendering.{Naming}
use Rattle.control_flow_theory.specs.rendering.Procedures.{Writable}
use Rattle.control_flow_theory.specs.expressible_graphs.Served.{SentenceIsServed, ParagraphIsServed, ParagraphsAreServed, ProgramIsServed}
use Rattle.control_flow_theory.proofs.expressible_graphs_lemmas.Built.{IsFine, IsEnd, AllFine, LeavingFine, all-append, leaf-fine, build-fine, nodes-fine}

module _ (naming : Naming) (kinds : Writable) (told : FlowFacts) (range : Range) (program : Program) where
  abbrev places : ℕ → ℕ
  places q = place_in program q

  abbrev count : ℕ
  count = length program.paragraphs

  abbrev Fine : Tree → Type 0
  Fine t = IsFine naming kinds told range count places t

  abbrev E : End → Type 0
  E end = IsEnd naming kinds told range count places end

  abbrev pub EachFine : List Node → Type 0
  EachFine xs = AllFine naming kinds told range count places xs

  -- ---- sentences

  idle-fine : (act : Act) (n : ℕ) (leaving : EscapeTargets) (after : End) (behind : Tree) → skips told act ≡ true → Fine behind →
      Fine (build told places (also (Do act) none) n leaving after behind)
  idle-fine act n leaving after behind idle f =
      subst (λ b. Fine (if b then behind else push told places (Do act) behind)) (sym idle) f

  sentence-fine : (s : Stmts) (n : ℕ) (leaving : EscapeTargets) (after : End) (behind : Tree) → OwnStmts told count s → SentenceIsServed naming kinds told range s →
      LeavingFine naming kinds told range count places leaving → E after → Fine behind → Fine (build told places s n leaving after behind)
  sentence-fine s n leaving after behind own (inl c) ws wa f = build-fine naming kinds told range count places s n leaving after behind own c ws wa f
  sentence-fine s n leaving after behind own (inr idle) ws wa f =
      subst (λ ss. Fine (build told places ss n leaving after behind)) (sym idle.1) (idle-fine idle.0 n leaving after behind idle.2 f)

  sentence-nodes-fine : (s : Stmts) (n : ℕ) (leaving : EscapeTargets) (after : End) (behind : Tree) → OwnStmts told count s → SentenceIsServed naming kinds told range s →
      LeavingFine naming kinds told range count places leaving → E after → Fine behind → EachFine (nodes told places s n leaving after behind)
  sentence-nodes-fine s n leaving after behind own (inl c) ws wa f = nodes-fine naming kinds told range count places s n leaving after behind own c ws wa f
  sentence-nodes-fine s n leaving after behind own (inr idle) ws wa f =
      subst (λ ss. EachFine (nodes told places ss n leaving after behind)) (sym idle.1) (idle-fine idle.0 n leaving after behind idle.2 f, tt)

  -- ---- paragraphs

  -- the ends of paragraphs may be written
  abbrev ParagraphFine : EscapeTargets → Type 0
  ParagraphFine end = E end.paragraph × ((last : ℕ) → E (end.section last))

  left-leaf-fine : (end : EscapeTargets) (n : ℕ) (ss : Paragraph) → ParagraphFine end → E (leaf_of told places end (rest_from told n ss))
  left-leaf-fine end n [] w = w.0
  left-leaf-fine end n (s ∷ ss) w = leaf-fine naming kinds told range count places s n (leaf_of told places end (rest_from told (n + sizes s) ss)) (left-leaf-fine end (n + sizes s) ss w)

  left-loop-fine : (end : EscapeTargets) (n : ℕ) (ss : Paragraph) → E end.paragraph → E (leaf_of told places end (after_loop (rest_from told n ss)))
  left-loop-fine end n [] w = w
  left-loop-fine end n (s ∷ ss) w = left-loop-fine end (n + sizes s) ss w

  left-turn-fine : (end : EscapeTargets) (n : ℕ) (ss : Paragraph) → E end.paragraph → E (leaf_of told places end (at_loop (rest_from told n ss)))
  left-turn-fine end n [] w = w
  left-turn-fine end n (s ∷ ss) w = left-turn-fine end (n + sizes s) ss w

  left-leaving-fine : (end : EscapeTargets) (n : ℕ) (ss : Paragraph) → E (leaf_of told places end (rest_from told n ss)) → ParagraphFine end →
      E (leaf_of told places end (rest_from told n ss)) × E end.paragraph × ((last : ℕ) → E (end.section last))
      × E (leaf_of told places end (after_loop (rest_from told n ss))) × E (leaf_of told places end (at_loop (rest_from told n ss)))
  left-leaving-fine end n ss wl w = (wl, w.0, w.1, left-loop-fine end n ss w.0, left-turn-fine end n ss w.0)

  sent-fine : (end : EscapeTargets) (holds : Bool) (c : Rest) → E (leaf_of told places end c) → Fine (tree_of told places end c) → Fine (tree_of told places end (Sent holds c))
  sent-fine end true c w f = (tt, w)
  sent-fine end false c w f = f

  left-tree-fine : (end : EscapeTargets) (n : ℕ) (ss : Paragraph) → OwnParagraph told count ss → ParagraphIsServed naming kinds told range ss → ParagraphFine end → Fine (tree_of told places end (rest_from told n ss))
  left-tree-fine end n [] own c w = (tt, w.0)
  left-tree-fine end n (s ∷ ss) own c w =
      let holds = leave_sentence (cuts told s) in
      let r = rest_from told (n + sizes s) ss in
      let wl = left-leaf-fine end (n + sizes s) ss w in
      sentence-fine s n (leaving_of told places end (Sent holds r)) (leaf_of told places end r) (tree_of told places end (Sent holds r)) own.0 c.0 (left-leaving-fine end (n + sizes s) ss wl w) wl
      (sent-fine end holds r wl (left-tree-fine end (n + sizes s) ss own.1 c.1 w))

  left-fine : (end : EscapeTargets) (n : ℕ) (ss : Paragraph) → OwnParagraph told count ss → ParagraphIsServed naming kinds told range ss → ParagraphFine end → EachFine (nodes_left told program end (rest_from told n ss))
  left-fine end n [] own c w = tt
  left-fine end n (s ∷ ss) own c w =
      let holds = leave_sentence (cuts told s) in
      let r = rest_from told (n + sizes s) ss in
      let wl = left-leaf-fine end (n + sizes s) ss w in
      all-append naming kinds told range count places (nodes told places s n (leaving_of told places end (Sent holds r)) (leaf_of told places end r) (tree_of told places end (Sent holds r))) (nodes_left told program end r)
      (sentence-nodes-fine s n (leaving_of told places end (Sent holds r)) (leaf_of told places end r) (tree_of told places end (Sent holds r)) own.0 c.0 (left-leaving-fine end (n + sizes s) ss wl w) wl
      (sent-fine end holds r wl (left-tree-fine end (n + sizes s) ss own.1 c.1 w)))
      (left-fine end (n + sizes s) ss own.1 c.1 w)

  fall-fine : (q : ℕ) (found : Option Paragraph) → E (fall_leaf places q found)
  fall-fine q None = tt
  fall-fine q (Some next) = tt

  end-fine : (r : Range) (q : ℕ) → E (paragraph_end_target places program r q)
  end-fine Main q = fall-fine q (slice_get program.paragraphs (suc q))
  end-fine (Part e x) q = elim (nat_eq x q) as (λ b. E (if b then Return else fall_leaf places q (slice_get program.paragraphs (suc q)))) [ true ↦ tt | false ↦ fall-fine q (slice_get program.paragraphs (suc q)) ]

  from-fine : (q n : ℕ) (ps : List Paragraph) → OwnParagraphs told count ps → ParagraphsAreServed naming kinds told range ps → EachFine (nodes_from told program range q n ps)
  from-fine q n [] own c = tt
  from-fine q n (ss ∷ others) own c =
      let end = leaving_at places program range q in (
        left-tree-fine end (n + 1) ss own.0 c.0 (end-fine range q, end-fine range),
        all-append naming kinds told range count places (nodes_left told program end (rest_from told (n + 1) ss)) (nodes_from told program range (suc q) (n + 1 + total ss) others)
            (left-fine end (n + 1) ss own.0 c.0 (end-fine range q, end-fine range)) (from-fine (suc q) (n + 1 + total ss) others own.1 c.1),
      )

  pub nodes-of-fine : IsSource told program → ProgramIsServed naming kinds told range program → EachFine (nodes_of told program range)
  nodes-of-fine source served = from-fine 0 0 program.paragraphs source served
