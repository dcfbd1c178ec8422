-- The trees and nodes that lowering builds of a source that may be written may be written.
use Rattle.std.proofs.Common.{◌≡◌, ℕ, suc, ◌+◌, Bool, true, false, if◌then◌else◌, List, [], ◌∷◌, ◌++◌, refl, ap, sym, ◌∙◌}
use Rattle.std.specs.Prelude.{length}
use Rattle.control_flow_theory.specs.language.Language.{Chooser, Picker, If, By, ByCell, Control, Times, Until, Varying, Stmt, Choose, Loop, Perform, Go, GoDepending, NextSentence, ExitParagraph, ExitSection, ExitPerform, StopRun, Stmts, none, also, Arms, done, given, missing, Nested, Performed, Range}
use Rattle.control_flow_theory.specs.language.Language as language
use Rattle.control_flow_theory.specs.language.Own.{OwnControl}
use Rattle.control_flow_theory.specs.semantics.Graph.{Tree, tree, End, Pick, Jump, Dead, Trees, more}
use Rattle.control_flow_theory.specs.lowering.FlowFacts.{FlowFacts, FirstMayBeMissing, OwnPicker, OwnStmt, OwnStmts, OwnArms, arm_count}
use Rattle.control_flow_theory.specs.lowering.Completes.{completes, cut, cuts, whole, wholes, size, sizes, skips, first_is_dead}
use Rattle.control_flow_theory.specs.lowering.Lower.{point, end_alone, with_first, push, loop_back_label, leaf, build, build_stmt, build_arms, depending, loop_start, Node, loop_nodes, nodes, nodes_in, nodes_of_arms, EscapeTargets, within_loop}
use Rattle.control_flow_theory.specs.lowering.WellFormed.{tree_count, IsFirstDead}
use Rattle.control_flow_theory.specs.rendering.Rendering.{Naming, count_arms}
use Rattle.control_flow_theory.specs.rendering.Procedures.{Writable}
use Rattle.control_flow_theory.specs.main_theorem.Chain.{PickServed, StmtServed, EndServed, TreesServed, TreeServed}
use Rattle.control_flow_theory.specs.expressible_graphs.Served.{PickerIsServed, ControlIsServed, StmtIsServed, StmtsAreServed, ArmsAreServed}
use Rattle.control_flow_theory.proofs.expressible_graphs_lemmas.Parts.{with_counters, own-act, own-test, cut-served}

module _ (naming : Naming) (kinds : Writable) (told : FlowFacts) (range : Range) (paragraphs : ℕ) (place_of : ℕ → ℕ) where
  abbrev lent : Writable
  lent = with_counters kinds

  abbrev pub IsFine : Tree → Type 0
  IsFine t = TreeServed naming lent [] range t

  abbrev pub IsEnd : End → Type 0
  IsEnd end = EndServed naming lent [] range end

  abbrev AreFine : Trees → Type 0
  AreFine ts = TreesServed naming lent [] range ts

  abbrev pub AllFine : List Node → Type 0
  AllFine [] = Unit {0}
  AllFine (x ∷ xs) = IsFine x.tree × AllFine xs

  pub all-append : (xs ys : List Node) → AllFine xs → AllFine ys → AllFine (xs ++ ys)
  all-append [] ys h k = k
  all-append (x ∷ xs) ys h k = (h.0, all-append xs ys h.1 k)

  pub leaf-fine : (ss : Stmts) (n : ℕ) (after : End) → IsEnd after → IsEnd (leaf told place_of ss n after)
  leaf-fine none n after w = w
  leaf-fine (also (language.Do act) ss) n after w =
      elim (skips told act) as (λ b. IsEnd (if b then leaf told place_of ss (n + 1) after else Jump (point n))) [ true ↦ leaf-fine ss (n + 1) after w | false ↦ tt ]
  leaf-fine (also (Choose picker arms) ss) n after w = tt
  leaf-fine (also (Loop control body) ss) n after w = tt
  leaf-fine (also (Perform e x) ss) n after w = tt
  leaf-fine (also (Go to) ss) n after w = tt
  leaf-fine (also (GoDepending to on) ss) n after w = tt
  leaf-fine (also NextSentence ss) n after w = tt
  leaf-fine (also ExitParagraph ss) n after w = tt
  leaf-fine (also (ExitSection last) ss) n after w = tt
  leaf-fine (also (ExitPerform cycle) ss) n after w = tt
  leaf-fine (also StopRun ss) n after w = tt

  first-fine : (s : Stmt) (t : Tree) → StmtServed naming lent [] range s → IsFine t → IsFine (with_first s t)
  first-fine s (tree body end) w f = ((w, f.0), f.1)

  push-fine : (s : Stmt) (t : Tree) → OwnStmt told paragraphs s → StmtIsServed naming kinds told range s → IsFine t → IsFine (push told place_of s t)
  push-fine s t own k f =
      let c = cut-served naming kinds told range paragraphs s own k in
      elim (completes told s) as (λ b. IsFine (if b then with_first (cut told s) t else tree (also (cut told s) none) Dead)) [
        | true ↦ first-fine (cut told s) t c f
        | false ↦ ((c, tt), tt)
      ]

  trees-more : (t : Tree) (ts : Trees) → IsFine t → AreFine ts → AreFine (more t ts)
  trees-more (tree body end) ts f g = (f.0, f.1, g)

  -- a choice has as many trees as arms, and a first one that is never given is Dead
  arms-count : (first : Bool) (arms : Arms) (n : ℕ) (leaving : EscapeTargets) (after : End) → tree_count (build_arms told place_of first arms n leaving after) ≡ count_arms arms
  arms-count first done n leaving after = refl
  arms-count first (given arm others) n leaving after = ap suc (arms-count false others (n + sizes arm) leaving after)
  arms-count first (missing others) n leaving after = ap suc (arms-count false others n leaving after)

  dead-first : (chooser : Chooser) (arms : Arms) (n : ℕ) (leaving : EscapeTargets) (after : End) → FirstMayBeMissing told (By chooser) arms → told.never_first chooser ≡ true →
      IsFirstDead (build_arms told place_of (told.never_first chooser) arms n leaving after)
  dead-first chooser done n leaving after first e = first e
  dead-first chooser (given arm others) n leaving after first e = absurd (first e)
  dead-first chooser (missing others) n leaving after first e = ap (λ b. end_alone (if b then Dead else after)) e

  pick-fine : (picker : Picker) (arms : Arms) (n : ℕ) (leaving : EscapeTargets) (after : End) → OwnPicker told picker (arm_count arms) → FirstMayBeMissing told picker arms →
      PickerIsServed naming kinds told range picker (count_arms arms) → PickServed naming lent [] range picker (build_arms told place_of (first_is_dead told picker) arms n leaving after)
  pick-fine (If test) arms n leaving after own first s = own-test naming kinds told range paragraphs test own.0 s
  pick-fine (By chooser) arms n leaving after own first s = λ news becomes.
      s news (becomes.as_many ∙ arms-count (told.never_first chooser) arms n leaving after) (λ e. becomes.dead (dead-first chooser arms n leaving after first e))
  pick-fine (ByCell cell) arms n leaving after own first s = absurd own

  depending-count : (to : List ℕ) (after : End) → tree_count (depending told place_of to after) ≡ suc (length to)
  depending-count [] after = refl
  depending-count (t ∷ ts) after = ap suc (depending-count ts after)

  depending-fine : (to : List ℕ) (after : End) → IsEnd after → AreFine (depending told place_of to after)
  depending-fine [] after w = (tt, w, tt)
  depending-fine (t ∷ ts) after w = (tt, tt, depending-fine ts after w)

  start-fine : (control : Control) (n : ℕ) → OwnControl control → ControlIsServed naming kinds told range control → IsFine (loop_start control n)
  start-fine (Times amount) n own s = (((refl, s), tt), tt)
  start-fine (Until after test) n own s = (tt, tt)
  start-fine (Varying after set step test) n own s = ((own-act naming kinds told range paragraphs set own.0 s.0, tt), tt)

  -- wherever what leaves goes on, that may be written
  abbrev pub LeavingFine : EscapeTargets → Type 0
  LeavingFine leaving = IsEnd leaving.sentence × IsEnd leaving.paragraph × ((last : ℕ) → IsEnd (leaving.section last)) × IsEnd leaving.loop × IsEnd leaving.cycle

  mutual
    build-stmt-fine : (s : Stmt) (n : ℕ) (leaving : EscapeTargets) (after : End) (behind : Tree) → OwnStmt told paragraphs s → StmtIsServed naming kinds told range s →
        LeavingFine leaving → IsEnd after → IsFine behind → IsFine (build_stmt told place_of s n leaving after behind)
    build-stmt-fine (language.Do act) n leaving after behind own c ws wa fb =
        elim (skips told act) as (λ b. IsFine (if b then behind else push told place_of (language.Do act) behind)) [ true ↦ fb | false ↦ push-fine (language.Do act) behind own c fb ]
    build-stmt-fine (Choose picker arms) n leaving after behind own c ws wa fb =
        let trees = build_arms told place_of (first_is_dead told picker) arms (n + 1) leaving after in
        elim (whole (cut told (Choose picker arms))) as (λ b. IsFine (if b then push told place_of (Choose picker arms) behind else end_alone (Pick picker trees))) [
          | true ↦ push-fine (Choose picker arms) behind own c fb
          | false ↦ (tt, (pick-fine picker arms (n + 1) leaving after own.0 own.2 c.0, arms-fine (first_is_dead told picker) arms (n + 1) leaving after own.1 c.1 ws wa))
        ]
    build-stmt-fine (Loop control (Nested body)) n leaving after behind own c ws wa fb =
        elim (wholes (cuts told body)) as (λ b. IsFine (if b then push told place_of (Loop control (Nested body)) behind else loop_start control n)) [
          | true ↦ push-fine (Loop control (Nested body)) behind own c fb
          | false ↦ start-fine control n own.0 c.0
        ]
    build-stmt-fine (Loop control (Performed e x)) n leaving after behind own c ws wa fb = push-fine (Loop control (Performed e x)) behind own c fb
    build-stmt-fine (Perform e x) n leaving after behind own c ws wa fb = push-fine (Perform e x) behind own c fb
    build-stmt-fine (Go to) n leaving after behind own c ws wa fb = (tt, tt)
    build-stmt-fine (GoDepending to on) n leaving after behind own c ws wa fb = (
      tt,
      (
        λ news becomes. c news (becomes.as_many ∙ depending-count to after) (λ e. absurd (let k : true ≡ false = sym e ∙ own.2 in cc)),
        depending-fine to after wa,
      ),
    )
    build-stmt-fine NextSentence n leaving after behind own c ws wa fb = (tt, ws.0)
    build-stmt-fine ExitParagraph n leaving after behind own c ws wa fb = (tt, ws.1)
    build-stmt-fine (ExitSection last) n leaving after behind own c ws wa fb = (tt, ws.2 last)
    build-stmt-fine (ExitPerform false) n leaving after behind own c ws wa fb = (tt, ws.3)
    build-stmt-fine (ExitPerform true) n leaving after behind own c ws wa fb = (tt, ws.4)
    build-stmt-fine StopRun n leaving after behind own c ws wa fb = (tt, tt)

    pub build-fine : (ss : Stmts) (n : ℕ) (leaving : EscapeTargets) (after : End) (behind : Tree) → OwnStmts told paragraphs ss → StmtsAreServed naming kinds told range ss →
        LeavingFine leaving → IsEnd after → IsFine behind → IsFine (build told place_of ss n leaving after behind)
    build-fine none n leaving after behind own c ws wa fb = fb
    build-fine (also s ss) n leaving after behind own c ws wa fb =
        build-stmt-fine s n leaving (leaf told place_of ss (n + size s) after) (build told place_of ss (n + size s) leaving after behind) own.0 c.0
        ws (leaf-fine ss (n + size s) after wa) (build-fine ss (n + size s) leaving after behind own.1 c.1 ws wa fb)

    arms-fine : (first : Bool) (arms : Arms) (n : ℕ) (leaving : EscapeTargets) (after : End) → OwnArms told paragraphs arms → ArmsAreServed naming kinds told range arms →
        LeavingFine leaving → IsEnd after → AreFine (build_arms told place_of first arms n leaving after)
    arms-fine first done n leaving after own c ws wa = tt
    arms-fine first (given arm others) n leaving after own c ws wa =
        trees-more (build told place_of arm n leaving after (end_alone after)) (build_arms told place_of false others (n + sizes arm) leaving after)
        (build-fine arm n leaving after (end_alone after) own.0 c.0 ws wa (tt, wa))
        (arms-fine false others (n + sizes arm) leaving after own.1 c.1 ws wa)
    arms-fine true (missing others) n leaving after own c ws wa = (tt, tt, arms-fine false others n leaving after own c ws wa)
    arms-fine false (missing others) n leaving after own c ws wa = (tt, wa, arms-fine false others n leaving after own c ws wa)

  loop-fine : (control : Control) (n : ℕ) (body : Tree) (after : End) → OwnControl control → ControlIsServed naming kinds told range control → IsFine body → IsEnd after → AllFine (loop_nodes control n body after)
  loop-fine (Times amount) n (tree stmts end) after own c f wa = ((tt, (refl, ((refl, f.0), f.1, (tt, wa, tt)))), tt)
  loop-fine (Until false test) n (tree stmts end) after own c f wa = ((tt, (own-test naming kinds told range paragraphs test own c, (tt, wa, (f.0, f.1, tt)))), tt)
  loop-fine (Until true test) n (tree stmts end) after own c f wa = (f, ((tt, (own-test naming kinds told range paragraphs test own c, (tt, wa, (tt, tt, tt)))), tt))
  loop-fine (Varying false set step test) n (tree stmts end) after own c f wa = (
    (tt, (own-test naming kinds told range paragraphs test own.2 c.2, (tt, wa, (f.0, f.1, tt)))),
    (((own-act naming kinds told range paragraphs step own.1 c.1, tt), tt), tt),
  )
  loop-fine (Varying true set step test) n (tree stmts end) after own c f wa =
      (f, ((tt, (own-test naming kinds told range paragraphs test own.2 c.2, (tt, wa, ((own-act naming kinds told range paragraphs step own.1 c.1, tt), tt, tt)))), tt))

  mutual
    nodes-in-fine : (s : Stmt) (n : ℕ) (leaving : EscapeTargets) (after : End) (behind : Tree) → OwnStmt told paragraphs s → StmtIsServed naming kinds told range s →
        LeavingFine leaving → IsEnd after → IsFine behind → AllFine (nodes_in told place_of s n leaving after behind)
    nodes-in-fine (language.Do act) n leaving after behind own c ws wa fb = tt
    nodes-in-fine (Choose picker arms) n leaving after behind own c ws wa fb = arms-nodes-fine arms (n + 1) leaving after behind own.1 c.1 ws wa fb
    nodes-in-fine (Loop control (Nested body)) n leaving after behind own c ws wa fb =
        let b1 = Jump (loop_back_label control n) in
        let in_body = within_loop leaving after b1 in
        let wl : LeavingFine in_body = (ws.0, ws.1, ws.2, wa, tt) in
        all-append (loop_nodes control n (build told place_of body (n + 1) in_body b1 (end_alone b1)) after) (nodes told place_of body (n + 1) in_body b1 (end_alone b1))
        (loop-fine control n (build told place_of body (n + 1) in_body b1 (end_alone b1)) after own.0 c.0 (build-fine body (n + 1) in_body b1 (end_alone b1) own.1 c.1 wl tt (tt, tt)) wa)
        (nodes-fine body (n + 1) in_body b1 (end_alone b1) own.1 c.1 wl tt (tt, tt))
    nodes-in-fine (Loop control (Performed e x)) n leaving after behind own c ws wa fb = tt
    nodes-in-fine (Perform e x) n leaving after behind own c ws wa fb = tt
    nodes-in-fine (Go to) n leaving after behind own c ws wa fb = tt
    nodes-in-fine (GoDepending to on) n leaving after behind own c ws wa fb = tt
    nodes-in-fine NextSentence n leaving after behind own c ws wa fb = tt
    nodes-in-fine ExitParagraph n leaving after behind own c ws wa fb = tt
    nodes-in-fine (ExitSection last) n leaving after behind own c ws wa fb = tt
    nodes-in-fine (ExitPerform cycle) n leaving after behind own c ws wa fb = tt
    nodes-in-fine StopRun n leaving after behind own c ws wa fb = tt

    pub nodes-fine : (ss : Stmts) (n : ℕ) (leaving : EscapeTargets) (after : End) (behind : Tree) → OwnStmts told paragraphs ss → StmtsAreServed naming kinds told range ss →
        LeavingFine leaving → IsEnd after → IsFine behind → AllFine (nodes told place_of ss n leaving after behind)
    nodes-fine none n leaving after behind own c ws wa fb = tt
    nodes-fine (also s ss) n leaving after behind own c ws wa fb =
        let lf = leaf told place_of ss (n + size s) after in
        let bt = build told place_of ss (n + size s) leaving after behind in
        let wl = leaf-fine ss (n + size s) after wa in
        let ft = build-fine ss (n + size s) leaving after behind own.1 c.1 ws wa fb in (
          build-stmt-fine s n leaving lf bt own.0 c.0 ws wl ft,
          all-append (nodes_in told place_of s n leaving lf bt) (nodes told place_of ss (n + size s) leaving after behind)
              (nodes-in-fine s n leaving lf bt own.0 c.0 ws wl ft) (nodes-fine ss (n + size s) leaving after behind own.1 c.1 ws wa fb),
        )

    arms-nodes-fine : (arms : Arms) (n : ℕ) (leaving : EscapeTargets) (after : End) (behind : Tree) → OwnArms told paragraphs arms → ArmsAreServed naming kinds told range arms →
        LeavingFine leaving → IsEnd after → IsFine behind → AllFine (nodes_of_arms told place_of arms n leaving after behind)
    arms-nodes-fine done n leaving after behind own c ws wa fb = tt
    arms-nodes-fine (given arm others) n leaving after behind own c ws wa fb =
        all-append (nodes told place_of arm n leaving after behind) (nodes_of_arms told place_of others (n + sizes arm) leaving after behind)
        (nodes-fine arm n leaving after behind own.0 c.0 ws wa fb) (arms-nodes-fine others (n + sizes arm) leaving after behind own.1 c.1 ws wa fb)
    arms-nodes-fine (missing others) n leaving after behind own c ws wa fb = arms-nodes-fine others n leaving after behind own c ws wa fb
