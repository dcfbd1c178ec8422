-- A walk depends on the program's memory and on the cells that its family has.
use Rattle.std.proofs.Common.{◌≡◌, ℕ, zero, suc, ◌+◌, ◌*◌, Bool, true, false, if◌then◌else◌, ◌==◌, List, [], ◌∷◌, ◌++◌, refl, ap, sym, ◌∙◌, subst}
use Rattle.control_flow_theory.specs.runs.Run.{Over, Covers}
use Rattle.control_flow_theory.specs.semantics.Outcome.{Trace, How, Normally, Abend, Stopped, Returned, Tried, Got, Ends}
use Rattle.control_flow_theory.specs.language.Language.{Act, Test, Control, Times, Until, Varying, Stmt, Choose, Loop, Perform, Go, GoDepending, NextSentence, ExitParagraph, ExitSection, ExitPerform, StopRun, Stmts, none, also, Arms, done, given, missing, Body, Nested, Performed, Range, Part, same_range}
use Rattle.control_flow_theory.specs.language.Language as language
use Rattle.control_flow_theory.specs.semantics.Doing.{Acting, Doing, Celled, own_is, put, celled}
use Rattle.control_flow_theory.specs.language.Items.{Turning, Counted, Tests, Steps, StepsAfter}
use Rattle.control_flow_theory.specs.semantics.Structural.{Outcome, Went, Stands}
use Rattle.control_flow_theory.specs.semantics.Structural as structural
use Rattle.control_flow_theory.specs.semantics.Graph.{Label, Tree, tree, End, Pick, Jump, Return, Stop, Dead, Trees, no_more, more, Family}
use Rattle.control_flow_theory.specs.graph_rules.Fits.{ActFits, TestFits, PickerFits, ControlFits, TurningFits, StmtFits, StmtsFit, ArmsFit, BodyFits, TreeFits, EndFits, TreesFit}
use Rattle.control_flow_theory.specs.graph_rules.Walked.{left_of, Walking, lost, stmt_walks, stmts_walk, arm_walks, body_walks, tree_walks, end_walks, trees_walk, node_walks, graph_walks, performed, run_of, walked, In, Ordered}
use Rattle.control_flow_theory.specs.graph_rules.Families as families
use Rattle.control_flow_theory.specs.graph_rules.Laws.{WalkSeesItsCells, KeptFromAgreeing}
use Rattle.control_flow_theory.proofs.graph_rules_lemmas.walks.Fitting.{tree-more}
use Rattle.control_flow_theory.proofs.graph_rules_lemmas.walks.Alike.{TriedAlike, act-alike, test-alike, pick-alike, count-alike}

module _ {Memory Left : Type 0} (acting : Acting Memory) (left : Memory → Left) (Has : Range → ℕ → Type 0) where
  -- memories that agree on what is had
  abbrev pub SameHad : Celled Memory → Celled Memory → Type 0
  SameHad s t = (s.own ≡ t.own) × ((r : Range) (c : ℕ) → Has r c → s.cells r c ≡ t.cells r c)

  abbrev whole : Celled Memory → Left
  whole = left_of acting left

  abbrev Result : Type 0
  Result = Outcome (Celled Memory) Left

  abbrev OutcomeAlike : Result → Result → Type 0
  OutcomeAlike (Went t m u) (Went s n v) = (t ≡ s) × SameHad m n × (u ≡ v)
  OutcomeAlike (Went t m u) (Stands s standing) = ⊥
  OutcomeAlike (Stands t standing) (Went s n v) = ⊥
  OutcomeAlike (Stands t standing) (Stands s other) = (t ≡ s) × (standing ≡ other)

  abbrev Alike : Walking acting left → Type 0
  Alike d = (s t : Celled Memory) (units : ℕ) → SameHad s t → OutcomeAlike (d s units) (d t units)

  agree-put : (r : Range) (c v : ℕ) (s t : Celled Memory) → SameHad s t → SameHad (put r c v s) (put r c v t)
  agree-put r c v s t a = (
    a.0,
    (λ x y had. elim (same_range x r) as (λ b. (if b then (if y == c then v else s.cells x y) else s.cells x y) ≡ (if b then (if y == c then v else t.cells x y) else t.cells x y)) [
      | true ↦ elim (y == c) as (λ b. (if b then v else s.cells x y) ≡ (if b then v else t.cells x y)) [ true ↦ refl | false ↦ a.1 x y had ]
      | false ↦ a.1 x y had
    ]),
  )

  module _ (r : Range) (perform : Range → Walking acting left) (Writes : ℕ → Type 0) where
    abbrev doing : Doing (Celled Memory)
    doing = celled acting r

    abbrev Calls : Range → Type 0
    Calls to = Alike (perform to)

    owns : (s t : Celled Memory) → SameHad s t → s.own ≡ t.own
    owns s t a = a.0

    turned : (s t : Celled Memory) (o : Memory) → SameHad s t → SameHad (own_is s o) (own_is t o)
    turned s t o a = (refl, a.1)

    reads : (c : ℕ) (s t : Celled Memory) → Has r c → SameHad s t → s.cells r c ≡ t.cells r c
    reads c s t had a = a.1 r c had

    puts : (c v : ℕ) (s t : Celled Memory) → Writes c → SameHad s t → SameHad (put r c v s) (put r c v t)
    puts c v s t w a = agree-put r c v s t a

    behind-alike : (shown other : Trace) (one two : Result) → shown ≡ other → OutcomeAlike one two → OutcomeAlike (structural.behind doing whole shown one) (structural.behind doing whole other two)
    behind-alike shown other (Went t m u) (Went s n v) e h = (ap (λ x. x ++ t) e ∙ ap (λ x. other ++ x) h.0, h.1, h.2)
    behind-alike shown other (Went t m u) (Stands s standing) e h = absurd h
    behind-alike shown other (Stands t standing) (Went s n v) e h = absurd h
    behind-alike shown other (Stands t standing) (Stands s stand) e h = (ap (λ x. x ++ t) e ∙ ap (λ x. other ++ x) h.0, h.1)

    then-alike : (one two : Result) (d : Walking acting left) → OutcomeAlike one two → Alike d → OutcomeAlike (structural.then_do doing whole one d) (structural.then_do doing whole two d)
    then-alike (Went t m u) (Went s n v) d h k = behind-alike t s (d m u) (d n v) h.0 (subst (λ x. OutcomeAlike (d m u) (d n x)) h.2 (k m n u h.1))
    then-alike (Went t m u) (Stands s standing) d h k = absurd h
    then-alike (Stands t standing) (Went s n v) d h k = absurd h
    then-alike (Stands t standing) (Stands s stand) d h k = h

    one-then-alike : (one two : Walking acting left) → Alike one → Alike two → Alike (structural.one_then doing whole one two)
    one-then-alike one two h k s t units a = then-alike (one s units) (one t units) two (h s t units a) k

    nothing-alike : Alike (structural.nothing doing whole)
    nothing-alike s t units a = (refl, a, refl)

    unit-alike : (d : Walking acting left) → Alike d → Alike (structural.unit_of doing whole d)
    unit-alike d h s t zero a = (refl, refl)
    unit-alike d h s t (suc units) a = h s t units a

    stops-alike : (how : How) → Alike (structural.stops doing whole how)
    stops-alike how s t units a = (refl, ap (λ o. Over (Stopped how (left o))) a.0)

    lost-alike : Alike (lost acting left)
    lost-alike s t units a = (refl, refl)

    gets-alike : {Value : Type 0} (one two : Tried (Celled Memory) Value) (go : Value → Walking acting left) (units : ℕ) → TriedAlike SameHad one two → ((v : Value) → Alike (go v)) → OutcomeAlike (structural.gets doing whole one go units) (structural.gets doing whole two go units)
    gets-alike (Got shown v m) (Got other w n) go units h k = behind-alike shown other (go v m units) (go w n units) h.0 (subst (λ x. OutcomeAlike (go v m units) (go x n units)) h.1 (k v m n units h.2))
    gets-alike (Got shown v m) (Ends other kind n) go units h k = absurd h
    gets-alike (Ends shown kind m) (Got other w n) go units h k = absurd h
    gets-alike (Ends shown kind m) (Ends other sort n) go units h k =
        behind-alike shown other (structural.stops doing whole (Abend kind) m units) (structural.stops doing whole (Abend sort) n units) h.0
        (refl, ap (λ x. Over (Stopped (Abend x) (left m.own))) h.1 ∙ ap (λ o. Over (Stopped (Abend sort) (left o))) h.2.0)

    acts-do : (act : Act) (go : Walking acting left) → ActFits Calls (Has r) Writes act → Alike go → Alike (structural.acts doing whole act go)
    acts-do act go fits h s t units a = gets-alike (doing.act act s) (doing.act act t) (λ u. go) units (act-alike SameHad acting r Calls (Has r) Writes owns turned reads puts act s t fits a) (λ u. h)

    round-alike : (ended : Bool) (d : Walking acting left) → Alike d → Alike (structural.goes_round doing whole ended d)
    round-alike true d h = nothing-alike
    round-alike false d h = unit-alike d h

    tests-do : (test : Test) (go : Bool → Walking acting left) → TestFits Calls (Has r) Writes test → ((ended : Bool) → Alike (go ended)) → (s t : Celled Memory) (units : ℕ) → SameHad s t → OutcomeAlike (structural.gets doing whole (doing.test test s) go units) (structural.gets doing whole (doing.test test t) go units)
    tests-do test go fits h s t units a = gets-alike (doing.test test s) (doing.test test t) go units (test-alike SameHad acting r Calls (Has r) Writes owns turned reads puts test s t fits a) h

    module _ (body : Walking acting left) (body_alike : Alike body) where
      turns-alike : (most : ℕ) (turning : Turning) → TurningFits Calls (Has r) Writes turning → Alike (structural.turns doing whole most turning body)
      turns-alike zero turning fits = λ s t units a. (refl, refl)
      turns-alike (suc most) (Counted zero) fits = nothing-alike
      turns-alike (suc most) (Counted (suc n)) fits =
          let more_turns = structural.turns doing whole most (Counted n) body in
          unit-alike (structural.one_then doing whole body more_turns) (one-then-alike body more_turns body_alike (turns-alike most (Counted n) tt))
      turns-alike (suc most) (Tests test) fits = λ s t units a.
          let on = structural.one_then doing whole body (structural.turns doing whole most (Tests test) body) in
          tests-do test (λ ended. structural.goes_round doing whole ended on) fits (λ ended. round-alike ended on (one-then-alike body (structural.turns doing whole most (Tests test) body) body_alike (turns-alike most (Tests test) fits))) s t units a
      turns-alike (suc most) (Steps false act test) fits = λ s t units a.
          let on = structural.one_then doing whole body (structural.turns doing whole most (Steps true act test) body) in
          tests-do test (λ ended. structural.goes_round doing whole ended on) fits.1 (λ ended. round-alike ended on (one-then-alike body (structural.turns doing whole most (Steps true act test) body) body_alike (turns-alike most (Steps true act test) fits))) s t units a
      turns-alike (suc most) (Steps true act test) fits =
          let on = structural.one_then doing whole body (structural.turns doing whole most (Steps true act test) body) in
          acts-do act (λ memory units. structural.gets doing whole (doing.test test memory) (λ ended. structural.goes_round doing whole ended on) units) fits.0
          (λ s t units a. tests-do test (λ ended. structural.goes_round doing whole ended on) fits.1 (λ ended. round-alike ended on (one-then-alike body (structural.turns doing whole most (Steps true act test) body) body_alike (turns-alike most (Steps true act test) fits))) s t units a)
      turns-alike (suc most) (StepsAfter act test) fits = λ s t units a.
          let on = structural.one_then doing whole body (structural.turns doing whole most (StepsAfter act test) body) in
          let all = one-then-alike body (structural.turns doing whole most (StepsAfter act test) body) body_alike (turns-alike most (StepsAfter act test) fits) in
          tests-do test (λ ended. structural.goes_round doing whole ended (structural.acts doing whole act on)) fits.1 (λ ended. round-alike ended (structural.acts doing whole act on) (acts-do act on fits.0 all)) s t units a

      all-alike : (turning : Turning) → TurningFits Calls (Has r) Writes turning → Alike (structural.all_turns doing whole turning body)
      all-alike turning fits s t units a = turns-alike (suc units) turning fits s t units a

      first-alike : (after : Bool) (turning : Turning) → TurningFits Calls (Has r) Writes turning → Alike (structural.first_turn doing whole after turning body)
      first-alike false turning fits = all-alike turning fits
      first-alike true turning fits = let all = structural.all_turns doing whole turning body in unit-alike (structural.one_then doing whole body all) (one-then-alike body all body_alike (all-alike turning fits))

      loop-alike : (control : Control) → ControlFits Calls (Has r) Writes control → Alike (structural.loop_does doing whole control body)
      loop-alike (Times amount) fits = λ s t units a.
          gets-alike (doing.count amount s) (doing.count amount t) (λ n. structural.all_turns doing whole (Counted n) body) units (count-alike SameHad acting r Calls (Has r) Writes owns turned reads puts amount s t a) (λ n. all-alike (Counted n) tt)
      loop-alike (Until after test) fits = λ s t units a. first-alike after (Tests test) fits s t units a
      loop-alike (Varying false set act test) fits = acts-do set (structural.first_turn doing whole false (Steps false act test) body) fits.0 (first-alike false (Steps false act test) (fits.1, fits.2))
      loop-alike (Varying true set act test) fits = acts-do set (structural.first_turn doing whole true (StepsAfter act test) body) fits.0 (first-alike true (StepsAfter act test) (fits.1, fits.2))

    given-alike : (arm : Stmts) (others : Arms) → Alike (stmts_walk acting left r perform arm) → ((k : ℕ) → Alike (arm_walks acting left r perform others k)) → (k : ℕ) → Alike (arm_walks acting left r perform (given arm others) k)
    given-alike arm others h g zero = h
    given-alike arm others h g (suc k) = g k

    missing-alike : (others : Arms) → ((k : ℕ) → Alike (arm_walks acting left r perform others k)) → (k : ℕ) → Alike (arm_walks acting left r perform (missing others) k)
    missing-alike others g zero = nothing-alike
    missing-alike others g (suc k) = g k

    pick-does : (picker : language.Picker) (go : ℕ → Walking acting left) → PickerFits Calls (Has r) Writes picker → ((k : ℕ) → Alike (go k)) → Alike (structural.unit_of doing whole (λ memory units. structural.gets doing whole (doing.pick picker memory) go units))
    pick-does picker go fits h =
        unit-alike (λ memory units. structural.gets doing whole (doing.pick picker memory) go units)
        (λ s t units a. gets-alike (doing.pick picker s) (doing.pick picker t) go units (pick-alike SameHad acting r Calls (Has r) Writes owns turned reads puts picker s t fits a) h)

    mutual
      stmt-alike : (stmt : Stmt) → StmtFits Calls (Has r) Writes stmt → Alike (stmt_walks acting left r perform stmt)
      stmt-alike (language.Do act) = λ fits. unit-alike (structural.acts doing whole act (structural.nothing doing whole)) (acts-do act (structural.nothing doing whole) fits nothing-alike)
      stmt-alike (Choose picker arms) = λ fits. pick-does picker (arm_walks acting left r perform arms) fits.0 (arms-alike arms fits.1)
      stmt-alike (Loop control body) = λ fits. unit-alike (structural.loop_does doing whole control (body_walks acting left r perform body)) (loop-alike (body_walks acting left r perform body) (body-alike body fits.1) control fits.0)
      stmt-alike (Perform entry exit) = λ fits. unit-alike (perform (Part entry exit)) fits
      stmt-alike (Go to) = λ fits. absurd fits
      stmt-alike (GoDepending to chooser) = λ fits. absurd fits
      stmt-alike NextSentence = λ fits. absurd fits
      stmt-alike ExitParagraph = λ fits. absurd fits
      stmt-alike (ExitSection last) = λ fits. absurd fits
      stmt-alike (ExitPerform cycle) = λ fits. absurd fits
      stmt-alike StopRun = λ fits. unit-alike (structural.stops doing whole Normally) (stops-alike Normally)

      stmts-alike : (stmts : Stmts) → StmtsFit Calls (Has r) Writes stmts → Alike (stmts_walk acting left r perform stmts)
      stmts-alike none = λ fits. nothing-alike
      stmts-alike (also stmt stmts) = λ fits. one-then-alike (stmt_walks acting left r perform stmt) (stmts_walk acting left r perform stmts) (stmt-alike stmt fits.0) (stmts-alike stmts fits.1)

      arms-alike : (arms : Arms) → ArmsFit Calls (Has r) Writes arms → (k : ℕ) → Alike (arm_walks acting left r perform arms k)
      arms-alike done = λ fits k. nothing-alike
      arms-alike (given arm others) = λ fits. given-alike arm others (stmts-alike arm fits.0) (arms-alike others fits.1)
      arms-alike (missing others) = λ fits. missing-alike others (arms-alike others fits)

      body-alike : (body : Body) → BodyFits Calls (Has r) Writes body → Alike (body_walks acting left r perform body)
      body-alike (Nested stmts) = λ fits. stmts-alike stmts fits
      body-alike (Performed entry exit) = λ fits. fits

    module _ (jump : Label → Walking acting left) (jump_alike : (l : Label) → Alike (jump l)) where
      some-alike : (first : Tree) (others : Trees) → Alike (tree_walks acting left r perform first jump) → ((k : ℕ) → Alike (trees_walk acting left r perform others jump k)) → (k : ℕ) → Alike (trees_walk acting left r perform (more first others) jump k)
      some-alike first others h g zero = h
      some-alike first others h g (suc k) = g k

      mutual
        tree-alike : (t : Tree) → TreeFits Calls (Has r) Writes t → Alike (tree_walks acting left r perform t jump)
        tree-alike (tree body end) = λ fits. one-then-alike (stmts_walk acting left r perform body) (end_walks acting left r perform end jump) (stmts-alike body fits.0) (end-alike end fits.1)

        end-alike : (end : End) → EndFits Calls (Has r) Writes end → Alike (end_walks acting left r perform end jump)
        end-alike (Pick picker arms) = λ fits. pick-does picker (trees_walk acting left r perform arms jump) fits.0 (trees-alike arms fits.1)
        end-alike (Jump to) = λ fits. unit-alike (jump to) (jump_alike to)
        end-alike Return = λ fits. nothing-alike
        end-alike Stop = λ fits. stops-alike Normally
        end-alike Dead = λ fits. lost-alike

        trees-alike : (arms : Trees) → TreesFit Calls (Has r) Writes arms → (k : ℕ) → Alike (trees_walk acting left r perform arms jump k)
        trees-alike no_more = λ fits k. lost-alike
        trees-alike (more first others) = λ fits. some-alike first others (tree-alike first fits.0) (trees-alike others fits.1)

    node-alike : (node : Label → Tree) → ((l : Label) → TreeFits Calls (Has r) Writes (node l)) → (most : ℕ) (l : Label) → Alike (node_walks acting left r perform node most l)
    node-alike node fits zero l s t units a = (refl, refl)
    node-alike node fits (suc most) l s t units a = tree-alike (node_walks acting left r perform node most) (node-alike node fits most) (node l) (fits l) s t units a

  performed-alike : (Writes : Range → ℕ → Type 0) (family : Family) (order : List Range) → Ordered Has Writes family order → (r : Range) → Alike (performed acting left family order r)
  performed-alike Writes family [] ordered r = λ s t units a. (refl, refl)
  performed-alike Writes family (first ∷ others) ordered r = λ s t units a.
      let perform = performed acting left family others in
      elim (same_range first r) as (λ b. OutcomeAlike ((if b then graph_walks acting left first perform (family.node first) (family.entry first) else perform r) s units) ((if b then graph_walks acting left first perform (family.node first) (family.entry first) else perform r) t units)) [
        | true ↦ node-alike first perform (Writes first) (family.node first)
            (λ l. tree-more (λ to. In to others) (λ to. Alike (perform to)) (Has first) (Has first) (Writes first) (Writes first) (λ to here. performed-alike Writes family others ordered.2 to) (λ c k. k) (λ c k. k) (family.node first l) (ordered.1 l)) (suc units) (family.entry first) s t units a
        | false ↦ performed-alike Writes family others ordered.2 r s t units a
      ]

  outcome-run : (family : Family) (one two : Result) → OutcomeAlike one two → run_of acting left family one ≡ run_of acting left family two
  outcome-run family (Went t m u) (Went s n v) h = ap (λ x. record { trace = x; standing = Over (Returned (left m.own)) }) h.0 ∙ ap (λ o. record { trace = s; standing = Over (Returned (left o)) }) h.1.0
  outcome-run family (Went t m u) (Stands s standing) h = absurd h
  outcome-run family (Stands t standing) (Went s n v) h = absurd h
  outcome-run family (Stands t standing) (Stands s other) h = ap (λ x. record { trace = x; standing = standing }) h.0 ∙ ap (λ x. record { trace = s; standing = x }) h.1

  -- walks from memories that agree on what the family has are the same
  pub walked-same : (Writes : Range → ℕ → Type 0) (family : Family) (order : List Range) → Ordered Has Writes family order → (r : Range) (s t : Celled Memory) (units : ℕ) → SameHad s t → walked acting left family order r s units ≡ walked acting left family order r t units
  walked-same Writes family order ordered r s t units a = outcome-run family (performed acting left family order r s units) (performed acting left family order r t units) (performed-alike Writes family order ordered r s t units a)

module _ {Memory Left : Type 0} where
  pub walk-sees : WalkSeesItsCells Memory Left
  walk-sees acting left kinds family order is range s t units same = walked-same acting left (families.Has kinds) (families.MaySet kinds) family order is range s t units same

  pub kept-from-agreeing : KeptFromAgreeing Memory Left
  kept-from-agreeing acting left kinds kinds2 g h order fg extends same range here s t agree m =
      let e = λ (n : ℕ). walk-sees acting left kinds g order fg range s t.memory n agree in
      let c = same.1 range here t m in (
        subst (λ x. Covers x (walked acting left h order range t.memory (8 * (m + 1)))) (sym (e m)) c.0,
        subst (Covers (walked acting left h order range t.memory m)) (sym (e (8 * (m + 1)))) c.1,
      )
