-- With more units a structured program shows more.
use Rattle.std.proofs.Common.{◌≡◌, ℕ, zero, suc, ◌+◌, ◌-◌, ◌<◌, ◌≤◌, Bool, true, false, if◌then◌else◌, ◌==◌, List, [], ◌∷◌, ◌++◌, refl, ap, sym, ◌∙◌, subst, append_assoc, arith}
use Rattle.control_flow_theory.specs.runs.Run.{Going, Over, Begins, Covers}
use Rattle.control_flow_theory.specs.runs.Tied.{Meaning, Steady}
use Rattle.control_flow_theory.proofs.runs_lemmas.Ties.{covers-refl, covers-trans, covers-is}
use Rattle.control_flow_theory.specs.semantics.Outcome.{Trace, How, Normally, Tried, Got, Ends}
use Rattle.control_flow_theory.specs.language.Language.{Act, Test, Control, Times, Until, Varying, Stmt, Do, Choose, Loop, Perform, Go, GoDepending, NextSentence, ExitParagraph, ExitSection, ExitPerform, StopRun, Stmts, none, also, Arms, done, given, missing, Body, Nested, Performed, Paragraph, Program}
use Rattle.control_flow_theory.specs.semantics.Doing.{Doing}
use Rattle.control_flow_theory.specs.language.Items.{Turning, Counted, Tests, Steps, StepsAfter}
use Rattle.control_flow_theory.specs.semantics.Structural.{Outcome, Went, Stands, nothing, meaningless, behind, then_do, one_then, unit_of, stops, gets, acts, goes_round, turns, all_turns, first_turn, varying, loop_does, Performing, stmt_does, stmts_do, arm_does, body_does, paragraph_does, performing, program_does, run_of, structural}

-- where one more shows more, many do
more-steady : {World Event End : Type 0} (a : Meaning World Event End) → ((w : World) (n : ℕ) → Covers (a w n) (a w (suc n))) → (w : World) (k n : ℕ) → Covers (a w n) (a w (k + n))
more-steady a next w zero n = let e : 0 + n ≡ n = omega arith in subst (λ m. Covers (a w n) (a w m)) (sym e) (covers-refl (a w n))
more-steady a next w (suc k) n =
    let e : suc k + n ≡ suc (k + n) = omega arith in
    subst (λ m. Covers (a w n) (a w m)) (sym e) (covers-trans (a w n) (a w (k + n)) (a w (suc (k + n))) (more-steady a next w k n) (next w (k + n)))

module _ {Memory Left : Type 0} (doing : Doing Memory) (left : Memory → Left) where
  abbrev Out : Type 0
  Out = Outcome Memory Left

  abbrev D : Type 0
  D = Memory → ℕ → Out

  abbrev shown_by : Out → Trace
  shown_by (Went trace memory units) = trace
  shown_by (Stands trace standing) = trace

  -- no more units are left than these
  abbrev Within : ℕ → Out → Type 0
  Within n (Went trace memory units) = units ≤ n
  Within n (Stands trace standing) = Unit {0}

  -- the second outcome is the first with one unit more
  abbrev More : Out → Out → Type 0
  More (Went trace memory units) more = more ≡ Went trace memory (suc units)
  More (Stands trace Going) more = Begins trace (shown_by more)
  More (Stands trace (Over ending)) more = more ≡ Stands trace (Over ending)

  -- it leaves no more units than it is given, and with one more it does more
  pub record GrowsInUnits (does : D) : Type 0 where
    pub bound : (memory : Memory) (n : ℕ) → Within n (does memory n)
    pub more : (memory : Memory) (n : ℕ) → More (does memory n) (does memory (suc n))

  within-up : (n : ℕ) (o : Out) → Within n o → Within (suc n) o
  within-up n (Went trace memory units) h = omega (arith, h)
  within-up n (Stands trace standing) h = tt

  within-below : (m n : ℕ) (o : Out) → m ≤ n → Within m o → Within n o
  within-below m n (Went trace memory units) le h = omega (arith, h, le)
  within-below m n (Stands trace standing) le h = tt

  within-behind : (shown : Trace) (n : ℕ) (o : Out) → Within n o → Within n (behind doing left shown o)
  within-behind shown n (Went trace memory units) h = h
  within-behind shown n (Stands trace standing) h = tt

  within-then : (n : ℕ) (a : Out) (b : D) → Within n a → ((memory : Memory) (l : ℕ) → l ≤ n → Within n (b memory l)) → Within n (then_do doing left a b)
  within-then n (Went trace memory units) b h g = within-behind trace n (b memory units) (g memory units h)
  within-then n (Stands trace standing) b h g = tt

  shown_by-behind : (shown : Trace) (o : Out) → shown_by (behind doing left shown o) ≡ shown ++ shown_by o
  shown_by-behind shown (Went trace memory units) = refl
  shown_by-behind shown (Stands trace standing) = refl

  more-behind : (shown : Trace) (o more : Out) → More o more → More (behind doing left shown o) (behind doing left shown more)
  more-behind shown (Went trace memory units) more h = ap (behind doing left shown) h
  more-behind shown (Stands trace Going) more h =
      (h.0, shown_by-behind shown more ∙ ap (λ t. shown ++ t) h.1 ∙ sym (append_assoc shown trace h.0))
  more-behind shown (Stands trace (Over ending)) more h = ap (behind doing left shown) h

  begins-then : (trace : Trace) (o : Out) (b : D) → Begins trace (shown_by o) → Begins trace (shown_by (then_do doing left o b))
  begins-then trace (Went shown memory units) b h =
      (h.0 ++ shown_by (b memory units), shown_by-behind shown (b memory units) ∙ ap (λ t. t ++ shown_by (b memory units)) h.1 ∙ append_assoc trace h.0 (shown_by (b memory units)))
  begins-then trace (Stands shown standing) b h = h

  more-then : (n : ℕ) (a more : Out) (b c : D) → More a more → Within n a → ((memory : Memory) (l : ℕ) → l ≤ n → More (b memory l) (c memory (suc l))) → More (then_do doing left a b) (then_do doing left more c)
  more-then n (Went trace memory units) more b c h k g =
      subst (λ o. More (behind doing left trace (b memory units)) (then_do doing left o c)) (sym h) (more-behind trace (b memory units) (c memory (suc units)) (g memory units k))
  more-then n (Stands trace Going) more b c h k g = begins-then trace more c h
  more-then n (Stands trace (Over ending)) more b c h k g = ap (λ o. then_do doing left o c) h

  nothing-grows : GrowsInUnits (nothing doing left)
  nothing-grows = record { bound = λ memory n. omega arith; more = λ memory n. refl }

  meaningless-grows : GrowsInUnits (meaningless doing left)
  meaningless-grows = record { bound = λ memory n. tt; more = λ memory n. ([], refl) }

  then-grows : (a b : D) → GrowsInUnits a → GrowsInUnits b → GrowsInUnits (one_then doing left a b)
  then-grows a b g h = record {
    bound = λ memory n. within-then n (a memory n) b (g.bound memory n) (λ w l le. within-below l n (b w l) le (h.bound w l));
    more = λ memory n. more-then n (a memory n) (a memory (suc n)) b b (g.more memory n) (g.bound memory n) (λ w l le. h.more w l);
  }

  unit_of-bound : (does : D) → GrowsInUnits does → (memory : Memory) (n : ℕ) → Within n (unit_of doing left does memory n)
  unit_of-bound does g memory zero = tt
  unit_of-bound does g memory (suc n) = within-up n (does memory n) (g.bound memory n)

  unit_of-more : (does : D) → GrowsInUnits does → (memory : Memory) (n : ℕ) → More (unit_of doing left does memory n) (unit_of doing left does memory (suc n))
  unit_of-more does g memory zero = (shown_by (does memory 0), refl)
  unit_of-more does g memory (suc n) = g.more memory n

  unit_of-grows : (does : D) → GrowsInUnits does → GrowsInUnits (unit_of doing left does)
  unit_of-grows does g = record { bound = unit_of-bound does g; more = unit_of-more does g }

  stops-grows : (how : How) → GrowsInUnits (stops doing left how)
  stops-grows how = record { bound = λ memory n. tt; more = λ memory n. refl }

  gets-bound : {Value : Type 0} (n m : ℕ) (t : Tried Memory Value) (go : Value → D) → ((v : Value) (memory : Memory) → Within n (go v memory m)) → Within n (gets doing left t go m)
  gets-bound n m (Got trace value memory) go h = within-behind trace n (go value memory m) (h value memory)
  gets-bound n m (Ends trace kind memory) go h = tt

  gets-more : {Value : Type 0} (m n : ℕ) (t : Tried Memory Value) (go go' : Value → D) → ((v : Value) (memory : Memory) → More (go v memory m) (go' v memory n)) → More (gets doing left t go m) (gets doing left t go' n)
  gets-more m n (Got trace value memory) go go' h = more-behind trace (go value memory m) (go' value memory n) (h value memory)
  gets-more m n (Ends trace kind memory) go go' h = refl

  gets-grows : {Value : Type 0} (tries : Memory → Tried Memory Value) (go : Value → D) → ((v : Value) → GrowsInUnits (go v)) → GrowsInUnits (λ memory units. gets doing left (tries memory) go units)
  gets-grows tries go h = record {
    bound = λ memory n. gets-bound n n (tries memory) go (λ v m. (h v).bound m n);
    more = λ memory n. gets-more n (suc n) (tries memory) go go (λ v m. (h v).more m n);
  }

  -- The turns of a loop: with one more that is allowed and one more unit they do more, while there are fewer units than turns allowed.

  -- with the first number of turns and n units, against one more of each
  pub record GrowsBelow (limit : ℕ) (does next : D) : Type 0 where
    pub bound : (memory : Memory) (n : ℕ) → n < limit → Within n (does memory n)
    pub more : (memory : Memory) (n : ℕ) → n < limit → More (does memory n) (next memory (suc n))

  below-same : (limit : ℕ) (does : D) → GrowsInUnits does → GrowsBelow limit does does
  below-same limit does g = record { bound = λ memory n lt. g.bound memory n; more = λ memory n lt. g.more memory n }

  below-then : (limit : ℕ) (body does next : D) → GrowsInUnits body → GrowsBelow limit does next → GrowsBelow limit (one_then doing left body does) (one_then doing left body next)
  below-then limit body does next g h = record {
    bound = λ memory n lt. within-then n (body memory n) does (g.bound memory n) (λ w l le. within-below l n (does w l) le (h.bound w l (omega (arith, le, lt))));
    more = λ memory n lt. more-then n (body memory n) (body memory (suc n)) does next (g.more memory n) (g.bound memory n) (λ w l le. h.more w l (omega (arith, le, lt)));
  }

  below-unit-bound : (limit : ℕ) (does next : D) → GrowsBelow limit does next → (memory : Memory) (n : ℕ) → n < suc limit → Within n (unit_of doing left does memory n)
  below-unit-bound limit does next h memory zero lt = tt
  below-unit-bound limit does next h memory (suc n) lt = within-up n (does memory n) (h.bound memory n (omega (arith, lt)))

  below-unit-more : (limit : ℕ) (does next : D) → GrowsBelow limit does next → (memory : Memory) (n : ℕ) → n < suc limit → More (unit_of doing left does memory n) (unit_of doing left next memory (suc n))
  below-unit-more limit does next h memory zero lt = (shown_by (next memory 0), refl)
  below-unit-more limit does next h memory (suc n) lt = h.more memory n (omega (arith, lt))

  below-unit : (limit : ℕ) (does next : D) → GrowsBelow limit does next → GrowsBelow (suc limit) (unit_of doing left does) (unit_of doing left next)
  below-unit limit does next h = record { bound = below-unit-bound limit does next h; more = below-unit-more limit does next h }

  below-gets : {Value : Type 0} (limit : ℕ) (tries : Memory → Tried Memory Value) (go next : Value → D) → ((v : Value) → GrowsBelow limit (go v) (next v)) →
      GrowsBelow limit (λ memory units. gets doing left (tries memory) go units) (λ memory units. gets doing left (tries memory) next units)
  below-gets limit tries go next h = record {
    bound = λ memory n lt. gets-bound n n (tries memory) go (λ v m. (h v).bound m n lt);
    more = λ memory n lt. gets-more n (suc n) (tries memory) go next (λ v m. (h v).more m n lt);
  }

  below-round : (limit : ℕ) (turn next : D) → GrowsBelow limit turn next → (ended : Bool) → GrowsBelow (suc limit) (goes_round doing left ended turn) (goes_round doing left ended next)
  below-round limit turn next h true = below-same (suc limit) (nothing doing left) nothing-grows
  below-round limit turn next h false = below-unit limit turn next h

  module _ (body : D) (g : GrowsInUnits body) where
    tested-grows : (most : ℕ) (step : Act) (test : Test) → GrowsBelow most (turns doing left most (Steps true step test) body) (turns doing left (suc most) (Steps true step test) body) →
        GrowsBelow (suc most) (λ memory units. gets doing left (doing.test test memory) (λ ended. goes_round doing left ended (one_then doing left body (turns doing left most (Steps true step test) body))) units)
        (λ memory units. gets doing left (doing.test test memory) (λ ended. goes_round doing left ended (one_then doing left body (turns doing left (suc most) (Steps true step test) body))) units)
    tested-grows most step test h =
        below-gets (suc most) (doing.test test)
        (λ ended. goes_round doing left ended (one_then doing left body (turns doing left most (Steps true step test) body)))
        (λ ended. goes_round doing left ended (one_then doing left body (turns doing left (suc most) (Steps true step test) body)))
        (below-round most (one_then doing left body (turns doing left most (Steps true step test) body)) (one_then doing left body (turns doing left (suc most) (Steps true step test) body))
        (below-then most body (turns doing left most (Steps true step test) body) (turns doing left (suc most) (Steps true step test) body) g h))

    turns-grow : (most : ℕ) (turning : Turning) → GrowsBelow most (turns doing left most turning body) (turns doing left (suc most) turning body)
    turns-grow zero turning = record { bound = λ memory n lt. absurd (omega (arith, lt)); more = λ memory n lt. absurd (omega (arith, lt)) }
    turns-grow (suc most) (Counted zero) = below-same (suc most) (nothing doing left) nothing-grows
    turns-grow (suc most) (Counted (suc n)) =
        below-unit most (one_then doing left body (turns doing left most (Counted n) body)) (one_then doing left body (turns doing left (suc most) (Counted n) body))
        (below-then most body (turns doing left most (Counted n) body) (turns doing left (suc most) (Counted n) body) g (turns-grow most (Counted n)))
    turns-grow (suc most) (Tests test) =
        below-gets (suc most) (doing.test test)
        (λ ended. goes_round doing left ended (one_then doing left body (turns doing left most (Tests test) body)))
        (λ ended. goes_round doing left ended (one_then doing left body (turns doing left (suc most) (Tests test) body)))
        (below-round most (one_then doing left body (turns doing left most (Tests test) body)) (one_then doing left body (turns doing left (suc most) (Tests test) body))
        (below-then most body (turns doing left most (Tests test) body) (turns doing left (suc most) (Tests test) body) g (turns-grow most (Tests test))))
    turns-grow (suc most) (Steps false step test) = tested-grows most step test (turns-grow most (Steps true step test))
    turns-grow (suc most) (Steps true step test) =
        below-gets (suc most) (doing.act step)
        (λ u memory units. gets doing left (doing.test test memory) (λ ended. goes_round doing left ended (one_then doing left body (turns doing left most (Steps true step test) body))) units)
        (λ u memory units. gets doing left (doing.test test memory) (λ ended. goes_round doing left ended (one_then doing left body (turns doing left (suc most) (Steps true step test) body))) units)
        (λ u. tested-grows most step test (turns-grow most (Steps true step test)))
    turns-grow (suc most) (StepsAfter step test) =
        below-gets (suc most) (doing.test test)
        (λ ended. goes_round doing left ended (acts doing left step (one_then doing left body (turns doing left most (StepsAfter step test) body))))
        (λ ended. goes_round doing left ended (acts doing left step (one_then doing left body (turns doing left (suc most) (StepsAfter step test) body))))
        (below-round most (acts doing left step (one_then doing left body (turns doing left most (StepsAfter step test) body))) (acts doing left step (one_then doing left body (turns doing left (suc most) (StepsAfter step test) body)))
        (below-gets most (doing.act step) (λ u. one_then doing left body (turns doing left most (StepsAfter step test) body)) (λ u. one_then doing left body (turns doing left (suc most) (StepsAfter step test) body))
        (λ u. below-then most body (turns doing left most (StepsAfter step test) body) (turns doing left (suc most) (StepsAfter step test) body) g (turns-grow most (StepsAfter step test)))))

    all_turns-grow : (turning : Turning) → GrowsInUnits (all_turns doing left turning body)
    all_turns-grow turning = record {
      bound = λ memory n. (turns-grow (suc n) turning).bound memory n (omega arith);
      more = λ memory n. (turns-grow (suc n) turning).more memory n (omega arith);
    }

    first_turn-grows : (after : Bool) (turning : Turning) → GrowsInUnits (first_turn doing left after turning body)
    first_turn-grows false turning = all_turns-grow turning
    first_turn-grows true turning =
        unit_of-grows (one_then doing left body (all_turns doing left turning body)) (then-grows body (all_turns doing left turning body) g (all_turns-grow turning))

    loop-grows : (control : Control) → GrowsInUnits (loop_does doing left control body)
    loop-grows (Times amount) = gets-grows (doing.count amount) (λ n. all_turns doing left (Counted n) body) (λ n. all_turns-grow (Counted n))
    loop-grows (Until after test) = first_turn-grows after (Tests test)
    loop-grows (Varying after set step test) =
        gets-grows (doing.act set) (λ u. first_turn doing left after (varying doing left after step test) body) (λ u. first_turn-grows after (varying doing left after step test))

  module _ (perform : Performing doing left) (performs : (number : ℕ) → GrowsInUnits (perform number)) where
    mutual
      stmt-grows : (stmt : Stmt) → GrowsInUnits (stmt_does doing left stmt perform)
      stmt-grows (Do act) = unit_of-grows (acts doing left act (nothing doing left)) (gets-grows (doing.act act) (λ u. nothing doing left) (λ u. nothing-grows))
      stmt-grows (Choose picker arms) =
          unit_of-grows (λ memory units. gets doing left (doing.pick picker memory) (arm_does doing left arms perform) units)
          (gets-grows (doing.pick picker) (arm_does doing left arms perform) (arms-grow arms))
      stmt-grows (Loop control body) = unit_of-grows (loop_does doing left control (body_does doing left body perform)) (loop-grows (body_does doing left body perform) (body-grows body) control)
      stmt-grows (Perform entry exit) = unit_of-grows (perform entry) (performs entry)
      stmt-grows (Go to) = meaningless-grows
      stmt-grows (GoDepending to chooser) = meaningless-grows
      stmt-grows NextSentence = meaningless-grows
      stmt-grows ExitParagraph = meaningless-grows
      stmt-grows (ExitSection last) = meaningless-grows
      stmt-grows (ExitPerform cycle) = meaningless-grows
      stmt-grows StopRun = unit_of-grows (stops doing left Normally) (stops-grows Normally)

      stmts-grow : (stmts : Stmts) → GrowsInUnits (stmts_do doing left stmts perform)
      stmts-grow none = nothing-grows
      stmts-grow (also stmt stmts) = then-grows (stmt_does doing left stmt perform) (stmts_do doing left stmts perform) (stmt-grows stmt) (stmts-grow stmts)

      arms-grow : (arms : Arms) (k : ℕ) → GrowsInUnits (arm_does doing left arms perform k)
      arms-grow done k = nothing-grows
      arms-grow (given arm others) zero = stmts-grow arm
      arms-grow (given arm others) (suc k) = arms-grow others k
      arms-grow (missing others) zero = nothing-grows
      arms-grow (missing others) (suc k) = arms-grow others k

      body-grows : (body : Body) → GrowsInUnits (body_does doing left body perform)
      body-grows (Nested stmts) = stmts-grow stmts
      body-grows (Performed entry exit) = performs entry

    paragraph-grows : (sentences : Paragraph) → GrowsInUnits (paragraph_does doing left sentences perform)
    paragraph-grows [] = nothing-grows
    paragraph-grows (sentence ∷ sentences) =
        then-grows (stmts_do doing left sentence perform) (paragraph_does doing left sentences perform) (stmts-grow sentence) (paragraph-grows sentences)

  performing-grows : (first : ℕ) (paragraphs : List Paragraph) (number : ℕ) → GrowsInUnits (performing doing left first paragraphs number)
  performing-grows first [] number = meaningless-grows
  performing-grows first (paragraph ∷ others) number =
      elim (number == first) as (λ t. GrowsInUnits (if t then paragraph_does doing left paragraph (performing doing left (suc first) others) else performing doing left (suc first) others number)) [
        | true ↦ paragraph-grows (performing doing left (suc first) others) (performing-grows (suc first) others) paragraph
        | false ↦ performing-grows (suc first) others number
      ]

  program-grows : (paragraphs : List Paragraph) → GrowsInUnits (program_does doing left paragraphs)
  program-grows [] = nothing-grows
  program-grows (paragraph ∷ others) = paragraph-grows (performing doing left 1 others) (performing-grows 1 others) paragraph

  run_of-shown : (o : Out) → (run_of doing left o).trace ≡ shown_by o
  run_of-shown (Went trace memory units) = refl
  run_of-shown (Stands trace standing) = refl

  more-covers : (o more : Out) → More o more → Covers (run_of doing left o) (run_of doing left more)
  more-covers (Went trace memory units) more h = covers-is (run_of doing left (Went trace memory units)) (run_of doing left more) (sym (ap (run_of doing left) h))
  more-covers (Stands trace Going) more h = record { shows = (h.0, run_of-shown more ∙ h.1); ends = λ over. absurd (over refl) }
  more-covers (Stands trace (Over ending)) more h = covers-is (run_of doing left (Stands trace (Over ending))) (run_of doing left more) (sym (ap (run_of doing left) h))

  pub structural-steady : (program : Program) → Steady (structural doing left program)
  structural-steady program w m n le =
      let next = λ (w : Memory) (n : ℕ). more-covers (program_does doing left program.paragraphs w n) (program_does doing left program.paragraphs w (suc n)) ((program-grows program.paragraphs).more w n) in
      let e : (n - m) + m ≡ n = omega arith in
      subst (λ k. Covers (structural doing left program w m) (structural doing left program w k)) e (more-steady (structural doing left program) next w (n - m) m)
