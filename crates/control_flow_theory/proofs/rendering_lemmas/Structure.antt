-- The program that is written of procedures is structured.
use Rattle.std.proofs.Common.{◌≡◌, ℕ, zero, suc, ◌+◌, ◌<◌, ◌≤◌, Bool, true, false, if◌then◌else◌, ◌==◌, List, [], ◌∷◌, length, Some, slice_get, map, refl, ap, sym, ◌∙◌, subst, arith, ◌⊎◌, inl, inr}
use Rattle.control_flow_theory.specs.language.Language.{Simple, If, By, ByCell, Stmt, Do, Choose, Loop, Perform, Go, GoDepending, NextSentence, ExitParagraph, ExitSection, ExitPerform, StopRun, Stmts, none, also, Arms, done, given, missing, Body, Nested, Performed, Paragraph, unless_absent, paragraph_at, Range, Main, Part, same_range}
use Rattle.control_flow_theory.specs.semantics.Graph.{Family}
use Rattle.control_flow_theory.specs.semantics.Graph as graph
use Rattle.control_flow_theory.specs.language.Structured.{StmtNests, StmtsNest, ArmsNest, BodyNests, NamesLater, ParagraphsNest, EndsInStop, FirstStops, stmt_performs, stmts_perform, arms_perform, body_performs, paragraph_performs, IsStructuredControl}
use Rattle.control_flow_theory.specs.rendering.Rendering.{Empty, Continues, Stays, Goes, Naming, Procedure, place_of, required, written_arm, and_missing, whole_arms, picker_lacks, then_stmts, closing, written_stmt, written_stmts, written_arms, written_body, written_paragraph, rendered}
use Rattle.control_flow_theory.specs.rendering.Procedures.{Writable, StmtStands, StmtsStand, StmtsLeft, ArmsStand, BodyStands, StmtChooses, BodyChooses, stmt_calls, stmts_call, arms_call, body_calls, FirstIsMain, AreProcedures}
use Rattle.control_flow_theory.proofs.semantics_agree_lemmas.Agreement.{same_number}
use Rattle.control_flow_theory.proofs.rendering_lemmas.Written.{same-range, map-get}

either : (a b : Bool) → (if a then true else b) ≡ true → (a ≡ true) ⊎ (b ≡ true)
either true b h = inl refl
either false b h = inr h

or-left : (a b : Bool) → a ≡ true → (if a then true else b) ≡ true
or-left true b h = refl
or-left false b h = absurd (let e : false ≡ true = h in cc)

or-right : (a b : Bool) → b ≡ true → (if a then true else b) ≡ true
or-right true b h = refl
or-right false b h = h

length-written : {A B : Type 0} (f : A → B) (xs : List A) → length (map f xs) ≡ length xs
length-written f [] = refl
length-written f (x ∷ xs) = ap suc (length-written f xs)

get-some : {A : Type 0} (xs : List A) (n : ℕ) → n < length xs → (x : A) × (slice_get xs n ≡ Some x)
get-some [] n lt = absurd (omega (arith, lt))
get-some (x ∷ xs) zero lt = (x, refl)
get-some {A = A} (x ∷ xs) (suc n) lt = get-some xs n (let e : length (x ∷ xs) ≡ suc (length xs) = refl in omega (arith, lt, e))

ends-then : (stmts : Stmts) → EndsInStop (then_stmts stmts (also StopRun none))
ends-then none = refl
ends-then (also stmt none) = refl
ends-then (also stmt (also next stmts)) = ends-then (also next stmts)

module _ (Such : ℕ → ℕ → Type 0) (nothing : Simple) where
  nests-required : (stmts : Stmts) → StmtsNest Such stmts → StmtsNest Such (required nothing stmts)
  nests-required none h = (tt, tt)
  nests-required (also stmt stmts) h = h

  nests-arm : (empty : Empty) (was_given : Bool) (stmts : Stmts) (others : Arms) → StmtsNest Such stmts → ArmsNest Such others → ArmsNest Such (written_arm nothing empty was_given stmts others)
  nests-arm empty was_given (also stmt stmts) others h g = (h, g)
  nests-arm Continues was_given none others h g = ((tt, tt), g)
  nests-arm Stays true none others h g = ((tt, tt), g)
  nests-arm Stays false none others h g = g
  nests-arm Goes was_given none others h g = g

  nests-missing : (arms : Arms) → ArmsNest Such arms → ArmsNest Such (and_missing arms)
  nests-missing done h = h
  nests-missing (given arm others) h = (h.0, nests-missing others h.1)
  nests-missing (missing others) h = nests-missing others h

  nests-whole : (lacks : Bool) (arms : Arms) → ArmsNest Such arms → ArmsNest Such (whole_arms lacks arms)
  nests-whole true arms h = nests-missing arms h
  nests-whole false arms h = h

  nests-then : (stmts more : Stmts) → StmtsNest Such stmts → StmtsNest Such more → StmtsNest Such (then_stmts stmts more)
  nests-then none more h g = g
  nests-then (also stmt stmts) more h g = (h.0, nests-then stmts more h.1 g)

performs-required : (number : ℕ) (nothing : Simple) (stmts : Stmts) → stmts_perform number stmts ≡ true → stmts_perform number (required nothing stmts) ≡ true
performs-required number nothing none h = absurd (let e : false ≡ true = h in cc)
performs-required number nothing (also stmt stmts) h = h

performs-then : (number : ℕ) (stmts more : Stmts) → stmts_perform number stmts ≡ true → stmts_perform number (then_stmts stmts more) ≡ true
performs-then number none more h = absurd (let e : false ≡ true = h in cc)
performs-then number (also stmt stmts) more h =
    elim (either (stmt_performs number stmt) (stmts_perform number stmts) h) [
      | inl e ↦ or-left (stmt_performs number stmt) (stmts_perform number (then_stmts stmts more)) e
      | inr e ↦ or-right (stmt_performs number stmt) (stmts_perform number (then_stmts stmts more)) (performs-then number stmts more e)
    ]

performs-arm : (number : ℕ) (nothing : Simple) (empty : Empty) (was_given : Bool) (stmts : Stmts) (others : Arms) → stmts_perform number stmts ≡ true → arms_perform number (written_arm nothing empty was_given stmts others) ≡ true
performs-arm number nothing empty was_given (also stmt stmts) others h = or-left (stmts_perform number (also stmt stmts)) (arms_perform number others) h
performs-arm number nothing empty was_given none others h = absurd (let e : false ≡ true = h in cc)

performs-others : (number : ℕ) (nothing : Simple) (empty : Empty) (was_given : Bool) (stmts : Stmts) (others : Arms) → arms_perform number others ≡ true → arms_perform number (written_arm nothing empty was_given stmts others) ≡ true
performs-others number nothing empty was_given (also stmt stmts) others h = or-right (stmts_perform number (also stmt stmts)) (arms_perform number others) h
performs-others number nothing Continues was_given none others h = h
performs-others number nothing Stays true none others h = h
performs-others number nothing Stays false none others h = h
performs-others number nothing Goes was_given none others h = h

performs-missing : (number : ℕ) (arms : Arms) → arms_perform number arms ≡ true → arms_perform number (and_missing arms) ≡ true
performs-missing number done h = h
performs-missing number (given arm others) h =
    elim (either (stmts_perform number arm) (arms_perform number others) h) [
      | inl e ↦ or-left (stmts_perform number arm) (arms_perform number (and_missing others)) e
      | inr e ↦ or-right (stmts_perform number arm) (arms_perform number (and_missing others)) (performs-missing number others e)
    ]
performs-missing number (missing others) h = performs-missing number others h

performs-whole : (number : ℕ) (lacks : Bool) (arms : Arms) → arms_perform number arms ≡ true → arms_perform number (whole_arms lacks arms) ≡ true
performs-whole number true arms h = performs-missing number arms h
performs-whole number false arms h = h

module _ (naming : Naming) (kinds : Writable) (procedures : List Procedure) (range : Range) where
  abbrev place : Range → ℕ
  place = place_of procedures

  abbrev Later : ℕ → ℕ → Type 0
  Later = NamesLater (length procedures) (place range)

  mutual
    stmt-nests : (stmt : Stmt) → StmtStands naming kinds procedures range stmt → StmtNests Later (written_stmt naming place range stmt)
    stmt-nests (Do act) = λ h. tt
    stmt-nests (Choose picker arms) = λ h.
        nests-whole Later naming.nothing (picker_lacks naming place range picker) (written_arms naming place range (naming.empty range picker) 0 arms) (arms-nest (naming.empty range picker) 0 arms h.1)
    stmt-nests (Loop control body) = λ h. elim h.1 [ inl s ↦ body-nests body s | inr c ↦ choosing-nests c.0 body c.2 ]
    stmt-nests (Perform entry exit) = λ h. (refl, h.0, h.1)
    stmt-nests (Go to) = λ h. h
    stmt-nests (GoDepending to chooser) = λ h. h
    stmt-nests NextSentence = λ h. h
    stmt-nests ExitParagraph = λ h. h
    stmt-nests (ExitSection last) = λ h. h
    stmt-nests (ExitPerform cycle) = λ h. h
    stmt-nests StopRun = λ h. tt

    stmts-nest : (stmts : Stmts) → StmtsStand naming kinds procedures range stmts → StmtsNest Later (written_stmts naming place range stmts)
    stmts-nest none = λ h. tt
    stmts-nest (also stmt stmts) = λ h. (stmt-nests stmt h.0, elim h.1 [ inl s ↦ stmts-nest stmts s | inr l ↦ left-nests stmts stmt l ])

    left-nests : (stmts : Stmts) (stmt : Stmt) → StmtsLeft naming kinds procedures range stmts stmt → StmtsNest Later (written_stmts naming place range stmts)
    left-nests none stmt = λ h. absurd h
    left-nests (also next stmts) stmt = λ h. (chosen-nests h.0 next h.2, stmts-nest stmts h.3)

    arms-nest : (empty : ℕ → Empty) (first : ℕ) (arms : Arms) → ArmsStand naming kinds procedures range arms → ArmsNest Later (written_arms naming place range empty first arms)
    arms-nest empty first done = λ h. tt
    arms-nest empty first (given arm others) = λ h.
        nests-arm Later naming.nothing (empty first) true (written_stmts naming place range arm) (written_arms naming place range empty (suc first) others) (stmts-nest arm h.0) (arms-nest empty (suc first) others h.1)
    arms-nest empty first (missing others) = λ h.
        nests-arm Later naming.nothing (empty first) false none (written_arms naming place range empty (suc first) others) tt (arms-nest empty (suc first) others h)

    body-nests : (body : Body) → BodyStands naming kinds procedures range body → BodyNests Later (written_body naming place range body)
    body-nests (Nested stmts) = λ h. nests-required Later naming.nothing (written_stmts naming place range stmts) (stmts-nest stmts h)
    body-nests (Performed entry exit) = λ h. (refl, h.0, h.1)

    chosen-nests : (cell : ℕ) (stmt : Stmt) → StmtChooses naming kinds procedures range cell stmt → StmtNests Later (written_stmt naming place range stmt)
    chosen-nests cell (Choose (ByCell by) arms) = λ h.
        nests-whole Later naming.nothing (naming.lacks_other range by) (written_arms naming place range (naming.empty range (ByCell by)) 0 arms) (arms-nest (naming.empty range (ByCell by)) 0 arms h.2)
    chosen-nests cell (Choose (If test) arms) = λ h. absurd h
    chosen-nests cell (Choose (By chooser) arms) = λ h. absurd h
    chosen-nests cell (Do act) = λ h. absurd h
    chosen-nests cell (Loop control body) = λ h. absurd h
    chosen-nests cell (Perform entry exit) = λ h. absurd h
    chosen-nests cell (Go to) = λ h. absurd h
    chosen-nests cell (GoDepending to chooser) = λ h. absurd h
    chosen-nests cell NextSentence = λ h. absurd h
    chosen-nests cell ExitParagraph = λ h. absurd h
    chosen-nests cell (ExitSection last) = λ h. absurd h
    chosen-nests cell (ExitPerform cycle) = λ h. absurd h
    chosen-nests cell StopRun = λ h. absurd h

    choosing-nests : (cell : ℕ) (body : Body) → BodyChooses naming kinds procedures range cell body → BodyNests Later (written_body naming place range body)
    choosing-nests cell (Nested none) = λ h. absurd h
    choosing-nests cell (Nested (also stmt none)) = λ h. (chosen-nests cell stmt h, tt)
    choosing-nests cell (Nested (also stmt (also next stmts))) = λ h. absurd h
    choosing-nests cell (Performed entry exit) = λ h. absurd h

  calls-place : (entry exit : ℕ) (to : Range) → same_range (Part entry exit) to ≡ true → (place (Part entry exit) == place to) ≡ true
  calls-place entry exit to h = subst (λ r. (place (Part entry exit) == place r) ≡ true) (same-range (Part entry exit) to h) (same_number (place (Part entry exit)))

  mutual
    stmt-performs : (to : Range) (stmt : Stmt) → stmt_calls to stmt ≡ true → stmt_performs (place to) (written_stmt naming place range stmt) ≡ true
    stmt-performs to (Do act) = λ h. h
    stmt-performs to (Choose picker arms) = λ h.
        performs-whole (place to) (picker_lacks naming place range picker) (written_arms naming place range (naming.empty range picker) 0 arms) (arms-perform to (naming.empty range picker) 0 arms h)
    stmt-performs to (Loop control body) = λ h. body-performs to body h
    stmt-performs to (Perform entry exit) = λ h. calls-place entry exit to h
    stmt-performs to (Go at) = λ h. h
    stmt-performs to (GoDepending at chooser) = λ h. h
    stmt-performs to NextSentence = λ h. h
    stmt-performs to ExitParagraph = λ h. h
    stmt-performs to (ExitSection last) = λ h. h
    stmt-performs to (ExitPerform cycle) = λ h. h
    stmt-performs to StopRun = λ h. h

    stmts-perform : (to : Range) (stmts : Stmts) → stmts_call to stmts ≡ true → stmts_perform (place to) (written_stmts naming place range stmts) ≡ true
    stmts-perform to none = λ h. h
    stmts-perform to (also stmt stmts) = λ h.
        elim (either (stmt_calls to stmt) (stmts_call to stmts) h) [
          | inl e ↦ or-left (stmt_performs (place to) (written_stmt naming place range stmt)) (stmts_perform (place to) (written_stmts naming place range stmts)) (stmt-performs to stmt e)
          | inr e ↦ or-right (stmt_performs (place to) (written_stmt naming place range stmt)) (stmts_perform (place to) (written_stmts naming place range stmts)) (stmts-perform to stmts e)
        ]

    arms-perform : (to : Range) (empty : ℕ → Empty) (first : ℕ) (arms : Arms) → arms_call to arms ≡ true → arms_perform (place to) (written_arms naming place range empty first arms) ≡ true
    arms-perform to empty first done = λ h. h
    arms-perform to empty first (given arm others) = λ h.
        elim (either (stmts_call to arm) (arms_call to others) h) [
          | inl e ↦ performs-arm (place to) naming.nothing (empty first) true (written_stmts naming place range arm) (written_arms naming place range empty (suc first) others) (stmts-perform to arm e)
          | inr e ↦ performs-others (place to) naming.nothing (empty first) true (written_stmts naming place range arm) (written_arms naming place range empty (suc first) others) (arms-perform to empty (suc first) others e)
        ]
    arms-perform to empty first (missing others) = λ h.
        performs-others (place to) naming.nothing (empty first) false none (written_arms naming place range empty (suc first) others) (arms-perform to empty (suc first) others h)

    body-performs : (to : Range) (body : Body) → body_calls to body ≡ true → body_performs (place to) (written_body naming place range body) ≡ true
    body-performs to (Nested stmts) = λ h. performs-required (place to) naming.nothing (written_stmts naming place range stmts) (stmts-perform to stmts h)
    body-performs to (Performed entry exit) = λ h. calls-place entry exit to h

module _ (naming : Naming) (kinds : Writable) (family : Family) (procedures : List Procedure) (are : AreProcedures family naming kinds procedures) where
  abbrev write : Procedure → Paragraph
  write = written_paragraph naming (place_of procedures)

  closing-nests : (Such : ℕ → ℕ → Type 0) (procedure : Procedure) → StmtsNest Such (closing procedure.range procedure.end)
  closing-nests Such procedure = by_range procedure.range procedure.end
    where
      by_range : (range : Range) (end : graph.End) → StmtsNest Such (closing range end)
      by_range Main end = (tt, tt)
      by_range (Part entry exit) graph.Stop = (tt, tt)
      by_range (Part entry exit) (graph.Pick picker arms) = tt
      by_range (Part entry exit) (graph.Jump to) = tt
      by_range (Part entry exit) graph.Return = tt
      by_range (Part entry exit) graph.Dead = tt

  paragraphs-nest : (first : ℕ) (others : List Procedure) → ((i : ℕ) → slice_get procedures (first + i) ≡ slice_get others i) → ParagraphsNest (length procedures) first (map write others)
  paragraphs-nest first [] stands = tt
  paragraphs-nest first (procedure ∷ others) stands =
      let e : first ≡ first + 0 = omega arith in
      let is : slice_get procedures first ≡ Some procedure = ap (slice_get procedures) e ∙ stands 0 in
      let here = subst (λ n. StmtsNest (NamesLater (length procedures) n) (written_stmts naming (place_of procedures) procedure.range procedure.body)) (are.alone first procedure is)
      (stmts-nest naming kinds procedures procedure.range procedure.body (are.stands first procedure is)) in
      let Such = NamesLater (length procedures) first in (
        nests-required Such naming.nothing (then_stmts (written_stmts naming (place_of procedures) procedure.range procedure.body) (closing procedure.range procedure.end))
            (nests-then Such naming.nothing (written_stmts naming (place_of procedures) procedure.range procedure.body) (closing procedure.range procedure.end) here (closing-nests Such procedure)),
        paragraphs-nest (suc first) others (λ i. (let n : suc first + i ≡ first + suc i = omega arith in ap (slice_get procedures) n ∙ stands (suc i))),
      )

  first-stops : (all : List Procedure) → FirstIsMain all → FirstStops (map write all)
  first-stops [] main = absurd main
  first-stops (procedure ∷ others) main =
      let body = written_stmts naming (place_of procedures) procedure.range procedure.body in
      subst (λ r. EndsInStop (required naming.nothing (then_stmts body (closing r procedure.end)))) (sym main) (required-ends (then_stmts body (also StopRun none)) (ends-then body))
    where
      required-ends : (stmts : Stmts) → EndsInStop stmts → EndsInStop (required naming.nothing stmts)
      required-ends none h = absurd h
      required-ends (also stmt stmts) h = h

  is-performed : (number : ℕ) → 1 ≤ number → number < length procedures → (from : ℕ) × (from < number) × (paragraph_performs number (paragraph_at (rendered naming procedures) from) ≡ true)
  is-performed number le lt =
      let p = get-some procedures number lt in
      let call = are.performed number p.0 p.1 le in
      let caller = call.1 in
      let body = written_stmts naming (place_of procedures) caller.range caller.body in
      let own : stmts_perform number body ≡ true =
      subst (λ n. stmts_perform n body ≡ true) (are.alone number p.0 p.1) (stmts-perform naming kinds procedures caller.range p.0.range caller.body call.4) in
      let sentence = required naming.nothing (then_stmts body (closing caller.range caller.end)) in
      let all : stmts_perform number sentence ≡ true =
      performs-required number naming.nothing (then_stmts body (closing caller.range caller.end)) (performs-then number body (closing caller.range caller.end) own) in (
        call.0,
        call.2,
        ap (λ o. paragraph_performs number (unless_absent o)) (map-get write procedures call.0 caller call.3) ∙ or-left (stmts_perform number sentence) false all,
      )

  pub rendered-structured : IsStructuredControl (rendered naming procedures)
  rendered-structured =
      let same = length-written write procedures in
      record {
        nests = subst (λ n. ParagraphsNest n 0 (map write procedures)) (sym same) (paragraphs-nest 0 procedures (λ i. (let e : 0 + i ≡ i = omega arith in ap (slice_get procedures) e)));
        stops = first-stops procedures are.main;
        performed = λ number le lt. is-performed number le (omega (arith, lt, same));
      }
