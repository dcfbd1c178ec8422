-- Statements of the tree, by what was built of their parts.
use Rattle.std.proofs.Common.{◌≡◌, ◌+◌, ◌<◌, ◌≤◌, ℕ, zero, suc, Bool, true, false, not, if◌then◌else◌, List, [], ◌∷◌, ◌++◌, map, length, Option, Some, None, slice_get, refl, ap, sym, ◌∙◌, subst, arith, IfOk, Result, is_some, take, drop, get_or, add-one, ◌-◌}
use Rattle.std.specs.Prelude.{◌&&◌}
use Rattle.std.proofs.lemmas.List.{map-append}
use Rattle.std.proofs.lemmas.Option.{slice_get_read}
use Rattle.cob_tree.specs.declared.program.Range.{Range}
use Rattle.cob_tree.specs.declared.calc.Calc.{Calc}
use Rattle.cob_tree.specs.declared.calc.Target.{Target}
use Rattle.cob_tree.specs.declared.choice.Subject.{Subject}
use Rattle.cob_tree.specs.declared.choice.Test.{Test}
use Rattle.cob_tree.specs.declared.cond.Cond.{Cond}
use Rattle.cob_tree.specs.declared.file.FileEntry.{FileEntry}
use Rattle.cob_tree.specs.declared.place.Place as places
use Rattle.cob_tree.specs.declared.stmt.Stmt as tree
use Rattle.cob_tree.specs.declared.stmt.When.{When, out-When}
use Rattle.control_flow_theory.specs.language.Language.{Act, Picker, By, If, Holds, Chooser, Evaluate, Read, Arith, Choose, Arms, done, given, Stmts, none, also, Stmt}
use Rattle.control_flow_theory.specs.language.Language as language
use Rattle.control_flow_theory.specs.language.Items.{Do}
use Rattle.control_flow_theory.specs.language.Control.{test_of, always, arith_of, arith_stmt, Both, both_arms, arm_before, else_of, Branch, branches_before, tests_of, picker_by, evaluate_of, cell_chosen, count_from, stmts_of, seen, seen_when, seen_stmts}
use Rattle.control_flow_theory.proofs.language_lemmas.Rows.{seen_if_any, seen_when_is}
use Rattle.control_flow_theory.specs.lowering.FlowFacts.{arm_count}
use Rattle.program_points.specs.paths.Step.{at, some_given, first_is_barred}
use Rattle.program_points.specs.declared.point_table.table.ProgramPoint.{ProgramPoint}
use Rattle.program_points.specs.declared.point_table.table.ProgramPoint.TheVariants.{Goes, Chooses}
use Rattle.program_points.specs.declared.numbering.build.Exits.{Exits}
use Rattle.program_points.specs.numbering.Kind.{is_silent, never_first_of}
use Rattle.program_points.specs.numbering.Build.{BuildsChoice, BuildsBoth, two_ways, barring, branches_of, no_arms, seen_maybe, seen_branches}
use Rattle.program_points.proofs.numbering_lemmas.Growing.{Built, Branched, build-none, branches-none, branches-more, moved, build-goes, if-added, if-ok, take-at, take-all}
use Rattle.program_points.proofs.numbering_lemmas.Steps.{build-act, build-choose}

-- each arm is a way, where one is given or there is but one
abbrev pub IsCounted : Arms → Type 0
IsCounted arms = (if some_given arms then arm_count arms else 1) ≡ arm_count arms

pub given-counted : (arms : Arms) → some_given arms ≡ true → IsCounted arms
given-counted arms e = ap (λ b. if b then arm_count arms else 1) e

two-barring : (flag : Bool) (a b : ℕ) → two_ways flag a b ≡ barring flag (Some a ∷ Some b ∷ [])
two-barring true a b = refl
two-barring false a b = refl

and-true : (b : Bool) → (b && true) ≡ b
and-true true = refl
and-true false = refl

and-false : (b : Bool) → (b && false) ≡ false
and-false true = refl
and-false false = refl

module _ (never_first : Chooser → Bool) (count number : ℕ) where
  abbrev B : List ProgramPoint → List ProgramPoint → List Range → List Range → Stmts → Exits → ℕ → Type 0
  B old new r0 r1 stmts exits begin = Built never_first count number old new r0 r1 stmts exits begin

  abbrev C : List ProgramPoint → List ProgramPoint → List Range → List Range → List Stmts → Bool → Exits → ℕ → Type 0
  C old new r0 r1 branches barred exits begin = BuildsChoice never_first count number old new r0 r1 branches barred exits begin

  pub recount : (c1 : ℕ) (old new : List ProgramPoint) (r0 r1 : List Range) (stmts : Stmts) (exits : Exits) (begin : ℕ) → c1 ≡ count → Built never_first c1 number old new r0 r1 stmts exits begin → B old new r0 r1 stmts exits begin
  recount c1 old new r0 r1 stmts exits begin e builds = subst (λ (n : ℕ). Built never_first n number old new r0 r1 stmts exits begin) e builds

  -- a choice that was added behind its branches
  pub choice-added : {E : Type 0} → (r : Result ℕ E) (old mid new : List ProgramPoint) (r0 r1 r2 : List Range) (branches : List Stmts) (barred : Bool) (exits : Exits) (ways told : List (Option ℕ)) → Branched never_first count number old mid r0 r1 branches exits ways →
      told ≡ barring barred ways → r2 ≡ r1 → IfOk r (λ n. (n ≡ length mid) × (new ≡ mid ++ Chooses told ∷ [])) → IfOk r (λ begin. C old new r0 r2 branches barred exits begin)
  choice-added r old mid new r0 r1 r2 branches barred exits ways told built is e h =
      if-ok r (λ n. (n ≡ length mid) × (new ≡ mid ++ Chooses told ∷ [])) (λ begin. C old new r0 r2 branches barred exits begin)
      (λ begin k. subst (λ (rs : List Range). C old new r0 rs branches barred exits begin) (sym e) (mid, ways, built, k.1 ∙ ap (λ (ws : List (Option ℕ)). mid ++ Chooses ws ∷ []) is, k.0)) h

  pub two-branched : (old p1 p2 : List ProgramPoint) (r0 r1 r2 : List Range) (first second : Stmts) (exits : Exits) (a b : ℕ) → B old p1 r0 r1 first exits a → B p1 p2 r1 r2 second exits b → Branched never_first count number old p2 r0 r2 (first ∷ second ∷ []) exits (Some a ∷ Some b ∷ [])
  two-branched old p1 p2 r0 r1 r2 first second exits a b built builds =
      branches-more never_first count number old p1 p2 r0 r1 r2 (first ∷ []) second exits b (Some a ∷ [])
      (branches-more never_first count number old old p1 r0 r0 r1 [] first exits a [] (branches-none never_first count number old r0 exits) built) builds

  pub two-added : {E : Type 0} → (r : Result ℕ E) (old p1 p2 new : List ProgramPoint) (r0 r1 r2 r3 : List Range) (first second : Stmts) (flag barred : Bool) (exits : Exits) (a b : ℕ) → B old p1 r0 r1 first exits a → B p1 p2 r1 r2 second exits b → flag ≡ barred → r3 ≡ r2 →
      IfOk r (λ n. (n ≡ length p2) × (new ≡ p2 ++ Chooses (two_ways flag a b) ∷ [])) → IfOk r (λ begin. C old new r0 r3 (first ∷ second ∷ []) barred exits begin)
  two-added r old p1 p2 new r0 r1 r2 r3 first second flag barred exits a b built builds same e h =
      choice-added r old p2 new r0 r2 r3 (first ∷ second ∷ []) barred exits (Some a ∷ Some b ∷ []) (two_ways flag a b) (two-branched old p1 p2 r0 r1 r2 first second exits a b built builds)
      (two-barring flag a b ∙ ap (λ f. barring f (Some a ∷ Some b ∷ [])) same) e h

  -- a statement that chooses among them
  pub choice-stmt : (old new : List ProgramPoint) (r0 r1 : List Range) (branches : List Stmts) (barred : Bool) (exits : Exits) (begin : ℕ) (s : Stmt) (picker : Picker) (arms : Arms) → s ≡ Choose picker arms → branches_of arms ≡ branches → IsCounted arms →
      first_is_barred never_first (Do (Choose picker arms)) ≡ barred → C old new r0 r1 branches barred exits begin → B old new r0 r1 (also s none) exits begin
  choice-stmt old new r0 r1 branches barred exits begin s picker arms e same some is c =
      let built = subst (λ (bs : List Stmts). Branched never_first count number old c.0 r0 r1 bs exits c.1) (sym same) c.2 in
      moved never_first count number old (c.0 ++ Chooses (barring barred c.1) ∷ []) new r0 r1 r1 (also s none) (also (Choose picker arms) none) exits (length c.0) begin c.3 refl c.4 (ap (λ (x : Stmt). also x none) e)
      (build-choose never_first count number old c.0 r0 r1 picker arms exits barred c.1 built some is)

  pub act-stmt : {E : Type 0} → (r : Result ℕ E) (old new : List ProgramPoint) (r0 r1 : List Range) (exits : Exits) (s : Stmt) (act : Act) → s ≡ language.Do act → r1 ≡ r0 → IfOk r (λ n. (n ≡ length old) × (new ≡ old ++ Goes exits.after ∷ [])) →
      IfOk r (λ begin. B old new r0 r1 (also s none) exits begin)
  act-stmt r old new r0 r1 exits s act e same h =
      if-added r old new (Goes exits.after) r0 r1 (λ ps rs n. B old ps r0 rs (also s none) exits n)
      (subst (λ (x : Stmt). B old (old ++ Goes exits.after ∷ []) r0 r0 (also x none) exits (length old)) (sym e) (build-act never_first count number old r0 act exits)) same h

  -- what was built of another statement that this one is
  pub same-stmt : {E : Type 0} → (r : Result ℕ E) (old new : List ProgramPoint) (r0 r1 : List Range) (exits : Exits) (s t : Stmt) → s ≡ t → IfOk r (λ begin. B old new r0 r1 (also t none) exits begin) → IfOk r (λ begin. B old new r0 r1 (also s none) exits begin)
  same-stmt r old new r0 r1 exits s t e h = if-ok r (λ begin. B old new r0 r1 (also t none) exits begin) (λ begin. B old new r0 r1 (also s none) exits begin) (λ begin b. subst (λ (x : Stmt). B old new r0 r1 (also x none) exits begin) (sym e) b) h

module _ (files : List FileEntry) (count number last : ℕ) where
  abbrev never : Chooser → Bool
  never chooser = never_first_of files chooser

  abbrev both : Option (List tree.Stmt) → Option (List tree.Stmt) → Both
  both first second = record { first = seen_if_any last first; second = seen_if_any last second }

  both-branches : (first second : Option (List tree.Stmt)) → branches_of (both_arms (both first second)) ≡ seen_maybe last first ∷ seen_maybe last second ∷ []
  both-branches None None = refl
  both-branches None (Some b) = refl
  both-branches (Some a) None = refl
  both-branches (Some a) (Some b) = refl

  both-given : (first second : Option (List tree.Stmt)) → no_arms first second ≡ false → some_given (both_arms (both first second)) ≡ true
  both-given None None e = absurd (let k : ⊥ = cc in k)
  both-given None (Some b) e = refl
  both-given (Some a) None e = refl
  both-given (Some a) (Some b) e = refl

  arith-acts : (calc : Calc) (into : List Target) (first second : Option (List tree.Stmt)) → no_arms first second ≡ true → arith_stmt calc into (both first second) ≡ language.Do (arith_of calc into)
  arith-acts calc into None None e = refl
  arith-acts calc into None (Some b) e = absurd (let k : ⊥ = cc in k)
  arith-acts calc into (Some a) None e = absurd (let k : ⊥ = cc in k)
  arith-acts calc into (Some a) (Some b) e = absurd (let k : ⊥ = cc in k)

  arith-chooses : (calc : Calc) (into : List Target) (first second : Option (List tree.Stmt)) → no_arms first second ≡ false → arith_stmt calc into (both first second) ≡ Choose (By (Arith calc into)) (both_arms (both first second))
  arith-chooses calc into None None e = absurd (let k : ⊥ = cc in k)
  arith-chooses calc into None (Some b) e = refl
  arith-chooses calc into (Some a) None e = refl
  arith-chooses calc into (Some a) (Some b) e = refl

  barred-arith : (calc : Calc) (into : List Target) (arms : Arms) → first_is_barred never (Do (Choose (By (Arith calc into)) arms)) ≡ false
  barred-arith calc into arms = elim (some_given arms) as (λ b. (if b then false else false) ≡ false) [ true ↦ refl | false ↦ refl ]

  pub arith-built : (old new : List ProgramPoint) (r0 r1 : List Range) (calc : Calc) (into : List Target) (first second : Option (List tree.Stmt)) (exits : Exits) (begin : ℕ) → BuildsBoth never count number old new r0 r1 last first second false exits begin →
      Built never count number old new r0 r1 (also (arith_stmt calc into (both first second)) none) exits begin
  arith-built old new r0 r1 calc into first second exits begin h =
      elim (no_arms first second) as (λ b. no_arms first second ≡ b → Built never count number old new r0 r1 (also (arith_stmt calc into (both first second)) none) exits begin) [
        | true ↦ λ e.
            let k = h.0 e in
            moved never count number old (old ++ Goes exits.after ∷ []) new r0 r0 r1 (also (arith_stmt calc into (both first second)) none) (also (language.Do (arith_of calc into)) none) exits (length old) begin k.1 k.2 k.0 (ap (λ (x : Stmt). also x none) (arith-acts calc into first second e))
            (build-act never count number old r0 (arith_of calc into) exits)
        | false ↦ λ e.
            choice-stmt never count number old new r0 r1 (seen_maybe last first ∷ seen_maybe last second ∷ []) false exits begin (arith_stmt calc into (both first second)) (By (Arith calc into)) (both_arms (both first second))
            (arith-chooses calc into first second e) (both-branches first second) (given-counted (both_arms (both first second)) (both-given first second e)) (barred-arith calc into (both_arms (both first second))) (h.1 e)
      ] refl

  abbrev Reading : ℕ → Option places.Place → Option (List tree.Stmt) → Option (List tree.Stmt) → Stmt
  Reading file into first second = Choose (By (Read file into (is_some (seen_if_any last first)))) (both_arms (both first second))

  read-barred : (file : ℕ) (into : Option places.Place) (first second : Option (List tree.Stmt)) → no_arms first second ≡ false →
      first_is_barred never (Do (Reading file into first second)) ≡ (is_silent files file && not (is_some first))
  read-barred file into None None e = absurd (let k : ⊥ = cc in k)
  read-barred file into None (Some b) e = sym (and-true (is_silent files file))
  read-barred file into (Some a) None e = sym (and-false (is_silent files file))
  read-barred file into (Some a) (Some b) e = sym (and-false (is_silent files file))

  read-next : (old new : List ProgramPoint) (r0 r1 : List Range) (file : ℕ) (into : Option places.Place) (first second : Option (List tree.Stmt)) (exits : Exits) (begin : ℕ) → no_arms first second ≡ true → (begin ≡ length old) × (new ≡ old ++ Goes exits.after ∷ []) × (r1 ≡ r0) →
      Built never count number old new r0 r1 (also (Reading file into first second) none) exits begin
  read-next old new r0 r1 file into None None exits begin e h =
      moved never count number old (old ++ Goes exits.after ∷ []) new r0 r0 r1 (also (Reading file into None None) none) (also (Reading file into None None) none) exits (length old) begin h.1 h.2 h.0 refl
      (build-goes never count number old r0 (Reading file into None None) exits exits.after (λ program rest. at number rest) (λ program points rest behind. (refl, behind.after)))
  read-next old new r0 r1 file into None (Some b) exits begin e h = absurd (let k : ⊥ = cc in k)
  read-next old new r0 r1 file into (Some a) None exits begin e h = absurd (let k : ⊥ = cc in k)
  read-next old new r0 r1 file into (Some a) (Some b) exits begin e h = absurd (let k : ⊥ = cc in k)

  pub read-built : (old new : List ProgramPoint) (r0 r1 : List Range) (file : ℕ) (into : Option places.Place) (first second : Option (List tree.Stmt)) (silent : Bool) (exits : Exits) (begin : ℕ) → silent ≡ is_silent files file → BuildsBoth never count number old new r0 r1 last first second silent exits begin →
      Built never count number old new r0 r1 (also (Reading file into first second) none) exits begin
  read-built old new r0 r1 file into first second silent exits begin is h =
      elim (no_arms first second) as (λ b. no_arms first second ≡ b → Built never count number old new r0 r1 (also (Reading file into first second) none) exits begin) [
        | true ↦ λ e. read-next old new r0 r1 file into first second exits begin e (h.0 e)
        | false ↦ λ e.
            choice-stmt never count number old new r0 r1 (seen_maybe last first ∷ seen_maybe last second ∷ []) (silent && not (is_some first)) exits begin (Reading file into first second) (By (Read file into (is_some (seen_if_any last first)))) (both_arms (both first second))
            refl (both-branches first second) (given-counted (both_arms (both first second)) (both-given first second e)) (read-barred file into first second e ∙ ap (λ s. s && not (is_some first)) (sym is)) (h.1 e)
      ] refl

  -- IF

  else-branches : (unmet : List Stmt) → branches_of (arm_before (else_of unmet) done) ≡ stmts_of unmet ∷ []
  else-branches [] = refl
  else-branches (s ∷ ss) = refl

  pub if-built : (old new : List ProgramPoint) (r0 r1 : List Range) (cond : Cond) (met unmet : List tree.Stmt) (exits : Exits) (begin : ℕ) → BuildsChoice never count number old new r0 r1 (seen_stmts last met ∷ seen_stmts last unmet ∷ []) false exits begin →
      Built never count number old new r0 r1 (also (Choose (If (test_of cond)) (given (seen_stmts last met) (arm_before (else_of (map (seen last) unmet)) done))) none) exits begin
  if-built old new r0 r1 cond met unmet exits begin h =
      choice-stmt never count number old new r0 r1 (seen_stmts last met ∷ seen_stmts last unmet ∷ []) false exits begin (Choose (If (test_of cond)) (given (seen_stmts last met) (arm_before (else_of (map (seen last) unmet)) done))) (If (test_of cond)) (given (seen_stmts last met) (arm_before (else_of (map (seen last) unmet)) done))
      refl (ap (λ bs. seen_stmts last met ∷ bs) (else-branches (map (seen last) unmet))) refl refl h

  -- EVALUATE

  when-branches : (branches : List Branch) (arms : Arms) → branches_of (branches_before branches arms) ≡ map (λ (b : Branch). b.arm) branches ++ branches_of arms
  when-branches [] arms = refl
  when-branches (b ∷ bs) arms = ap (λ xs. b.arm ∷ xs) (when-branches bs arms)

  whens-map : (whens : List When) → map (λ (b : Branch). b.arm) (map (seen_when last) whens) ≡ seen_branches last whens
  whens-map [] = refl
  whens-map (w ∷ ws) = ap (λ xs. (seen_when last w).arm ∷ xs) (whens-map ws)

  other-branches : (other : Option (List tree.Stmt)) → branches_of (arm_before (seen_if_any last other) done) ≡ seen_maybe last other ∷ []
  other-branches None = refl
  other-branches (Some ss) = refl

  evaluate-counted : (branches : List Branch) (other : Option (List tree.Stmt)) → IsCounted (branches_before branches (arm_before (seen_if_any last other) done))
  evaluate-counted [] None = refl
  evaluate-counted [] (Some ss) = refl
  evaluate-counted (b ∷ bs) other = refl

  evaluate-barred : (cell : Option ℕ) (counts : Bool) (subject : Subject) (tests : List (List Test)) (has_other : Bool) (arms : Arms) → first_is_barred never (Do (Choose (picker_by cell counts (Evaluate subject tests has_other)) arms)) ≡ false
  evaluate-barred (Some cell) true subject tests has_other arms = refl
  evaluate-barred (Some cell) false subject tests has_other arms = elim (some_given arms) as (λ b. (if b then false else false) ≡ false) [ true ↦ refl | false ↦ refl ]
  evaluate-barred None true subject tests has_other arms = elim (some_given arms) as (λ b. (if b then false else false) ≡ false) [ true ↦ refl | false ↦ refl ]
  evaluate-barred None false subject tests has_other arms = elim (some_given arms) as (λ b. (if b then false else false) ≡ false) [ true ↦ refl | false ↦ refl ]

  pub evaluate-built : (old new : List ProgramPoint) (r0 r1 : List Range) (subject : Subject) (whens : List When) (other : Option (List tree.Stmt)) (exits : Exits) (begin : ℕ) → BuildsChoice never count number old new r0 r1 (seen_branches last whens ++ seen_maybe last other ∷ []) false exits begin →
      Built never count number old new r0 r1 (also (Choose (evaluate_of subject (tests_of (map (seen_when last) whens)) (is_some other)) (branches_before (map (seen_when last) whens) (arm_before (seen_if_any last other) done))) none) exits begin
  evaluate-built old new r0 r1 subject whens other exits begin h =
      let tests = tests_of (map (seen_when last) whens) in
      let arms = branches_before (map (seen_when last) whens) (arm_before (seen_if_any last other) done) in
      let picker = evaluate_of subject tests (is_some other) in
      choice-stmt never count number old new r0 r1 (seen_branches last whens ++ seen_maybe last other ∷ []) false exits begin (Choose picker arms) picker arms
      refl (when-branches (map (seen_when last) whens) (arm_before (seen_if_any last other) done) ∙ ap (λ bs. bs ++ branches_of (arm_before (seen_if_any last other) done)) (whens-map whens) ∙ ap (λ bs. seen_branches last whens ++ bs) (other-branches other))
      (evaluate-counted (map (seen_when last) whens) other) (evaluate-barred (cell_chosen subject) (count_from 1 tests) subject tests (is_some other) arms) h

  -- an inline PERFORM without control
  pub once-built : (old new : List ProgramPoint) (r0 r1 : List Range) (body : Stmts) (exits : Exits) (begin : ℕ) → BuildsChoice never count number old new r0 r1 (body ∷ []) false exits begin → Built never count number old new r0 r1 (also (Choose (If (Holds always)) (given body done)) none) exits begin
  once-built old new r0 r1 body exits begin h =
      choice-stmt never count number old new r0 r1 (body ∷ []) false exits begin (Choose (If (Holds always)) (given body done)) (If (Holds always)) (given body done) refl refl refl refl h

  -- the two arms of a READ or of arithmetic

  abbrev W : List ProgramPoint → List ProgramPoint → List Range → List Range → Stmts → Exits → ℕ → Type 0
  W old new r0 r1 stmts exits begin = Built never count number old new r0 r1 stmts exits begin

  abbrev Both_ : List ProgramPoint → List ProgramPoint → List Range → List Range → Option (List tree.Stmt) → Option (List tree.Stmt) → Bool → Exits → ℕ → Type 0
  Both_ old new r0 r1 first second silent exits begin = BuildsBoth never count number old new r0 r1 last first second silent exits begin

  as-both : {E : Type 0} → (r : Result ℕ E) (old new : List ProgramPoint) (r0 r1 : List Range) (f s first second : Option (List tree.Stmt)) (silent : Bool) (exits : Exits) → first ≡ f → second ≡ s → no_arms f s ≡ false →
      IfOk r (λ begin. BuildsChoice never count number old new r0 r1 (seen_maybe last f ∷ seen_maybe last s ∷ []) (silent && not (is_some f)) exits begin) → IfOk r (λ begin. Both_ old new r0 r1 first second silent exits begin)
  as-both r old new r0 r1 f s first second silent exits e g some h =
      if-ok r (λ begin. BuildsChoice never count number old new r0 r1 (seen_maybe last f ∷ seen_maybe last s ∷ []) (silent && not (is_some f)) exits begin) (λ begin. Both_ old new r0 r1 first second silent exits begin)
      (λ begin c.
      subst (λ (x : Option (List tree.Stmt)). Both_ old new r0 r1 x second silent exits begin) (sym e)
      (subst (λ (x : Option (List tree.Stmt)). Both_ old new r0 r1 f x silent exits begin) (sym g)
      ((λ no. absurd (let clash : true ≡ false = sym no ∙ some in let k : ⊥ = cc in k)), (λ not_none. c)))) h

  pub both-second : {E : Type 0} → (r : Result ℕ E) (old p1 new : List ProgramPoint) (r0 r1 r2 : List Range) (first second : Option (List tree.Stmt)) (stmts : List tree.Stmt) (silent : Bool) (exits : Exits) (b : ℕ) → first ≡ None → second ≡ Some stmts → W old p1 r0 r1 (seen_stmts last stmts) exits b → r2 ≡ r1 →
      IfOk r (λ n. (n ≡ length p1) × (new ≡ p1 ++ Chooses (two_ways silent exits.after b) ∷ [])) → IfOk r (λ begin. Both_ old new r0 r2 first second silent exits begin)
  both-second r old p1 new r0 r1 r2 first second stmts silent exits b e g built same h =
      as-both r old new r0 r2 None (Some stmts) first second silent exits e g refl
      (two-added never count number r old old p1 new r0 r0 r1 r2 none (seen_stmts last stmts) silent (silent && true) exits exits.after b (build-none never count number old r0 exits) built (sym (and-true silent)) same h)

  pub both-first : {E : Type 0} → (r : Result ℕ E) (old p1 new : List ProgramPoint) (r0 r1 r2 : List Range) (first second : Option (List tree.Stmt)) (stmts : List tree.Stmt) (silent : Bool) (exits : Exits) (a : ℕ) → first ≡ Some stmts → second ≡ None → W old p1 r0 r1 (seen_stmts last stmts) exits a → r2 ≡ r1 →
      IfOk r (λ n. (n ≡ length p1) × (new ≡ p1 ++ Chooses (two_ways false a exits.after) ∷ [])) → IfOk r (λ begin. Both_ old new r0 r2 first second silent exits begin)
  both-first r old p1 new r0 r1 r2 first second stmts silent exits a e g built same h =
      as-both r old new r0 r2 (Some stmts) None first second silent exits e g refl
      (two-added never count number r old p1 p1 new r0 r1 r1 r2 (seen_stmts last stmts) none false (silent && false) exits a exits.after built (build-none never count number p1 r1 exits) (sym (and-false silent)) same h)

  pub both-both : {E : Type 0} → (r : Result ℕ E) (old p1 p2 new : List ProgramPoint) (r0 r1 r2 r3 : List Range) (first second : Option (List tree.Stmt)) (stmts others : List tree.Stmt) (silent : Bool) (exits : Exits) (a b : ℕ) → first ≡ Some stmts → second ≡ Some others → W old p1 r0 r1 (seen_stmts last stmts) exits a → W p1 p2 r1 r2 (seen_stmts last others) exits b → r3 ≡ r2 →
      IfOk r (λ n. (n ≡ length p2) × (new ≡ p2 ++ Chooses (two_ways false a b) ∷ [])) → IfOk r (λ begin. Both_ old new r0 r3 first second silent exits begin)
  both-both r old p1 p2 new r0 r1 r2 r3 first second stmts others silent exits a b e g built builds same h =
      as-both r old new r0 r3 (Some stmts) (Some others) first second silent exits e g refl
      (two-added never count number r old p1 p2 new r0 r1 r2 r3 (seen_stmts last stmts) (seen_stmts last others) false (silent && false) exits a b built builds (sym (and-false silent)) same h)

-- lists of the tree

pub drop-at : {A : Type 0} → (xs : List A) (index : ℕ) (x : A) → slice_get xs index ≡ Some x → drop index xs ≡ x ∷ drop (suc index) xs
drop-at [] index x e = absurd (let k : ⊥ = cc in k)
drop-at (y ∷ ys) zero x e = (let k : y ≡ x = cc in ap (λ z. z ∷ ys) k)
drop-at (y ∷ ys) (suc index) x e = drop-at ys index x e

pub stmts-past : (last : ℕ) (items : List tree.Stmt) (index : ℕ) → length items ≤ index → seen_stmts last (drop index items) ≡ none
stmts-past last [] zero le = refl
stmts-past last [] (suc index) le = refl
stmts-past last (stmt ∷ items) zero le = absurd (omega arith)
stmts-past last (stmt ∷ items) (suc index) le = stmts-past last items index (omega arith)

pub stmts-down : (last : ℕ) (items : List tree.Stmt) (at : ℕ) (stmt : tree.Stmt) → 0 < at → at ≤ length items → stmt ≡ get_or items (at - 1) stmt → seen_stmts last (drop (at - 1) items) ≡ also (seen last stmt) (seen_stmts last (drop at items))
stmts-down last items at stmt some within is =
    let lt : at - 1 < length items = omega arith in
    let up : suc (at - 1) ≡ at = omega arith in
    ap (λ ss. seen_stmts last ss) (drop-at items (at - 1) stmt (slice_get_read items (length items) (at - 1) stmt refl lt is))
    ∙ ap (λ n. also (seen last stmt) (seen_stmts last (drop n items))) up

pub stmts-whole : (last : ℕ) (items list : List tree.Stmt) (at : ℕ) → list ≡ items → at ≡ 0 → seen_stmts last (drop at list) ≡ seen_stmts last items
stmts-whole last items list at same none_left = ap (λ n. seen_stmts last (drop n list)) none_left ∙ ap (λ (xs : List tree.Stmt). seen_stmts last xs) same

pub whens-taken : (last : ℕ) (items : List When) (index : ℕ) (when : When) → index < length items → when ≡ get_or items index when →
    seen_branches last (take (index + 1) items) ≡ seen_branches last (take index items) ++ seen_stmts last (out-When when).stmts ∷ []
whens-taken last items index when lt is =
    ap (λ n. seen_branches last (take n items)) (add-one index)
    ∙ ap (λ (xs : List When). seen_branches last xs) (take-at items index when (slice_get_read items (length items) index when refl lt is))
    ∙ map-append (λ (w : When). (seen_when last w).arm) (take index items) (when ∷ [])
    ∙ ap (λ (b : Branch). map (λ (w : When). (seen_when last w).arm) (take index items) ++ b.arm ∷ []) (seen_when_is last when)

pub whens-all : (last : ℕ) (whens items : List When) (index : ℕ) → items ≡ whens → length items ≤ index → seen_branches last (take index items) ≡ seen_branches last whens
whens-all last whens items index same le = ap (λ (xs : List When). seen_branches last xs) (take-all items index le ∙ same)
