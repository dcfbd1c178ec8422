-- What is faulty here is faulty in the theory: some ways lead along each flow path.
use Rattle.std.proofs.Common.{◌≡◌, ℕ, suc, ◌+◌, Bool, true, false, if◌then◌else◌, nat_eq, List, [], ◌∷◌, ◌++◌, Some, None, refl, ap, sym, ◌∙◌, subst, append_assoc, eq-eqb, ◌⊎◌, inl, inr}
use Rattle.std.specs.Prelude.{slice_get, length}
use Rattle.control_flow_theory.specs.runs.Run.{Over}
use Rattle.control_flow_theory.specs.runs.Machine.{iterate}
use Rattle.control_flow_theory.proofs.runs_lemmas.Machines.{iterate-add}
use Rattle.control_flow_theory.specs.semantics.Outcome.{Faulted}
use Rattle.control_flow_theory.specs.semantics.Outcome as outcome
use Rattle.control_flow_theory.specs.language.Language.{Paragraph, Program, Perform, paragraph_at}
use Rattle.control_flow_theory.specs.language.Items.{Item, Do, ends_at}
use Rattle.control_flow_theory.specs.language.Items as language
use Rattle.control_flow_theory.specs.semantics.Source.{rest_of, comes_to, source_step}
use Rattle.control_flow_theory.specs.semantics.Source as machine
use Rattle.control_flow_theory.specs.lowering.FlowFacts.{FlowFacts, IsSource}
use Rattle.control_flow_theory.specs.lowering.flow.Paths.{Flow, free, nothing_left}
use Rattle.control_flow_theory.specs.lowering.flow.Paths as theory
use Rattle.cob_tree.specs.declared.ending.FlowFault.{FlowFault}
use Rattle.cob_tree.specs.declared.ending.FlowFault.TheVariants.{Overlap, Reentry}
use Rattle.program_points.specs.paths.Step.{Point, Next, Ways, Calls, Stops, Ends, next, way_at}
use Rattle.program_points.specs.paths.Flow.{main_range, is_exit, Pending, top_exit, FreeStep, goes, calls, returns, falls, FlowPath, begins_flow, steps_flow, is_among, fault_of, ends_of, IsFaulty}
use Rattle.program_points.specs.machine_paths.Uncounted.{uncounted}
use Rattle.program_points.specs.machine_paths.Laws.{SomeArmIsGiven}
use Rattle.program_points.proofs.machine_paths_lemmas.Uncounting.{s-items}
use Rattle.program_points.proofs.machine_paths_lemmas.Ways.{next-ways, next-calls, next-ends}
use Rattle.program_points.proofs.machine_paths_lemmas.Backing.{Backs, back_on, back_to, back_end, back}
use Rattle.program_points.proofs.machine_paths_lemmas.SameLevels.{is-there}
use Rattle.program_points.proofs.machine_paths_lemmas.SameFaults.{own-path}

-- these returns in the theory are those here, with any turns left
abbrev pub AreAlike : List language.Pending → List Pending → Type 0
AreAlike [] [] = Unit {0}
AreAlike [] (b ∷ bs) = ⊥
AreAlike (a ∷ ts) [] = ⊥
AreAlike (a ∷ ts) (b ∷ bs) = (a.end ≡ b.end) × (a.paragraph ≡ b.back.paragraph) × (uncounted a.rest ≡ uncounted b.back.rest) × AreAlike ts bs

among-alike : (number : ℕ) (ts : List language.Pending) (bs : List Pending) → AreAlike ts bs → ends_at number ts ≡ is_among number (ends_of bs)
among-alike number [] [] all = refl
among-alike number [] (b ∷ bs) all = absurd all
among-alike number (a ∷ ts) [] all = absurd all
among-alike number (a ∷ ts) (b ∷ bs) all =
    ap (λ n. if nat_eq n number then true else ends_at number ts) all.0 ∙ ap (λ t. if nat_eq b.end number then true else t) (among-alike number ts bs all.3)

abbrev pub lowered : List Pending → List language.Pending
lowered [] = []
lowered (b ∷ bs) = record { end = b.end; paragraph = b.back.paragraph; rest = b.back.rest } ∷ lowered bs

pub lowered-alike : (bs : List Pending) → AreAlike (lowered bs) bs
lowered-alike [] = tt
lowered-alike (b ∷ bs) = (refl, refl, refl, lowered-alike bs)

-- what a fault comes at
fault-at : (now : Next) (ends : List ℕ) (fault : FlowFault) → fault_of now ends ≡ Some fault →
    ((entry : ℕ) × (exit : ℕ) × (after : Point) × (now ≡ Calls entry exit after) × (is_among exit ends ≡ true)) ⊎ ((paragraph : ℕ) × (now ≡ Ends paragraph))
fault-at (Ways ways) ends fault e = absurd (let h : ⊥ = cc in h)
fault-at (Calls entry exit after) ends fault e =
    inl (entry, exit, after, refl, (elim (is_among exit ends) as (λ b. (if b then Some (Reentry exit) else None) ≡ Some fault → b ≡ true) [ true ↦ λ f. refl | false ↦ λ f. absurd (let h : ⊥ = cc in h) ]) e)
fault-at Stops ends fault e = absurd (let h : ⊥ = cc in h)
fault-at (Ends paragraph) ends fault e = inr (paragraph, refl)

no-fault-call : (b : Bool) (exit : ℕ) → (if b then Some (Reentry exit) else None) ≡ None → b ≡ false
no-fault-call true exit e = absurd (let h : ⊥ = cc in h)
no-fault-call false exit e = refl

no-fault-end : (b : Bool) (number : ℕ) → (if b then Some (Overlap number) else None) ≡ None → b ≡ false
no-fault-end true number e = absurd (let h : ⊥ = cc in h)
no-fault-end false number e = refl

pending-is : (one : language.Pending) (end paragraph : ℕ) (rest : List Item) → one.end ≡ end → one.paragraph ≡ paragraph → one.rest ≡ rest → ◌≡◌ {A = language.Pending} (record { end = end; paragraph = paragraph; rest = rest }) one
pending-is one end paragraph rest e p r =
    ap (λ (n : ℕ). let a : language.Pending = record { end = n; paragraph = paragraph; rest = rest } in a) (sym e)
    ∙ ap (λ (n : ℕ). let a : language.Pending = record { end = one.end; paragraph = n; rest = rest } in a) (sym p)
    ∙ ap (λ (z : List Item). let a : language.Pending = record { end = one.end; paragraph = one.paragraph; rest = z } in a) (sym r)

module _ (told : FlowFacts) (program : Program) (source : IsSource told program) (some : SomeArmIsGiven told) where
  abbrev pub stepped : Flow → Flow
  stepped f = source_step (free told) nothing_left program f

  abbrev pub At : ℕ → List Item → List language.Pending → List ℕ → Flow
  At q rest pending ways = theory.flow q rest pending ways

  -- by some ways, whatever ways come after
  abbrev pub Lifts : ℕ → List Item → List language.Pending → Type 0
  Lifts q rest pending = (ways : List ℕ) × (n : ℕ) × ((more : List ℕ) → iterate stepped n (At 0 (rest_of program 0) [] (ways ++ more)) ≡ At q rest pending more)

  -- one step more
  on-lifts : (q r : ℕ) (before after : List Item) (here there : List language.Pending) (ways : List ℕ) → Lifts q before here → ((more : List ℕ) → stepped (At q before here (ways ++ more)) ≡ At r after there more) → Lifts r after there
  on-lifts q r before after here there ways l step = (
    l.0 ++ ways,
    l.1 + 1,
    λ more.
        ap (λ ws. iterate stepped (l.1 + 1) (At 0 (rest_of program 0) [] ws)) (append_assoc l.0 ways more)
        ∙ iterate-add stepped l.1 1 (At 0 (rest_of program 0) [] (l.0 ++ (ways ++ more)))
        ∙ ap stepped (l.2 (ways ++ more))
        ∙ step more,
  )

  abbrev pub LiftsAll : Point → List Pending → Type 0
  LiftsAll p pending = (rest : List Item) (stack : List language.Pending) → uncounted rest ≡ uncounted p.rest → AreAlike stack pending → Lifts p.paragraph rest stack

  back-lifts : (q : ℕ) (x : Item) (xs : List Item) (to : ℕ) (r : List Item) (stack : List language.Pending) → ((rest : List Item) → uncounted rest ≡ uncounted (x ∷ xs) → Lifts q rest stack) → Backs told program q x xs to r → Lifts to r stack
  back-lifts q x xs to r stack all (back_on item others ways rest same step) =
      on-lifts q q (item ∷ others) rest stack stack ways (all (item ∷ others) same) (λ more. ap (λ w. machine.goes (free told) nothing_left program w (At q (item ∷ others) stack (ways ++ more))) (step more))
  back-lifts q x xs to r stack all (back_to ways n step) =
      on-lifts q n (x ∷ xs) (rest_of program n) stack stack ways (all (x ∷ xs) refl) (λ more. ap (λ w. machine.goes (free told) nothing_left program w (At q (x ∷ xs) stack (ways ++ more))) (step more))
  back-lifts q x xs to r stack all (back_end ways n step) =
      on-lifts q n (x ∷ xs) [] stack stack ways (all (x ∷ xs) refl) (λ more. ap (λ w. machine.goes (free told) nothing_left program w (At q (x ∷ xs) stack (ways ++ more))) (step more))

  -- where nothing is left, and no return is made, control falls on
  fallen : (q : ℕ) (pending : List Pending) (stack : List language.Pending) (next : Paragraph) → AreAlike stack pending → slice_get program.paragraphs (suc q) ≡ Some next → is_exit (top_exit main_range pending) q ≡ false → fault_of (Ends q) (ends_of pending) ≡ None →
      (more : List ℕ) → stepped (At q [] stack more) ≡ At (suc q) (rest_of program (suc q)) stack more
  fallen q [] [] next all is out fine more = ap (λ o. machine.falls (free told) nothing_left program o (At q [] [] more)) is
  fallen q [] (a ∷ ts) next all is out fine more = absurd all
  fallen q (b ∷ bs) [] next all is out fine more = absurd all
  fallen q (b ∷ bs) (a ∷ ts) next all is out fine more =
      let begun = At q [] (a ∷ ts) more in
      let found = slice_get program.paragraphs (suc q) in
      let popped = At a.paragraph a.rest ts more in
      let faulted = comes_to (free told) nothing_left program (Faulted (outcome.Overlap q)) begun in
      let top : nat_eq a.end q ≡ false = ap (λ n. nat_eq n q) all.0 ∙ out in
      let below : is_among q (ends_of bs) ≡ false =
      no-fault-end (is_among q (ends_of bs)) q (ap (λ c. if c then None else (if is_among q (ends_of bs) then Some (Overlap q) else None)) (sym out) ∙ fine) in
      ap (λ c. if c then popped else (if ends_at q ts then faulted else machine.falls (free told) nothing_left program found begun)) top
      ∙ ap (λ c. if c then faulted else machine.falls (free told) nothing_left program found begun) (among-alike q ts bs all.3 ∙ below)
      ∙ ap (λ o. machine.falls (free told) nothing_left program o begun) is

  called : (q entry exit : ℕ) (xs : List Item) (ts : List language.Pending) → ends_at exit ts ≡ false → (more : List ℕ) →
      stepped (At q (Do (Perform entry exit) ∷ xs) ts more) ≡ At entry (rest_of program entry) (record { end = exit; paragraph = q; rest = xs } ∷ ts) more
  called q entry exit xs ts none more =
      let begun = At q (Do (Perform entry exit) ∷ xs) ts more in
      ap (λ b. if b then comes_to (free told) nothing_left program (Faulted (outcome.Reentry exit)) begun else At entry (rest_of program entry) (record { end = exit; paragraph = q; rest = xs } ∷ ts) more) none

  whole : (number : ℕ) (rest : List Item) → uncounted rest ≡ uncounted (rest_of program number) → rest ≡ rest_of program number
  whole number rest e = s-items (paragraph_at program number) rest e

  lift-step : (from : Point) (before : List Pending) (to : Point) (after : List Pending) → FreeStep told.never_first program main_range from before to after → fault_of (next told.never_first program from) (ends_of before) ≡ None →
      FlowPath told.never_first program from before → LiftsAll from before → LiftsAll to after
  lift-step from before to after (goes from1 to1 pending ways k e w) fine path all rest stack h alike =
      let first = next-ways told.never_first program from.paragraph from.rest ways e in
      back-lifts from.paragraph first.0 first.1 to.paragraph rest stack (λ r g. all r stack (g ∙ ap uncounted (sym first.2)) alike)
      (back told program from.paragraph (length program.paragraphs) some first.0 first.1
      (own-path told program source some from before first.0 first.1 path (ap uncounted (sym first.2)))
      k to (ap (λ ws. way_at ws k) first.3 ∙ w) rest h)
  lift-step from before to after (calls from1 next_point pending entry exit e) fine path all rest [] h alike = absurd alike
  lift-step from before to after (calls from1 next_point pending entry exit e) fine path all rest (c ∷ cs) h alike =
      let first = next-calls told.never_first program from.paragraph from.rest entry exit next_point e in
      let same : uncounted (Do (Perform entry exit) ∷ c.rest) ≡ uncounted from.rest = ap (λ ys. Do (Perform entry exit) ∷ ys) (alike.2 ∙ ap (λ (q : Point). uncounted q.rest) first.2) ∙ ap uncounted (sym first.1) in
      let none : ends_at exit cs ≡ false = among-alike exit cs pending alike.3 ∙ no-fault-call (is_among exit (ends_of pending)) exit (ap (λ now. fault_of now (ends_of pending)) (sym e) ∙ fine) in
      let it_is = pending-is c exit from.paragraph c.rest alike.0 (alike.1 ∙ ap (λ (q : Point). q.paragraph) first.2) refl in
      subst (λ r. Lifts entry r (c ∷ cs)) (sym (whole entry rest h))
      (on-lifts from.paragraph entry (Do (Perform entry exit) ∷ c.rest) (rest_of program entry) cs (c ∷ cs) [] (all (Do (Perform entry exit) ∷ c.rest) cs same alike.3)
      (λ more. called from.paragraph entry exit c.rest cs none more ∙ ap (λ one. At entry (rest_of program entry) (one ∷ cs) more) it_is))
  lift-step from before to after (returns from1 behind pending exit e) fine path all rest stack h alike =
      let last = next-ends told.never_first program from.paragraph from.rest exit e in
      let top : language.Pending = record { end = exit; paragraph = behind.paragraph; rest = rest } in
      on-lifts from.paragraph behind.paragraph [] rest (top ∷ stack) stack [] (all [] (top ∷ stack) (ap uncounted (sym last.0)) (refl, refl, h, alike))
      (λ more. ap (λ b. if b then At behind.paragraph rest stack more else (if ends_at from.paragraph stack then comes_to (free told) nothing_left program (Faulted (outcome.Overlap from.paragraph)) (At from.paragraph [] (top ∷ stack) more) else machine.falls (free told) nothing_left program (slice_get program.paragraphs (suc from.paragraph)) (At from.paragraph [] (top ∷ stack) more)))
      (eq-eqb exit from.paragraph last.1))
  lift-step from before to after (falls from1 pending paragraph e out is) fine path all rest stack h alike =
      let last = next-ends told.never_first program from.paragraph from.rest paragraph e in
      let there = is-there (slice_get program.paragraphs (suc paragraph)) is in
      let clear : fault_of (Ends paragraph) (ends_of pending) ≡ None = ap (λ now. fault_of now (ends_of pending)) (sym e) ∙ fine in
      subst (λ r. Lifts (suc paragraph) r stack) (sym (whole (suc paragraph) rest h))
      (on-lifts paragraph (suc paragraph) [] (rest_of program (suc paragraph)) stack stack []
      (subst (λ n. Lifts n [] stack) (sym last.1) (all [] stack (ap uncounted (sym last.0)) alike))
      (fallen paragraph pending stack there.0 alike there.1 out clear))

  pub lift : (p : Point) (pending : List Pending) → FlowPath told.never_first program p pending → LiftsAll p pending
  lift p pending (begins_flow) rest [] h alike = subst (λ r. Lifts 0 r []) (sym (whole 0 rest h)) ([], 0, λ more. refl)
  lift p pending (begins_flow) rest (a ∷ ts) h alike = absurd alike
  lift p pending (steps_flow from to before after path fine step) rest stack h alike = lift-step from before to after step fine path (lift from before path) rest stack h alike

  abbrev Faults : Type 0
  Faults = theory.HasFaultyRun told program

  -- one step more is a fault
  at-fault : (q : ℕ) (rest : List Item) (stack : List language.Pending) (fault : outcome.FlowFault) → Lifts q rest stack → (stepped (At q rest stack [])).run.standing ≡ Over (Faulted fault) → Faults
  at-fault q rest stack fault l e = (
    l.0 ++ [],
    l.1 + 1,
    fault,
    ap (λ (s : Flow). s.run.standing) (iterate-add stepped l.1 1 (At 0 (rest_of program 0) [] (l.0 ++ [])) ∙ ap stepped (l.2 [])) ∙ e,
  )

  end-fault : (q : ℕ) (pending : List Pending) (fault : FlowFault) → fault_of (Ends q) (ends_of pending) ≡ Some fault → Lifts q [] (lowered pending) → Faults
  end-fault q [] fault e l = absurd (let h : ⊥ = cc in h)
  end-fault q (b ∷ bs) fault e l =
      let stack = lowered (b ∷ bs) in
      let begun = At q [] stack [] in
      let faulted = comes_to (free told) nothing_left program (Faulted (outcome.Overlap q)) begun in
      let fell = machine.falls (free told) nothing_left program (slice_get program.paragraphs (suc q)) begun in
      let popped = At b.back.paragraph b.back.rest (lowered bs) [] in
      (elim (nat_eq b.end q) as (λ c. nat_eq b.end q ≡ c → (if c then None else (if is_among q (ends_of bs) then Some (Overlap q) else None)) ≡ Some fault → Faults) [
        | true ↦ λ is f. absurd (let h : ⊥ = cc in h)
        | false ↦ λ is. elim (is_among q (ends_of bs)) as (λ c. is_among q (ends_of bs) ≡ c → (if c then Some (Overlap q) else None) ≡ Some fault → Faults) [
          | true ↦ λ within f. at-fault q [] stack (outcome.Overlap q) l
              (ap (λ c. (if c then popped else (if ends_at q (lowered bs) then faulted else fell)).run.standing) is
              ∙ ap (λ c. (if c then faulted else fell).run.standing) (among-alike q (lowered bs) bs (lowered-alike bs) ∙ within))
          | false ↦ λ within f. absurd (let h : ⊥ = cc in h)
        ] refl
      ]) refl e

  call-fault : (q entry exit : ℕ) (xs : List Item) (pending : List Pending) → is_among exit (ends_of pending) ≡ true → Lifts q (Do (Perform entry exit) ∷ xs) (lowered pending) → Faults
  call-fault q entry exit xs pending within l =
      let stack = lowered pending in
      let begun = At q (Do (Perform entry exit) ∷ xs) stack [] in
      let faulted = comes_to (free told) nothing_left program (Faulted (outcome.Reentry exit)) begun in
      at-fault q (Do (Perform entry exit) ∷ xs) stack (outcome.Reentry exit) l
      (ap (λ c. (if c then faulted else At entry (rest_of program entry) (record { end = exit; paragraph = q; rest = xs } ∷ stack) []).run.standing)
      (among-alike exit stack pending (lowered-alike pending) ∙ within))

  pub faulty-there : IsFaulty told.never_first program → Faults
  faulty-there faulty =
      let l = lift faulty.point faulty.pending faulty.path faulty.point.rest (lowered faulty.pending) refl (lowered-alike faulty.pending) in
      let q = faulty.point.paragraph in
      elim (fault-at (next told.never_first program faulty.point) (ends_of faulty.pending) faulty.fault faulty.meets) [
        | inl call ↦
            let first = next-calls told.never_first program q faulty.point.rest call.0 call.1 call.2 call.3 in
            call-fault q call.0 call.1 first.0 faulty.pending call.4 (subst (λ r. Lifts q r (lowered faulty.pending)) first.1 l)
        | inr end ↦
            let last = next-ends told.never_first program q faulty.point.rest end.0 end.1 in
            end-fault q faulty.pending faulty.fault
            (ap (λ n. fault_of (Ends n) (ends_of faulty.pending)) (sym last.1) ∙ ap (λ now. fault_of now (ends_of faulty.pending)) (sym end.1) ∙ faulty.meets)
            (subst (λ r. Lifts q r (lowered faulty.pending)) last.0 l)
      ]
