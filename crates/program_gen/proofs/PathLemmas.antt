-- Flow paths of a program in which only the first paragraph performs, and nothing leads to that
-- one again: at most one return is pending, so there is no fault.
use Rattle.std.proofs.Common.{◌≡◌, ℕ, zero, suc, ◌≤◌, Bool, true, false, if◌then◌else◌, ◌==◌, List, [], ◌∷◌, Option, Some, None, refl, arith, ◌⊎◌, inl, inr, sym, ap, ◌∙◌, subst}
use Rattle.cob_tree.specs.declared.ending.FlowFault.{FlowFault}
use Rattle.cob_tree.specs.declared.ending.FlowFault.TheVariants.{Overlap}
use Rattle.control_flow_theory.specs.language.Language.{Chooser, Go, Program}
use Rattle.control_flow_theory.specs.language.Items.{Item, Do}
use Rattle.control_flow_theory.specs.semantics.Source.{rest_of}
use Rattle.program_points.specs.paths.Step.{Point, at, start, Next, Ways, Calls, Stops, Ends, next, way_at}
use Rattle.program_points.specs.paths.Flow.{main_range, Pending, FreeStep, goes, calls, returns, falls, FlowPath, begins_flow, steps_flow, fault_of, ends_of, IsFaulty}
use Rattle.program_gen.proofs.QuietLemmas.{Quiet, ends, acts, jumps, picks, Fit, quiet, performs, stops, AllQuiet, AllFit, quiet-fit, IsFlat}

module _ (never_first : Chooser → Bool) (program : Program) (flat : IsFlat program) where
  -- where a quiet item leads from its paragraph: on, maybe by a jump, or to a later paragraph
  abbrev Leads : ℕ → List Item → Point → Type 0
  Leads paragraph rest to = (to ≡ at paragraph rest)
      ⊎ ((number : ℕ) × (1 ≤ number) × (to ≡ at paragraph (Do (Go number) ∷ rest)))
      ⊎ ((number : ℕ) × (1 ≤ number) × (to ≡ start program number))

  abbrev AllLead : ℕ → List Item → List (Option Point) → Type 0
  AllLead paragraph rest [] = Unit {0}
  AllLead paragraph rest (None ∷ ways) = AllLead paragraph rest ways
  AllLead paragraph rest (Some to ∷ ways) = Leads paragraph rest to × AllLead paragraph rest ways

  lead-at : (paragraph : ℕ) (rest : List Item) (ways : List (Option Point)) → AllLead paragraph rest ways → (number : ℕ) (to : Point) → way_at ways number ≡ Some to → Leads paragraph rest to
  lead-at paragraph rest [] all number to e = absurd (let k : ⊥ = cc in k)
  lead-at paragraph rest (None ∷ ways) all zero to e = absurd (let k : ⊥ = cc in k)
  lead-at paragraph rest (None ∷ ways) all (suc number) to e = lead-at paragraph rest ways all number to e
  lead-at paragraph rest (Some one ∷ ways) all zero to e = let k : one ≡ to = cc in subst (Leads paragraph rest) k all.0
  lead-at paragraph rest (Some one ∷ ways) all (suc number) to e = lead-at paragraph rest ways all.1 number to e

  -- what comes next at a quiet item
  abbrev Going : ℕ → Item → List Item → Type 0
  Going paragraph item rest = (ways : List (Option Point))
      × (next never_first program (at paragraph (item ∷ rest)) ≡ Ways ways) × AllLead paragraph rest ways

  going : (paragraph : ℕ) (item : Item) (rest : List Item) → Quiet item → Going paragraph item rest
  going paragraph item rest (ends) = (Some (at paragraph rest) ∷ [], refl, (inl refl, tt))
  going paragraph item rest (acts act) = (Some (at paragraph rest) ∷ [], refl, (inl refl, tt))
  going paragraph item rest (jumps to later) =
      (Some (start program to) ∷ [], refl, (inr (inr (to, later, refl)), tt))
  going paragraph item rest (picks test to later) =
      (Some (at paragraph (Do (Go to) ∷ rest)) ∷ Some (at paragraph rest) ∷ [], refl, (inr (inl (to, later, refl)), (inl refl, tt)))

  -- ---- while no return is pending, and while one is

  abbrev IsQuietAt : Point → Type 0
  IsQuietAt point = (1 ≤ point.paragraph) × AllQuiet point.rest

  abbrev Holds : Point → List Pending → Type 0
  Holds point [] = AllFit point.rest
  Holds point (one ∷ []) = IsQuietAt point × AllFit one.back.rest
  Holds point (one ∷ two ∷ others) = ⊥

  lead-fit : (paragraph : ℕ) (rest : List Item) (to : Point) → AllFit rest → Leads paragraph rest to → AllFit to.rest
  lead-fit paragraph rest to h (inl is) = subst (λ (p : Point). AllFit p.rest) (sym is) h
  lead-fit paragraph rest to h (inr (inl jump)) =
      subst (λ (p : Point). AllFit p.rest) (sym jump.2) (quiet (Do (Go jump.0)) (jumps jump.0 jump.1), h)
  lead-fit paragraph rest to h (inr (inr gone)) =
      subst (λ (p : Point). AllFit p.rest) (sym gone.2) (quiet-fit (rest_of program gone.0) (flat.later gone.0 gone.1))

  lead-quiet : (paragraph : ℕ) (rest : List Item) (to : Point) → 1 ≤ paragraph → AllQuiet rest → Leads paragraph rest to → IsQuietAt to
  lead-quiet paragraph rest to later h (inl is) = subst IsQuietAt (sym is) (later, h)
  lead-quiet paragraph rest to later h (inr (inl jump)) =
      subst IsQuietAt (sym jump.2) (later, (jumps jump.0 jump.1, h))
  lead-quiet paragraph rest to later h (inr (inr gone)) =
      subst IsQuietAt (sym gone.2) (gone.1, flat.later gone.0 gone.1)

  same-ways : (one other : List (Option Point)) → Ways one ≡ Ways other → one ≡ other
  same-ways one other e = cc

  fit-goes : (paragraph : ℕ) (rest : List Item) → AllFit rest → (ways : List (Option Point)) → next never_first program (at paragraph rest) ≡ Ways ways → (number : ℕ) (to : Point) → way_at ways number ≡ Some to → AllFit to.rest
  fit-goes paragraph [] h ways e number to there = absurd (let k : ⊥ = cc in k)
  fit-goes paragraph (item ∷ rest) h ways e number to there = by-item item h.0 e
    where
      by-item : (one : Item) → Fit one → next never_first program (at paragraph (one ∷ rest)) ≡ Ways ways → AllFit to.rest
      by-item one (quiet other q) e =
          let g = going paragraph one rest q in
          let same = same-ways g.0 ways (sym g.1 ∙ e) in
          lead-fit paragraph rest to h.1 (lead-at paragraph rest g.0 g.2 number to (ap (λ ws. way_at ws number) same ∙ there))
      by-item one (performs entry exit later) e = absurd (let k : ⊥ = cc in k)
      by-item one (stops) e = absurd (let k : ⊥ = cc in k)

  quiet-goes : (paragraph : ℕ) (rest : List Item) → 1 ≤ paragraph → AllQuiet rest → (ways : List (Option Point)) → next never_first program (at paragraph rest) ≡ Ways ways → (number : ℕ) (to : Point) → way_at ways number ≡ Some to → IsQuietAt to
  quiet-goes paragraph [] later h ways e number to there = absurd (let k : ⊥ = cc in k)
  quiet-goes paragraph (item ∷ rest) later h ways e number to there =
      let g = going paragraph item rest h.0 in
      let same = same-ways g.0 ways (sym g.1 ∙ e) in
      lead-quiet paragraph rest to later h.1 (lead-at paragraph rest g.0 g.2 number to (ap (λ ws. way_at ws number) same ∙ there))

  fit-calls : (paragraph : ℕ) (rest : List Item) → AllFit rest → (entry exit : ℕ) (after : Point) → next never_first program (at paragraph rest) ≡ Calls entry exit after → (1 ≤ entry) × AllFit after.rest
  fit-calls paragraph [] h entry exit after e = absurd (let k : ⊥ = cc in k)
  fit-calls paragraph (item ∷ rest) h entry exit after e = by-item item h.0 e
    where
      by-item : (one : Item) → Fit one → next never_first program (at paragraph (one ∷ rest)) ≡ Calls entry exit after → (1 ≤ entry) × AllFit after.rest
      by-item one (quiet other q) e =
          let g = going paragraph one rest q in
          absurd (let f : Ways g.0 ≡ Calls entry exit after = sym g.1 ∙ e in let k : ⊥ = cc in k)
      by-item one (performs first last later) e =
          let same : first ≡ entry = cc in
          let back : at paragraph rest ≡ after = cc in
          (subst (λ n. 1 ≤ n) same later, subst (λ (p : Point). AllFit p.rest) back h.1)
      by-item one (stops) e = absurd (let k : ⊥ = cc in k)

  quiet-calls : (paragraph : ℕ) (rest : List Item) → AllQuiet rest → (entry exit : ℕ) (after : Point) → next never_first program (at paragraph rest) ≡ Calls entry exit after → ⊥
  quiet-calls paragraph [] h entry exit after e = (let k : ⊥ = cc in k)
  quiet-calls paragraph (item ∷ rest) h entry exit after e =
      let g = going paragraph item rest h.0 in
      let f : Ways g.0 ≡ Calls entry exit after = sym g.1 ∙ e in
      (let k : ⊥ = cc in k)

  steps-on : (from to : Point) (before after : List Pending) → FreeStep never_first program main_range from before to after → Holds from before → Holds to after
  steps-on from to before after (goes one other [] ways number e there) h = fit-goes from.paragraph from.rest h ways e number to there
  steps-on from to before after (goes one other (top ∷ []) ways number e there) h =
      (quiet-goes from.paragraph from.rest h.0.0 h.0.1 ways e number to there, h.1)
  steps-on from to before after (goes one other (top ∷ two ∷ others) ways number e there) h = absurd h
  steps-on from to before after (calls one back [] entry exit e) h =
      let c = fit-calls from.paragraph from.rest h entry exit back e in
      ((c.0, flat.later entry c.0), c.1)
  steps-on from to before after (calls one back (top ∷ []) entry exit e) h =
      absurd (quiet-calls from.paragraph from.rest h.0.1 entry exit back e)
  steps-on from to before after (calls one back (top ∷ two ∷ others) entry exit e) h = absurd h
  steps-on from to before after (returns one back [] exit e) h = h.1
  steps-on from to before after (returns one back (two ∷ others) exit e) h = absurd h
  steps-on from to before after (falls one [] paragraph e out there) h =
      quiet-fit (rest_of program (suc paragraph)) (flat.later (suc paragraph) (omega arith))
  steps-on from to before after (falls one (top ∷ []) paragraph e out there) h =
      let later : 1 ≤ suc paragraph = omega arith in
      ((later, flat.later (suc paragraph) later), h.1)
  steps-on from to before after (falls one (top ∷ two ∷ others) paragraph e out there) h = absurd h

  holds : (point : Point) (pending : List Pending) → FlowPath never_first program point pending → Holds point pending
  holds point pending (begins_flow) = flat.first
  holds point pending (steps_flow from to before after path fine step) =
      steps-on from point before pending step (holds from before path)

  -- ---- no fault

  none-alone : (now : Next) (fault : FlowFault) → fault_of now [] ≡ Some fault → ⊥
  none-alone (Ways ways) fault e = (let k : ⊥ = cc in k)
  none-alone (Calls entry exit after) fault e = (let k : ⊥ = cc in k)
  none-alone Stops fault e = (let k : ⊥ = cc in k)
  none-alone (Ends paragraph) fault e = (let k : ⊥ = cc in k)

  none-ending : (paragraph end : ℕ) → fault_of (Ends paragraph) (end ∷ []) ≡ None
  none-ending paragraph end = elim (end == paragraph) as (λ b. (if b then None else (if false then Some (Overlap paragraph) else None)) ≡ None) [ true ↦ refl | false ↦ refl ]

  none-quiet : (paragraph : ℕ) (rest : List Item) (end : ℕ) (fault : FlowFault) → AllQuiet rest → fault_of (next never_first program (at paragraph rest)) (end ∷ []) ≡ Some fault → ⊥
  none-quiet paragraph [] end fault h e = (let f : None ≡ Some fault = sym (none-ending paragraph end) ∙ e in let k : ⊥ = cc in k)
  none-quiet paragraph (item ∷ rest) end fault h e =
      let g = going paragraph item rest h.0 in
      let f : None ≡ Some fault = ap (λ now. fault_of now (end ∷ [])) (sym g.1) ∙ e in
      (let k : ⊥ = cc in k)

  none-held : (point : Point) (pending : List Pending) (fault : FlowFault) → Holds point pending → fault_of (next never_first program point) (ends_of pending) ≡ Some fault → ⊥
  none-held point [] fault h e = none-alone (next never_first program point) fault e
  none-held point (one ∷ []) fault h e = none-quiet point.paragraph point.rest one.end fault h.0.1 e
  none-held point (one ∷ two ∷ others) fault h e = absurd h

  -- no flow path of such a program comes to a fault
  pub no-fault : IsFaulty never_first program → ⊥
  no-fault faulty = none-held faulty.point faulty.pending faulty.fault (holds faulty.point faulty.pending faulty.path) faulty.meets
