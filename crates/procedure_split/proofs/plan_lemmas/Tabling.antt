-- The table of returning ranges names them.
use Rattle.std.proofs.Common.{◌≡◌, ◌<◌, ◌≤◌, ◌↔◌, ℕ, zero, suc, true, false, if◌then◌else◌, nat_eq, List, [], ◌∷◌, ◌++◌, length, Option, Some, None, slice_get, refl, ap, sym, ◌∙◌, subst, ◌⊎◌, inl, inr, eqb-true, eq-eqb, arith}
use Rattle.std.specs.Prelude.{Bool, slice_set}
use Rattle.std.specs.List.{fold}
use Rattle.cob_tree.specs.declared.program.Range.{Range}
use Rattle.program_points.specs.paths.Flow.{part}
use Rattle.pending_returns.specs.declared.facts.RangeFacts.{RangeFacts}
use Rattle.program_facts.specs.completion.FlowFacts.{is_among, returns_by}
use Rattle.procedure_split.specs.plan.Planned.{lengthened, with_exit, with_part, with_facts, table_by, Returns, NamesReturning}

-- the table has this range too then
abbrev AddsRange : List (List ℕ) → ℕ → ℕ → List (List ℕ) → Type 0
AddsRange before entry exit after = (from to : ℕ) → returns_by after from to ≡ true
    ↔ ((returns_by before from to ≡ true) ⊎ ((from ≡ entry) × (to ≡ exit)))

-- and so is it where the range of these facts returns
abbrev AddsFacts : List (List ℕ) → RangeFacts → List (List ℕ) → Type 0
AddsFacts before facts after = (from to : ℕ) → returns_by after from to ≡ true
    ↔ ((returns_by before from to ≡ true)
    ⊎ ((facts.returns ≡ true) × (facts.range ≡ part from to)))

-- a row for the entry names nothing
long-same : (table : List (List ℕ)) (entry from to : ℕ) →
    returns_by (lengthened table entry) from to ≡ returns_by table from to
long-same [] zero zero to = refl
long-same [] zero (suc from) to = refl
long-same [] (suc entry) zero to = refl
long-same [] (suc entry) (suc from) to = long-same [] entry from to
long-same (row ∷ table) zero from to = refl
long-same (row ∷ table) (suc entry) zero to = refl
long-same (row ∷ table) (suc entry) (suc from) to = long-same table entry from to

row-there : (table : List (List ℕ)) (entry : ℕ) →
    (row : List ℕ) × (slice_get (lengthened table entry) entry ≡ Some row)
row-there [] zero = ([], refl)
row-there [] (suc entry) = row-there [] entry
row-there (row ∷ table) zero = (row, refl)
row-there (row ∷ table) (suc entry) = row-there table entry

-- a row is added, up to the one for the entry
pub longer : (table : List (List ℕ)) (entry : ℕ) → length table ≤ entry →
    lengthened (table ++ [] ∷ []) entry ≡ lengthened table entry
longer [] zero le = refl
longer [] (suc entry) le = refl
longer (row ∷ table) zero le = absurd (omega (arith, le))
longer (row ∷ table) (suc entry) le =
    ap (λ rows. row ∷ rows) (longer table entry (omega (arith, le)))

pub long_enough : (table : List (List ℕ)) (entry : ℕ) → entry < length table →
    lengthened table entry ≡ table
long_enough [] entry lt = absurd (omega (arith, lt))
long_enough (row ∷ table) zero lt = refl
long_enough (row ∷ table) (suc entry) lt =
    ap (λ rows. row ∷ rows) (long_enough table entry (omega (arith, lt)))

-- the row of the entry gets the exit
pub put-exit : (table : List (List ℕ)) (entry exit : ℕ) (row : List ℕ) →
    slice_get (lengthened table entry) entry ≡ Some row →
    slice_set (lengthened table entry) entry (row ++ exit ∷ []) ≡ with_exit table entry exit
put-exit [] zero exit row e =
    let same : [] ≡ row = cc in ap (λ r. (r ++ exit ∷ []) ∷ []) (sym same)
put-exit [] (suc entry) exit row e = ap (λ rows. [] ∷ rows) (put-exit [] entry exit row e)
put-exit (first ∷ table) zero exit row e =
    let same : first ≡ row = cc in ap (λ r. (r ++ exit ∷ []) ∷ table) (sym same)
put-exit (first ∷ table) (suc entry) exit row e =
    ap (λ rows. first ∷ rows) (put-exit table entry exit row e)

among-end : (number : ℕ) (row : List ℕ) → is_among number (row ++ number ∷ []) ≡ true
among-end number [] = ap (λ b. if b then true else false) (eq-eqb number number refl)
among-end number (other ∷ row) = elim (nat_eq other number) as (λ b. (if b then true else is_among number (row ++ number ∷ [])) ≡ true) [ true ↦ refl | false ↦ among-end number row ]

among-more : (number last : ℕ) (row : List ℕ) → is_among number row ≡ true → is_among number (row ++ last ∷ []) ≡ true
among-more number last [] h = absurd (let k : ⊥ = cc in k)
among-more number last (other ∷ row) h = (elim (nat_eq other number) as (λ b. (if b then true else is_among number row) ≡ true → (if b then true else is_among number (row ++ last ∷ [])) ≡ true) [ true ↦ λ e. refl | false ↦ λ e. among-more number last row e ]) h

among-last : (number last : ℕ) (row : List ℕ) → is_among number (row ++ last ∷ []) ≡ true → (is_among number row ≡ true) ⊎ (number ≡ last)
among-last number last [] h = (elim (nat_eq last number) as (λ b. nat_eq last number ≡ b → (if b then true else false) ≡ true → (false ≡ true) ⊎ (number ≡ last)) [
  | true ↦ λ s e. inr (sym (eqb-true last number s))
  | false ↦ λ s e. inl e
]) refl h
among-last number last (other ∷ row) h = (elim (nat_eq other number) as (λ b. (if b then true else is_among number (row ++ last ∷ [])) ≡ true → ((if b then true else is_among number row) ≡ true) ⊎ (number ≡ last)) [
  | true ↦ λ e. inl refl
  | false ↦ λ e. among-last number last row e
]) h

with-exit : (table : List (List ℕ)) (entry exit : ℕ) (row : List ℕ) → slice_get table entry ≡ Some row → AddsRange table entry exit (slice_set table entry (row ++ exit ∷ []))
with-exit [] entry exit row e from to = absurd (let k : ⊥ = cc in k)
with-exit (first ∷ table) zero exit row e zero to =
    let same : first ≡ row = cc in (
      λ h. elim (among-last to exit row h) [
        | inl old ↦ inl (ap (λ r. is_among to r) same ∙ old)
        | inr new ↦ inr (refl, new)
      ],
      λ h. elim h [
        | inl old ↦ among-more to exit row (sym (ap (λ r. is_among to r) same) ∙ old)
        | inr new ↦ subst (λ n. is_among n (row ++ exit ∷ []) ≡ true) (sym new.1) (among-end exit row)
      ],
    )
with-exit (first ∷ table) zero exit row e (suc from) to = (λ h. inl h, λ h. elim h [ inl old ↦ old | inr new ↦ absurd (let wrong : suc from ≡ zero = new.0 in omega (arith, wrong)) ])
with-exit (first ∷ table) (suc entry) exit row e zero to = (λ h. inl h, λ h. elim h [ inl old ↦ old | inr new ↦ absurd (let wrong : zero ≡ suc entry = new.0 in omega (arith, wrong)) ])
with-exit (first ∷ table) (suc entry) exit row e (suc from) to =
    let below = with-exit table entry exit row e from to in (
      λ h. elim (below.0 h) [ inl old ↦ inl old | inr new ↦ inr (ap (λ n. suc n) new.0, new.1) ],
      λ h. elim h [ inl old ↦ below.1 (inl old) | inr new ↦ below.1 (inr (let step : suc from ≡ suc entry = new.0 in (let k : from ≡ entry = omega (arith, step) in k), new.1)) ],
    )

-- after the table was lengthened
added : (before long : List (List ℕ)) (entry exit : ℕ) (row : List ℕ) → ((from to : ℕ) → returns_by long from to ≡ returns_by before from to) → slice_get long entry ≡ Some row → AddsRange before entry exit (slice_set long entry (row ++ exit ∷ []))
added before long entry exit row same e from to =
    let step = with-exit long entry exit row e from to in (
      λ h. elim (step.0 h) [ inl old ↦ inl (sym (same from to) ∙ old) | inr new ↦ inr new ],
      λ h. elim h [ inl old ↦ step.1 (inl (same from to ∙ old)) | inr new ↦ step.1 (inr new) ],
    )

adds-none : (table : List (List ℕ)) (facts : RangeFacts) → facts.returns ≡ false → AddsFacts table facts table
adds-none table facts not from to = (λ h. inl h, λ h. elim h [ inl old ↦ old | inr new ↦ absurd (let wrong : true ≡ false = sym new.0 ∙ not in let k : ⊥ = cc in k) ])

adds-main : (table : List (List ℕ)) (facts : RangeFacts) → facts.range.exit ≡ None → AddsFacts table facts table
adds-main table facts main from to = (λ h. inl h, λ h. elim h [ inl old ↦ old | inr new ↦ absurd (let wrong : None ≡ Some to = sym main ∙ ap (λ (r : Range). r.exit) new.1 in let k : ⊥ = cc in k) ])

part-is : (range : Range) (exit : ℕ) → range.exit ≡ Some exit → range ≡ part range.entry exit
part-is range exit e = ap (λ (o : Option ℕ). record { entry = range.entry; exit = o }) e

adds-part : (before after : List (List ℕ)) (facts : RangeFacts) (exit : ℕ) → facts.returns ≡ true → facts.range.exit ≡ Some exit → AddsRange before facts.range.entry exit after → AddsFacts before facts after
adds-part before after facts exit yes_it_does e adds from to = (
  λ h. elim ((adds from to).0 h) [
    | inl old ↦ inl old
    | inr new ↦ inr (yes_it_does, part-is facts.range exit e ∙ ap (λ n. part n exit) (sym new.0) ∙ ap (λ n. part from n) (sym new.1))
  ],
  λ h. elim h [
    | inl old ↦ (adds from to).1 (inl old)
    | inr new ↦
        let ends : Some exit ≡ Some to = sym e ∙ ap (λ (r : Range). r.exit) new.1 in
        let same : exit ≡ to = cc in
        (adds from to).1 (inr (sym (ap (λ (r : Range). r.entry) new.1), sym same))
  ],
)

exit-added : (table : List (List ℕ)) (entry exit : ℕ) →
    AddsRange table entry exit (with_exit table entry exit)
exit-added table entry exit =
    let row = row-there table entry in
    subst (λ (after : List (List ℕ)). AddsRange table entry exit after)
    (put-exit table entry exit row.0 row.1)
    (added table (lengthened table entry) entry exit row.0 (long-same table entry) row.1)

facts-added : (table : List (List ℕ)) (facts : RangeFacts) →
    AddsFacts table facts (with_facts table facts)
facts-added table facts = by facts.returns facts.range.exit refl refl where
  by : (returns : Bool) (exit : Option ℕ) → facts.returns ≡ returns → facts.range.exit ≡ exit →
      AddsFacts table facts (if returns then with_part table facts.range.entry exit else table)
  by false exit e g = adds-none table facts e
  by true None e g = adds-main table facts g
  by true (Some exit) e g = adds-part table (with_exit table facts.range.entry exit) facts exit e g
      (exit-added table facts.range.entry exit)

-- the table names what it named, and the ranges that return
abbrev Grows : (before after : List (List ℕ)) → List RangeFacts → Type 0
Grows before after ranges = (entry exit : ℕ) → returns_by after entry exit ≡ true
    ↔ ((returns_by before entry exit ≡ true) ⊎ Returns ranges entry exit)

grow-step : (facts : RangeFacts) (ranges : List RangeFacts) (table after : List (List ℕ)) →
    Grows (with_facts table facts) after ranges → Grows table after (facts ∷ ranges)
grow-step facts ranges table after rest entry exit = (forth, back) where
  forth : returns_by after entry exit ≡ true →
      (returns_by table entry exit ≡ true) ⊎ Returns (facts ∷ ranges) entry exit
  forth h = elim ((rest entry exit).0 h) [
    | inl old ↦ elim ((facts-added table facts entry exit).0 old) [
      | inl older ↦ inl older
      | inr new ↦ inr (0, facts, refl, new.0, new.1)
    ]
    | inr new ↦ inr (suc new.0, new.1, new.2, new.3, new.4)
  ]

  later : Returns (facts ∷ ranges) entry exit → returns_by after entry exit ≡ true
  later (zero, found, e, yes_it_does, is) =
      let same : facts ≡ found = cc in
      (rest entry exit).1 (inl ((facts-added table facts entry exit).1 (inr (
        ap (λ (f : RangeFacts). f.returns) same ∙ yes_it_does,
        ap (λ (f : RangeFacts). f.range) same ∙ is,
      ))))
  later (suc number, found, e, yes_it_does, is) =
      (rest entry exit).1 (inr (number, found, e, yes_it_does, is))

  back : (returns_by table entry exit ≡ true) ⊎ Returns (facts ∷ ranges) entry exit →
      returns_by after entry exit ≡ true
  back (inl old) = (rest entry exit).1 (inl ((facts-added table facts entry exit).1 (inl old)))
  back (inr new) = later new

grows : (ranges : List RangeFacts) (table : List (List ℕ)) →
    Grows table (fold with_facts table ranges) ranges
grows [] table entry exit = (
  λ h. inl h,
  λ h. elim h [ inl old ↦ old | inr new ↦ absurd (let e = new.2 in let k : ⊥ = cc in k) ],
)
grows (facts ∷ ranges) table entry exit =
    grow-step facts ranges table (fold with_facts (with_facts table facts) ranges)
    (λ from to. grows ranges (with_facts table facts) from to) entry exit

pub named_by : (ranges : List RangeFacts) (table : List (List ℕ)) → table ≡ table_by ranges →
    NamesReturning ranges table
named_by ranges table is =
    subst (λ (t : List (List ℕ)). NamesReturning ranges t) (sym is) named where
      named : NamesReturning ranges (table_by ranges)
      named entry exit = (
        λ h. elim ((grows ranges [] entry exit).0 h) [
          | inl old ↦ absurd (let k : ⊥ = cc in k)
          | inr new ↦ new
        ],
        λ h. (grows ranges [] entry exit).1 (inr h),
      )
