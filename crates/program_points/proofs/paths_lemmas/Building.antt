-- What a level comes to, it comes to by moves, with lemmas for the ranges that are stepped over.
use Rattle.std.proofs.Common.{Bool, ◌≡◌, ◌==◌, ℕ, zero, suc, true, false, if◌then◌else◌, List, [], ◌∷◌, ◌++◌, Option, Some, None, refl, ap, sym, ◌∙◌, subst, ◌⊎◌, inl, inr, slice_get, eq-eqb, append_assoc, append-nil}
use Rattle.std.proofs.lemmas.List.{map-append}
use Rattle.cob_tree.specs.declared.program.Range.{Range}
use Rattle.program_points.specs.declared.paths.trail.Move.{Move}
use Rattle.program_points.specs.declared.paths.trail.Move.TheVariants.{Arm, Over}
use Rattle.program_points.specs.declared.paths.trail.Lemma.{Lemma}
use Rattle.control_flow_theory.specs.language.Language.{Chooser, Program}
use Rattle.program_points.specs.paths.Step.{Point, start, Ways, Calls, Ends, next, way_at, no_way, only, is_paragraph}
use Rattle.program_points.specs.paths.Flow.{part, is_exit}
use Rattle.program_points.specs.paths.Levels.{Comes, enters, chooses, over, passes}
use Rattle.program_points.specs.paths.Accepted.{Walk, walk, walk_to, by_choice, is_range, onward_by, onward, Leads, here, further, Return, Meets, LeadsTo, LemmasHold, lemma_ranges, IsIn, NoneTwice}
use Rattle.program_points.specs.paths.Laws.{EntersParagraphs}

-- the lemmas of the first list stand in the second, with their numbers
abbrev pub Within : List Range → List Range → Type 0
Within lemmas more = (number entry exit : ℕ) → is_range (slice_get lemmas number) entry exit ≡ true → is_range (slice_get more number) entry exit ≡ true

pub within-itself : (lemmas : List Range) → Within lemmas lemmas
within-itself lemmas = λ number entry exit h. h

pub within-through : (a b c : List Range) → Within a b → Within b c → Within a c
within-through a b c h k = λ number entry exit is. k number entry exit (h number entry exit is)

stays : (lemmas more : List Range) (number entry exit : ℕ) → is_range (slice_get lemmas number) entry exit ≡ true → is_range (slice_get (lemmas ++ more) number) entry exit ≡ true
stays [] more number entry exit h = absurd (let k : ⊥ = cc in k)
stays (lemma ∷ lemmas) more zero entry exit h = h
stays (lemma ∷ lemmas) more (suc number) entry exit h = stays lemmas more number entry exit h

within-append : (lemmas more : List Range) → Within lemmas (lemmas ++ more)
within-append lemmas more = λ number entry exit h. stays lemmas more number entry exit h

part-is : (entry exit : ℕ) → is_range (Some (part entry exit)) entry exit ≡ true
part-is entry exit = ap (λ b. if b then (exit == exit) else false) (eq-eqb entry entry refl) ∙ eq-eqb exit exit refl

last-is : (lemmas : List Range) (entry exit : ℕ) → (number : ℕ) × (is_range (slice_get (lemmas ++ part entry exit ∷ []) number) entry exit ≡ true)
last-is [] entry exit = (0, part-is entry exit)
last-is (lemma ∷ lemmas) entry exit = let found = last-is lemmas entry exit in (suc found.0, found.1)

-- a range stands among the lemmas, or it doesn't
found-in : (ranges : List Range) (entry exit : ℕ) → ((number : ℕ) × (is_range (slice_get ranges number) entry exit ≡ true)) ⊎ (IsIn (part entry exit) ranges → ⊥)
found-in [] entry exit = inr (λ h. h)
found-in (range ∷ ranges) entry exit =
    (elim (is_range (Some range) entry exit) as (λ b. is_range (Some range) entry exit ≡ b → ((number : ℕ) × (is_range (slice_get (range ∷ ranges) number) entry exit ≡ true)) ⊎ (IsIn (part entry exit) (range ∷ ranges) → ⊥)) [
      | true ↦ λ is. inl (0, is)
      | false ↦ λ is.
          elim (found-in ranges entry exit) [
            | inl found ↦ inl (suc found.0, found.1)
            | inr missing ↦ inr (λ h. elim h [
              | inl same ↦
                  let no : is_range (Some (part entry exit)) entry exit ≡ false = subst (λ q. is_range (Some q) entry exit ≡ false) same is in
                  let yes_it_is : is_range (Some (part entry exit)) entry exit ≡ true = part-is entry exit in
                  let both : true ≡ false = sym yes_it_is ∙ no in
                  (let k : ⊥ = cc in k)
              | inr more ↦ missing more
            ])
          ]
    ]) refl

in-append : (range : Range) (ranges : List Range) (new : Range) → IsIn range (ranges ++ new ∷ []) → IsIn range ranges ⊎ (new ≡ range)
in-append range [] new h = elim h [ inl same ↦ inr same | inr none ↦ absurd none ]
in-append range (other ∷ ranges) new h =
    elim h [
      | inl same ↦ inl (inl same)
      | inr more ↦ elim (in-append range ranges new more) [ inl old ↦ inl (inr old) | inr same ↦ inr same ]
    ]

once-append : (ranges : List Range) (new : Range) → NoneTwice ranges → (IsIn new ranges → ⊥) → NoneTwice (ranges ++ new ∷ [])
once-append [] new once missing = (λ h. h, tt)
once-append (range ∷ ranges) new once missing =
    (λ h. elim (in-append range ranges new h) [ inl old ↦ once.0 old | inr same ↦ missing (inl (sym same)) ], once-append ranges new once.1 (λ h. missing (inr h)))

hold-append : (never_first : Chooser → Bool) (program : Program) (earlier : List Range) (lemmas : List Lemma) (new : Lemma) → LemmasHold never_first program earlier lemmas →
    LeadsTo never_first program (earlier ++ lemma_ranges lemmas) new.range Return new.moves → LemmasHold never_first program earlier (lemmas ++ new ∷ [])
hold-append never_first program earlier [] new hold leads = (subst (λ ranges. LeadsTo never_first program ranges new.range Return new.moves) (append-nil earlier) leads, tt)
hold-append never_first program earlier (lemma ∷ lemmas) new hold leads = (
  hold.0,
  hold-append never_first program (earlier ++ lemma.range ∷ []) lemmas new hold.1
      (subst (λ ranges. LeadsTo never_first program ranges new.range Return new.moves) (sym (append_assoc earlier (lemma.range ∷ []) (lemma_ranges lemmas))) leads),
)

-- lemmas that hold, none of a range twice
pub record Known (never_first : Chooser → Bool) (program : Program) : Type 0 where
  pub lemmas : List Lemma
  pub hold : LemmasHold never_first program [] lemmas
  pub once : NoneTwice (lemma_ranges lemmas)

pub no-lemmas : (never_first : Chooser → Bool) (program : Program) → Known never_first program
no-lemmas never_first program = record { lemmas = []; hold = tt; once = tt }

-- more lemmas, by which moves lead to the point; they do so with more lemmas too, and whatever moves stand behind
pub record Built (never_first : Chooser → Bool) (program : Program) (range : Range) (point : Point) (before : Known never_first program) : Type 0 where
  pub known : Known never_first program
  pub within : Within (lemma_ranges before.lemmas) (lemma_ranges known.lemmas)
  pub moves : List Move
  pub leads : (lemmas : List Range) → Within (lemma_ranges known.lemmas) lemmas → (more : List Move) →
      Leads never_first program lemmas range (walk (start program range.entry) (moves ++ more)) (walk point more)

leads-on : (never_first : Chooser → Bool) (program : Program) (lemmas : List Range) (range : Range) (from via to : Walk) → Leads never_first program lemmas range from via → onward never_first program lemmas range via ≡ Some to → Leads never_first program lemmas range from to
leads-on never_first program lemmas range from via to (here there) e = further there to to e (here to)
leads-on never_first program lemmas range from via to (further from1 next1 via1 step path) e = further from1 next1 to step (leads-on never_first program lemmas range next1 via1 to path e)

no-way : (ways : List (Option Point)) (number : ℕ) (to : Point) → no_way ways ≡ true → way_at ways number ≡ Some to → ⊥
no-way [] number to none h = (let k : ⊥ = cc in k)
no-way (None ∷ ways) zero to none h = (let k : ⊥ = cc in k)
no-way (None ∷ ways) (suc number) to none h = no-way ways number to none h
no-way (Some point ∷ ways) number to none h = (let k : ⊥ = cc in k)

same-way : (ways : List (Option Point)) (one to : Point) (number : ℕ) → only ways ≡ Some one → way_at ways number ≡ Some to → one ≡ to
same-way [] one to number e h = absurd (let k : ⊥ = cc in k)
same-way (None ∷ ways) one to zero e h = absurd (let k : ⊥ = cc in k)
same-way (None ∷ ways) one to (suc number) e h = same-way ways one to number e h
same-way (Some point ∷ ways) one to zero e h =
    (elim (no_way ways) as (λ b. (if b then Some point else None) ≡ Some one → one ≡ to) [
      | true ↦ λ k. (let l : one ≡ to = cc in l)
      | false ↦ λ k. absurd (let l : ⊥ = cc in l)
    ]) e
same-way (Some point ∷ ways) one to (suc number) e h =
    (elim (no_way ways) as (λ b. no_way ways ≡ b → (if b then Some point else None) ≡ Some one → one ≡ to) [
      | true ↦ λ none k. absurd (no-way ways number to none h)
      | false ↦ λ none k. absurd (let l : ⊥ = cc in l)
    ]) refl e

module _ (never_first : Chooser → Bool) (program : Program) where
  -- a choice with several ways takes its arm
  arm-onward : (lemmas : List Range) (range : Range) (from to : Point) (ways : List (Option Point)) (number : ℕ) (more : List Move) →
      next never_first program from ≡ Ways ways → only ways ≡ None → way_at ways number ≡ Some to → onward never_first program lemmas range (walk from (Arm (suc number) ∷ more)) ≡ Some (walk to more)
  arm-onward lemmas range from to ways number more e several w =
      ap (λ now. onward_by never_first program lemmas range now (Arm (suc number) ∷ more)) e
      ∙ ap (λ o. by_choice o ways (Arm (suc number) ∷ more)) several
      ∙ ap (λ o. walk_to o more) w

  one-onward : (lemmas : List Range) (range : Range) (from to : Point) (ways : List (Option Point)) (more : List Move) →
      next never_first program from ≡ Ways ways → only ways ≡ Some to → onward never_first program lemmas range (walk from more) ≡ Some (walk to more)
  one-onward lemmas range from to ways more e one =
      ap (λ now. onward_by never_first program lemmas range now more) e ∙ ap (λ o. by_choice o ways more) one

  over-onward : (lemmas : List Range) (range : Range) (from after : Point) (entry exit number : ℕ) (more : List Move) →
      next never_first program from ≡ Calls entry exit after → is_range (slice_get lemmas number) entry exit ≡ true → onward never_first program lemmas range (walk from (Over number ∷ more)) ≡ Some (walk after more)
  over-onward lemmas range from after entry exit number more e is =
      ap (λ now. onward_by never_first program lemmas range now (Over number ∷ more)) e ∙ ap (λ b. if b then Some (walk after more) else None) is

  past-onward : (lemmas : List Range) (range : Range) (from : Point) (paragraph : ℕ) (more : List Move) →
      next never_first program from ≡ Ends paragraph → is_exit range.exit paragraph ≡ false → is_paragraph program (suc paragraph) ≡ true →
      onward never_first program lemmas range (walk from more) ≡ Some (walk (start program (suc paragraph)) more)
  past-onward lemmas range from paragraph more e out is =
      ap (λ now. onward_by never_first program lemmas range now more) e
      ∙ ap (λ b. if b then None else (if is_paragraph program (suc paragraph) then Some (walk (start program (suc paragraph)) more) else None)) out
      ∙ ap (λ b. if b then Some (walk (start program (suc paragraph)) more) else None) is

  -- one more step, which takes no move
  quietly : (range : Range) (from to : Point) (before : Known never_first program) → Built never_first program range from before →
      ((lemmas : List Range) (more : List Move) → onward never_first program lemmas range (walk from more) ≡ Some (walk to more)) → Built never_first program range to before
  quietly range from to before built step = record {
    known = built.known;
    within = built.within;
    moves = built.moves;
    leads = λ lemmas within more. leads-on never_first program lemmas range (walk (start program range.entry) (built.moves ++ more)) (walk from more) (walk to more) (built.leads lemmas within more) (step lemmas more);
  }

  -- one more step, which takes a move
  by-move : (range : Range) (from to : Point) (before : Known never_first program) (built : Built never_first program range from before) (known : Known never_first program) → Within (lemma_ranges built.known.lemmas) (lemma_ranges known.lemmas) → (move : Move) →
      ((lemmas : List Range) → Within (lemma_ranges known.lemmas) lemmas → (more : List Move) → onward never_first program lemmas range (walk from (move ∷ more)) ≡ Some (walk to more)) → Built never_first program range to before
  by-move range from to before built known grown move step = record {
    known = known;
    within = within-through (lemma_ranges before.lemmas) (lemma_ranges built.known.lemmas) (lemma_ranges known.lemmas) built.within grown;
    moves = built.moves ++ move ∷ [];
    leads = λ lemmas within more.
        subst (λ ms. Leads never_first program lemmas range (walk (start program range.entry) ms) (walk to more)) (sym (append_assoc built.moves (move ∷ []) more))
        (leads-on never_first program lemmas range (walk (start program range.entry) (built.moves ++ move ∷ more)) (walk from (move ∷ more)) (walk to more)
        (built.leads lemmas (within-through (lemma_ranges built.known.lemmas) (lemma_ranges known.lemmas) lemmas grown within) (move ∷ more))
        (step lemmas within more));
  }

  -- a lemma for the range, where there is none yet
  with-lemma : (entry exit : ℕ) (done : Point) (before : Known never_first program) → is_paragraph program entry ≡ true → Built never_first program (part entry exit) done before → next never_first program done ≡ Ends exit →
      (known : Known never_first program) × Within (lemma_ranges before.lemmas) (lemma_ranges known.lemmas) × (number : ℕ) × (is_range (slice_get (lemma_ranges known.lemmas) number) entry exit ≡ true)
  with-lemma entry exit done before there built e =
      elim (found-in (lemma_ranges built.known.lemmas) entry exit) [
        | inl found ↦ (built.known, built.within, found.0, found.1)
        | inr missing ↦
            let new : Lemma = record { range = part entry exit; moves = built.moves ++ [] } in
            let ranges = lemma_ranges built.known.lemmas in
            let grown : lemma_ranges (built.known.lemmas ++ new ∷ []) ≡ ranges ++ part entry exit ∷ [] = map-append (λ (lemma : Lemma). lemma.range) built.known.lemmas (new ∷ []) in
            let leads : LeadsTo never_first program ranges (part entry exit) Return (built.moves ++ []) = record {
              is_there = there;
              end = walk done [];
              path = built.leads ranges (within-itself ranges) [];
              meets = subst (λ now. Meets Return (part entry exit) now []) (sym e) (refl, eq-eqb exit exit refl);
            } in
            let known : Known never_first program = record {
              lemmas = built.known.lemmas ++ new ∷ [];
              hold = hold-append never_first program [] built.known.lemmas new built.known.hold leads;
              once = subst NoneTwice (sym grown) (once-append ranges (part entry exit) built.known.once missing);
            } in
            let last = last-is ranges entry exit in (
              known,
              within-through (lemma_ranges before.lemmas) ranges (lemma_ranges known.lemmas) built.within
                  (subst (λ rs. Within ranges rs) (sym grown) (within-append ranges (part entry exit ∷ []))),
              last.0,
              subst (λ rs. is_range (slice_get rs last.0) entry exit ≡ true) (sym grown) last.1,
            )
      ]

  pub built : EntersParagraphs never_first program → (range : Range) (point : Point) → Comes never_first program range point → (before : Known never_first program) → Built never_first program range point before
  built there range point (enters r) before = record {
    known = before;
    within = within-itself (lemma_ranges before.lemmas);
    moves = [];
    leads = λ lemmas within more. here (walk (start program r.entry) more);
  }
  built there range point (chooses r from to ways number c e w) before =
      let front = built there r from c before in
      (elim (only ways) as (λ o. only ways ≡ o → Built never_first program r to before) [
        | None ↦ λ several. by-move r from to before front front.known (within-itself (lemma_ranges front.known.lemmas)) (Arm (suc number))
            (λ lemmas within more. arm-onward lemmas r from to ways number more e several w)
        | Some one ↦ λ is. quietly r from to before front
            (λ lemmas more. one-onward lemmas r from to ways more e (is ∙ ap (λ (x : Point). Some x) (same-way ways one to number is w)))
      ]) refl
  built there range point (over r from after done entry exit c e1 d e2) before =
      let front = built there r from c before in
      let inner = built there (part entry exit) done d front.known in
      let lemma = with-lemma entry exit done front.known (there r from after entry exit c e1) inner e2 in
      by-move r from after before front lemma.0 lemma.1 (Over lemma.2)
      (λ lemmas within more. over-onward lemmas r from after entry exit lemma.2 more e1 (within lemma.2 entry exit lemma.3))
  built there range point (passes r from paragraph c e out is) before =
      quietly r from (start program (suc paragraph)) before (built there r from c before)
      (λ lemmas more. past-onward lemmas r from paragraph more e out is)
