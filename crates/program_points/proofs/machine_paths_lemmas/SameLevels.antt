-- A level comes to the same points here and in the theory.
use Rattle.std.proofs.Common.{◌≡◌, ℕ, suc, true, false, List, [], ◌∷◌, ◌++◌, Option, Some, None, refl, ap, sym, ◌∙◌, subst}
use Rattle.std.specs.Prelude.{slice_get, length}
use Rattle.cob_tree.specs.declared.program.Range as tree
use Rattle.control_flow_theory.specs.language.Language.{Paragraph, Program, paragraph_at, Range, Main, Part, Perform}
use Rattle.control_flow_theory.specs.language.Items.{Item, Do}
use Rattle.control_flow_theory.specs.semantics.Items.{Way, On, To, ToEnd, Into, item_way}
use Rattle.control_flow_theory.specs.semantics.Source.{rest_of}
use Rattle.control_flow_theory.specs.lowering.FlowFacts.{FlowFacts, IsSource}
use Rattle.control_flow_theory.specs.lowering.flow.Comes.{IsNoExit, entry_of, begins}
use Rattle.control_flow_theory.specs.lowering.flow.Comes as theory
use Rattle.control_flow_theory.specs.lowering.flow.Paths.{free}
use Rattle.control_flow_theory.specs.lowering.flow.Entered.{FreelyComes}
use Rattle.control_flow_theory.proofs.lowering_lemmas.rests.Wholes.{OwnItem}
use Rattle.control_flow_theory.proofs.lowering_lemmas.rests.Fits.{comes-fits, rest-fits}
use Rattle.program_points.specs.paths.Step.{Point, at, start, is_present, next, next_in, way_at}
use Rattle.program_points.specs.paths.Flow.{main_range, part, is_exit}
use Rattle.program_points.specs.paths.Levels.{Comes, enters, chooses, over, passes}
use Rattle.program_points.specs.machine_paths.Uncounted.{uncounted, point_at, range_of}
use Rattle.program_points.specs.machine_paths.Laws.{SomeArmIsGiven}
use Rattle.program_points.proofs.machine_paths_lemmas.Uncounting.{u-items, s-items}
use Rattle.program_points.proofs.machine_paths_lemmas.Ways.{next-ways, next-calls, next-ends}
use Rattle.program_points.proofs.machine_paths_lemmas.Telling.{Tells, tells}
use Rattle.program_points.proofs.machine_paths_lemmas.Backing.{Backs, back_on, back_to, back_end, back}

pub is-there : (o : Option Paragraph) → is_present o ≡ true → (next : Paragraph) × (o ≡ Some next)
is-there None e = absurd (let h : ⊥ = cc in h)
is-there (Some next) e = (next, refl)

no-exit : (range : Range) (number : ℕ) → IsNoExit range number → is_exit (range_of range).exit number ≡ false
no-exit Main number out = refl
no-exit (Part entry exit) number out = out

exit-no : (range : Range) (number : ℕ) → is_exit (range_of range).exit number ≡ false → IsNoExit range number
exit-no Main number out = tt
exit-no (Part entry exit) number out = out

module _ (told : FlowFacts) (program : Program) (source : IsSource told program) (some : SomeArmIsGiven told) where
  abbrev count : ℕ
  count = length program.paragraphs

  abbrev Here : Range → ℕ → List Item → Type 0
  Here range number rest = Comes told.never_first program (range_of range) (point_at number rest)

  abbrev There : Range → ℕ → List Item → Type 0
  There range number rest = FreelyComes told program range number rest

  pub whole-rest : (number : ℕ) → point_at number (rest_of program number) ≡ start program number
  whole-rest number = ap (λ r. at number r) (u-items (paragraph_at program number))

  pub own-first : (range : Range) (number : ℕ) (x : Item) (xs : List Item) → There range number (x ∷ xs) → OwnItem told count x
  own-first range number x xs c = (comes-fits told program source (free told) 0 (rest_of program 0) (rest-fits told program source 0) range number (x ∷ xs) c).0

  abbrev Told_ : ℕ → Item → List Item → Way (List ℕ) → Type 0
  Told_ number x xs way = Tells told program number way (next_in told.never_first program number (uncounted (x ∷ xs)))

  told-by : (range : Range) (number : ℕ) (x : Item) (xs : List Item) (m : List ℕ) (way : Way (List ℕ)) → There range number (x ∷ xs) → item_way (free told) x xs m ≡ way → Told_ number x xs way
  told-by range number x xs m way c e = subst (Told_ number x xs) e (tells told program number count some x xs m (own-first range number x xs c))

  -- from the theory
  pub comes-here : (range : Range) (number : ℕ) (rest : List Item) → There range number rest → Here range number rest
  comes-here range number rest begins = subst (λ p. Comes told.never_first program main_range p) (sym (whole-rest 0)) (enters main_range)
  comes-here range number rest (theory.enters entry exit) = subst (λ p. Comes told.never_first program (part entry exit) p) (sym (whole-rest entry)) (enters (part entry exit))
  comes-here range number rest (theory.goes_on r n x xs m t after items c e) =
      let w = told-by r n x xs m (On t after items) c e in
      chooses (range_of r) (point_at n (x ∷ xs)) (point_at n items) w.0 w.1 (comes-here r n (x ∷ xs) c) w.2 w.3
  comes-here range number rest (theory.goes_to r n x xs m t after to c e) =
      let w = told-by r n x xs m (To t after to) c e in
      subst (λ p. Comes told.never_first program (range_of r) p) (sym (whole-rest to))
      (chooses (range_of r) (point_at n (x ∷ xs)) (start program to) w.0 w.1 (comes-here r n (x ∷ xs) c) w.2 w.3)
  comes-here range number rest (theory.goes_to_end r n x xs m t after to c e) =
      let w = told-by r n x xs m (ToEnd t after to) c e in
      chooses (range_of r) (point_at n (x ∷ xs)) (at to []) w.0 w.1 (comes-here r n (x ∷ xs) c) w.2 w.3
  comes-here range number rest (theory.over r n x xs m entry exit items c e d) =
      let w = told-by r n x xs m (Into entry exit items) c e in
      over (range_of r) (point_at n (x ∷ xs)) (point_at n items) (at exit []) entry exit (comes-here r n (x ∷ xs) c) w (comes-here (Part entry exit) exit [] d) refl
  comes-here range number rest (theory.falls r n next is out c) =
      subst (λ p. Comes told.never_first program (range_of r) p) (sym (whole-rest (suc n)))
      (passes (range_of r) (at n []) n (comes-here r n [] c) refl (no-exit r n out) (ap is_present is))

  stands : (range : Range) (number : ℕ) (rest : List Item) → uncounted rest ≡ uncounted (rest_of program number) → There range number (rest_of program number) → There range number rest
  stands range number rest e c = subst (λ z. There range number z) (sym (s-items (paragraph_at program number) rest e)) c

  entered : (range : Range) → There range (entry_of range) (rest_of program (entry_of range))
  entered Main = begins
  entered (Part entry exit) = theory.enters entry exit

  entry-same : (range : Range) → (range_of range).entry ≡ entry_of range
  entry-same Main = refl
  entry-same (Part entry exit) = refl

  -- by what an item does here, the theory comes there
  backed : (range : Range) (number : ℕ) (x : Item) (xs : List Item) (to : ℕ) (r : List Item) → ((rest : List Item) → uncounted rest ≡ uncounted (x ∷ xs) → There range number rest) → Backs told program number x xs to r → There range to r
  backed range number x xs to r from (back_on item others ways rest same step) =
      theory.goes_on range number item others (ways ++ []) [] [] rest (from (item ∷ others) same) (step [])
  backed range number x xs to r from (back_to ways n step) = theory.goes_to range number x xs (ways ++ []) [] [] n (from (x ∷ xs) refl) (step [])
  backed range number x xs to r from (back_end ways n step) = theory.goes_to_end range number x xs (ways ++ []) [] [] n (from (x ∷ xs) refl) (step [])

  at-first : (range : Range) (from : Point) (x : Item) (xs : List Item) → from.rest ≡ x ∷ xs → ((rest : List Item) → uncounted rest ≡ uncounted from.rest → There range from.paragraph rest) → (rest : List Item) → uncounted rest ≡ uncounted (x ∷ xs) → There range from.paragraph rest
  at-first range from x xs is all rest e = all rest (e ∙ ap uncounted (sym is))

  -- from here, with any turns left
  comes-there : (range : Range) (r : tree.Range) (p : Point) → Comes told.never_first program r p → r ≡ range_of range → (rest : List Item) → uncounted rest ≡ uncounted p.rest → There range p.paragraph rest
  comes-there range r p (enters r1) same rest e =
      let entry = ap (λ (q : tree.Range). q.entry) same ∙ entry-same range in
      subst (λ n. There range n rest) (sym entry)
      (stands range (entry_of range) rest (e ∙ ap (λ n. uncounted (rest_of program n)) entry) (entered range))
  comes-there range r p (chooses r1 from to ways k c e w) same rest h =
      let all = comes-there range r1 from c same in
      let first = next-ways told.never_first program from.paragraph from.rest ways e in
      let here = at-first range from first.0 first.1 first.2 all in
      backed range from.paragraph first.0 first.1 to.paragraph rest here
      (back told program from.paragraph count some first.0 first.1 (own-first range from.paragraph first.0 first.1 (here (first.0 ∷ first.1) refl)) k to (ap (λ ws. way_at ws k) first.3 ∙ w) rest h)
  comes-there range r p (over r1 from after done entry exit c e d f) same rest h =
      let all = comes-there range r1 from c same in
      let first = next-calls told.never_first program from.paragraph from.rest entry exit after e in
      let here = at-first range from (Do (Perform entry exit)) first.0 first.1 all in
      let tail : uncounted rest ≡ uncounted first.0 = h ∙ ap (λ (q : Point). uncounted q.rest) first.2 in
      let last = next-ends told.never_first program done.paragraph done.rest exit f in
      let returned = comes-there (Part entry exit) (part entry exit) done d refl [] (ap uncounted (sym last.0)) in
      subst (λ n. There range n rest) (ap (λ (q : Point). q.paragraph) (sym first.2))
      (theory.over range from.paragraph (Do (Perform entry exit)) rest [] entry exit rest (here (Do (Perform entry exit) ∷ rest) (ap (λ ys. Do (Perform entry exit) ∷ ys) tail)) refl
      (subst (λ n. There (Part entry exit) n []) (sym last.1) returned))
  comes-there range r p (passes r1 from paragraph c e out is) same rest h =
      let all = comes-there range r1 from c same in
      let last = next-ends told.never_first program from.paragraph from.rest paragraph e in
      let there = is-there (slice_get program.paragraphs (suc paragraph)) is in
      let done : There range paragraph [] = subst (λ n. There range n []) (sym last.1) (all [] (ap uncounted (sym last.0))) in
      stands range (suc paragraph) rest h
      (theory.falls range paragraph there.0 there.1 (exit-no range paragraph (ap (λ (q : tree.Range). is_exit q.exit paragraph) (sym same) ∙ out)) done)

  pub comes-back : (range : Range) (p : Point) → Comes told.never_first program (range_of range) p → (rest : List Item) → uncounted rest ≡ uncounted p.rest → There range p.paragraph rest
  comes-back range p c rest e = comes-there range (range_of range) p c refl rest e
