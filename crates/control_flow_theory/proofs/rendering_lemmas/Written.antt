-- The walk of a family of procedures, and the source machine of the program that is written of them.
use Rattle.std.proofs.Common.{◌≡◌, ℕ, zero, suc, ◌<◌, ◌≤◌, Bool, true, false, if◌then◌else◌, ◌==◌, List, [], ◌∷◌, ◌++◌, length, Option, Some, None, slice_get, map, refl, ap, sym, ◌∙◌, subst, arith, append-nil, eqb-true, inl, inr}
use Rattle.std.proofs.lemmas.Bool.{ne_eqb}
use Rattle.control_flow_theory.specs.runs.Run.{Going, Over}
use Rattle.control_flow_theory.specs.runs.Tied.{Tied}
use Rattle.control_flow_theory.specs.runs.Machine.{Machine, iterate, Reaches, meaning, Grows, Simulates}
use Rattle.control_flow_theory.proofs.runs_lemmas.Machines.{reaches-refl, reaches-stepped, stepped-simulates, simulated-tied}
use Rattle.control_flow_theory.specs.semantics.Outcome.{Event, Trace, How, Normally, Overlap, Reentry, Ending, Stopped, Faulted, Run, Standing, Tried, Got, Ends}
use Rattle.control_flow_theory.specs.language.Language.{Simple, Act, Own, Stmt, StopRun, Stmts, none, also, Paragraph, Program, unless_absent, Range, Main, Part, same_range}
use Rattle.control_flow_theory.specs.language.Language as language
use Rattle.control_flow_theory.specs.semantics.Doing.{Acting, Celled, celled, alone}
use Rattle.control_flow_theory.specs.language.Items.{Item, Do, SentenceEnd, Turn, before, items_of}
use Rattle.control_flow_theory.specs.semantics.Items.{Way, On, Halts, Into, To, ToEnd, tried, on, item_way}
use Rattle.control_flow_theory.specs.language.Items.{Pending, ends_at}
use Rattle.control_flow_theory.specs.semantics.Source.{SourceState, rest_of, comes_to, goes, falls, source_step, source_begun}
use Rattle.control_flow_theory.specs.semantics.Graph.{Tree, tree, End, Pick, Jump, Return, Stop, Dead, body_of, end_of, Family, IsLast}
use Rattle.control_flow_theory.specs.semantics.Walk.{Level, Walk, walk_goes, walk_end, walk_step, walk_begun}
use Rattle.control_flow_theory.specs.semantics_agree.Same.{EndsFairly}
use Rattle.control_flow_theory.specs.rendering.Rendering.{Naming, Procedure, place_of, required, then_stmts, closing, written_stmts, written_paragraph, rendered}
use Rattle.control_flow_theory.specs.rendering.Procedures.{Writable, FirstIsMain, AreProcedures}
use Rattle.control_flow_theory.specs.rendering.Serving.{Alike, Serves}
use Rattle.control_flow_theory.proofs.semantics_lemmas.Growth.{source-grows, main-grows}
use Rattle.control_flow_theory.proofs.semantics_agree_lemmas.Agreement.{same_number}
use Rattle.control_flow_theory.proofs.rendering_lemmas.Writing.{Eased, written_items, AllStand, Ready, Ways, written-before, eased-required, stand-before, written_item, item-ways}

pub same-range : (a b : Range) → same_range a b ≡ true → a ≡ b
same-range Main Main h = refl
same-range Main (Part entry exit) h = absurd (let e : false ≡ true = h in cc)
same-range (Part entry exit) Main h = absurd (let e : false ≡ true = h in cc)
same-range (Part entry exit) (Part other_entry other_exit) h = both (entry == other_entry) refl h
  where
    both : (t : Bool) → (entry == other_entry) ≡ t → (if t then (exit == other_exit) else false) ≡ true → Part entry exit ≡ Part other_entry other_exit
    both true e g = ap (λ n. Part n exit) (eqb-true entry other_entry e) ∙ ap (Part other_entry) (eqb-true exit other_exit g)
    both false e g = absurd (let e : false ≡ true = g in cc)

-- a range whose place is in the list stands there
pub found : (procedures : List Procedure) (range : Range) → place_of procedures range < length procedures →
    (procedure : Procedure) × (slice_get procedures (place_of procedures range) ≡ Some procedure) × (procedure.range ≡ range)
found [] range lt = absurd (omega (arith, lt))
found (procedure ∷ others) range lt = by_test (found others range) (same_range procedure.range range) refl lt
  where
    by_test : (place_of others range < length others → (p : Procedure) × (slice_get others (place_of others range) ≡ Some p) × (p.range ≡ range)) → (t : Bool) → same_range procedure.range range ≡ t → (if t then 0 else suc (place_of others range)) < length (procedure ∷ others) →
        (p : Procedure) × (slice_get (procedure ∷ others) (if t then 0 else suc (place_of others range)) ≡ Some p) × (p.range ≡ range)
    by_test later true e lt = (procedure, refl, same-range procedure.range range e)
    by_test later false e lt = later (let n : length (procedure ∷ others) ≡ suc (length others) = refl in omega (arith, lt, n))

abbrev pub or_else : {A : Type 0} → A → Option A → A
or_else x None = x
or_else x (Some y) = y

pub map-get : {A B : Type 0} (f : A → B) (xs : List A) (n : ℕ) (x : A) → slice_get xs n ≡ Some x → slice_get (map f xs) n ≡ Some (f x)
map-get f [] n x h = absurd (cc)
map-get f (y ∷ ys) zero x h = ap (λ z. Some (f z)) (ap (or_else y) h)
map-get f (y ∷ ys) (suc n) x h = map-get f ys n x h

before-then : (a b : Stmts) (rest : List Item) → before (then_stmts a b) rest ≡ before a (before b rest)
before-then none b rest = refl
before-then (also stmt stmts) b rest = ap (λ r. Do stmt ∷ r) (before-then stmts b rest)

required-then : (nothing : Simple) (a : Stmts) (stmt : Stmt) → required nothing (then_stmts a (also stmt none)) ≡ then_stmts a (also stmt none)
required-then nothing none stmt = refl
required-then nothing (also first stmts) stmt = refl

-- a list that is not over has something at its first place
pub first-main : (procedures : List Procedure) → FirstIsMain procedures → (procedure : Procedure) × (slice_get procedures 0 ≡ Some procedure) × (procedure.range ≡ Main)
first-main [] h = absurd h
first-main (procedure ∷ others) h = (procedure, refl, h)

main-first : (procedures : List Procedure) → FirstIsMain procedures → place_of procedures Main ≡ 0
main-first [] h = absurd h
main-first (procedure ∷ others) h = subst (λ r. (if same_range r Main then 0 else suc (place_of others Main)) ≡ 0) (sym h) refl

module _ {Memory Other Left World : Type 0} (acting : Acting Memory) (left : Memory → Left) (first : World → Memory) (result : Acting Other) (other_left : Other → Left) (other_first : World → Other) (Carries : Celled Memory → Other → Type 0) (naming : Naming) (kinds : Writable)
    (serves : Serves acting left first result other_left other_first Carries naming kinds) (family : Family) (procedures : List Procedure) (are : AreProcedures family naming kinds procedures) where
  abbrev place : Range → ℕ
  place = place_of procedures

  abbrev written : Program
  written = rendered naming procedures

  abbrev WalkState : Type 0
  WalkState = Walk Memory Left

  abbrev State : Type 0
  State = SourceState Other Left

  abbrev walked : WalkState → WalkState
  walked = walk_step acting left family

  abbrev stepped : State → State
  stepped = source_step (alone result) other_left written

  -- main walked from each world, and the written program run from it
  abbrev pub walks_from : Machine World Event (Ending Left) WalkState
  walks_from = record { step = walked; run = λ walk. walk.run; begun = λ world. walk_begun acting left family Main (record { own = first world; cells = λ range cell. 0 }) }

  abbrev pub written_from : Machine World Event (Ending Left) State
  written_from = record { step = stepped; run = λ state. state.run; begun = λ world. source_begun (alone result) other_left written (other_first world) }

  abbrev tail_of : Range → End → List Item
  tail_of range end = before (closing range end) (SentenceEnd ∷ [])

  abbrev items_at : Range → List Item → List Item → List Item
  items_at range = written_items acting left first result other_left other_first Carries naming kinds serves procedures range

  abbrev Ease : List Item → List Item → Type 0
  Ease = Eased acting left first result other_left other_first Carries naming kinds serves procedures Main

  abbrev Stands : Range → List Item → Type 0
  Stands range = AllStand acting left first result other_left other_first Carries naming kinds serves procedures range

  abbrev IsReady : Range → Celled Memory → List Item → Type 0
  IsReady range = Ready acting left first result other_left other_first Carries naming kinds serves procedures range

  abbrev written-item : Range → Item → Item
  written-item range = written_item acting left first result other_left other_first Carries naming kinds serves procedures range []

  -- what is still to do in a level, as it is written
  abbrev rest_at : Level → List Item
  rest_at level = items_at level.range level.items (tail_of level.range level.end)

  abbrev pending_of : Range → List Level → List Pending
  pending_of range [] = []
  pending_of range (caller ∷ callers) = record { end = place range; paragraph = place caller.range; rest = rest_at caller } ∷ pending_of caller.range callers

  abbrev walk_at : Range → List Item → End → List Level → Celled Memory → Trace → WalkState
  walk_at range items end callers memory trace = record { level = record { range = range; items = items; end = end }; callers = callers; memory = memory; run = record { trace = trace; standing = Going } }

  abbrev at : ℕ → List Item → List Pending → Other → Trace → State
  at paragraph rest pending memory trace = record { paragraph = paragraph; rest = rest; pending = pending; memory = memory; run = record { trace = trace; standing = Going } }

  abbrev source_of : WalkState → Other → State
  source_of walk other = record { paragraph = place walk.level.range; rest = rest_at walk.level; pending = pending_of walk.level.range walk.callers; memory = other; run = walk.run }

  -- each level was entered from one that stands earlier
  abbrev Stack : Range → List Level → Type 0
  Stack range [] = Unit {0}
  Stack range (caller ∷ callers) = (place caller.range < place range) × Stands caller.range caller.items × IsLast caller.end × Stack caller.range callers

  abbrev Reached : WalkState → Type 0
  Reached walk = (world : World) × Reaches walked (walks_from.begun world) walk

  pub record Fine (walk : WalkState) (other : Other) : Type 0 where
    pub carries : Carries walk.memory other
    pub ready : IsReady walk.level.range walk.memory walk.level.items
    pub last : IsLast walk.level.end
    pub stack : Stack walk.level.range walk.callers
    pub reached : Reached walk

  abbrev pub Beside : WalkState → State → Type 0
  Beside walk state = (other : Other) × (state ≡ source_of walk other) × Fine walk other

  -- both have shown the same, and where they go on they stand at one point
  abbrev pub Together : WalkState → State → Type 0
  Together walk state = (walk.run ≡ state.run) × (walk.run.standing ≡ Going → Beside walk state)

  -- some steps more and they stand together
  abbrev Lands : ℕ → WalkState → State → Type 0
  Lands most walk state = (j : ℕ) × (j ≤ most) × Together walk (iterate stepped j state)

  together-at : (walk : WalkState) (state : State) → Beside walk state → Together walk state
  together-at walk state h = (ap (λ s. s.run) (sym h.1), λ going. h)

  -- CONTINUE is done, where it stands there
  nothing-lands : (range : Range) (items : List Item) (end : End) (callers : List Level) (memory : Celled Memory) (trace : Trace) (other : Other) (rest : List Item) (u : Tried Other (Unit {0})) → rest ≡ items_at range items (tail_of range end) →
      Alike {Value = Unit {0}} left other_left Carries (λ a b. Unit {0}) (Got [] tt memory) u → IsReady range memory items → IsLast end → Stack range callers → Reached (walk_at range items end callers memory trace) →
      Together (walk_at range items end callers memory trace)
      (goes (alone result) other_left written (tried u (λ v. on (alone result) rest)) (at (place range) (Do (language.Do (Own naming.nothing)) ∷ rest) (pending_of range callers) other trace))
  nothing-lands range items end callers memory trace other rest (Got shown v next) e h ready last stack reached =
      let same : trace ++ (shown ++ []) ≡ trace = ap (λ t. trace ++ (t ++ [])) (sym h.0) ∙ append-nil trace in
      together-at (walk_at range items end callers memory trace) (at (place range) rest (pending_of range callers) next (trace ++ (shown ++ []))) (
        next,
        ap (λ r. at (place range) r (pending_of range callers) next (trace ++ (shown ++ []))) e ∙ ap (at (place range) (items_at range items (tail_of range end)) (pending_of range callers) next) same,
        record { carries = h.2; ready = ready; last = last; stack = stack; reached = reached },
      )
  nothing-lands range items end callers memory trace other rest (Ends shown kind next) e h ready last stack reached = absurd h

  eased-lands : (range : Range) (items : List Item) (end : End) (callers : List Level) (memory : Celled Memory) (trace : Trace) (other : Other) (rest : List Item) → Carries memory other → IsReady range memory items → IsLast end → Stack range callers →
      Reached (walk_at range items end callers memory trace) → Ease rest (items_at range items (tail_of range end)) → Lands 1 (walk_at range items end callers memory trace) (at (place range) rest (pending_of range callers) other trace)
  eased-lands range items end callers memory trace other rest carries ready last stack reached (inl e) = (
    0,
    omega arith,
    together-at (walk_at range items end callers memory trace) (at (place range) rest (pending_of range callers) other trace)
        (other, ap (λ r. at (place range) r (pending_of range callers) other trace) e, record { carries = carries; ready = ready; last = last; stack = stack; reached = reached }),
  )
  eased-lands range items end callers memory trace other rest carries ready last stack reached (inr e) =
      let plain = items_at range items (tail_of range end) in (
        1,
        omega arith,
        subst (λ r. Together (walk_at range items end callers memory trace) (stepped (at (place range) r (pending_of range callers) other trace))) (sym e)
            (nothing-lands range items end callers memory trace other plain (result.act naming.nothing other) refl (serves.nothing memory other carries) ready last stack reached),
      )

  paragraph-rest : (number : ℕ) (procedure : Procedure) → slice_get procedures number ≡ Some procedure → rest_of written number ≡ items_of (written_paragraph naming place procedure)
  paragraph-rest number procedure is = ap (λ o. items_of (unless_absent o)) (map-get (written_paragraph naming place) procedures number procedure is)

  -- at the entry of a range that stands in the list, both stand at its beginning
  abbrev EntersAs : Range → Tree → Type 0
  EntersAs range t =
      Ease (rest_of written (place range)) (items_at range (before (body_of t) []) (tail_of range (end_of t))) × Stands range (before (body_of t) []) × IsLast (end_of t)

  procedure-enters : (number : ℕ) (procedure : Procedure) → slice_get procedures number ≡ Some procedure → EntersAs procedure.range (family.node procedure.range (family.entry procedure.range))
  procedure-enters number procedure is =
      let body = written_stmts naming place procedure.range procedure.body in
      let end = closing procedure.range procedure.end in
      subst (EntersAs procedure.range) (sym (are.node number procedure is)) (
        subst (λ r. Ease r (items_at procedure.range (before procedure.body []) (tail_of procedure.range procedure.end)))
            (sym (ap (rest_of written) (are.alone number procedure is) ∙ paragraph-rest number procedure is))
            (eased-required acting left first result other_left other_first Carries naming kinds serves procedures procedure.range (then_stmts body end) (SentenceEnd ∷ []) (items_at procedure.range (before procedure.body []) (tail_of procedure.range procedure.end))
            (before-then body end (SentenceEnd ∷ []) ∙ written-before acting left first result other_left other_first Carries naming kinds serves procedures procedure.range procedure.body [] (tail_of procedure.range procedure.end))),
        stand-before acting left first result other_left other_first Carries naming kinds serves procedures procedure.range procedure.body [] (are.stands number procedure is) tt,
        are.last number procedure is,
      )

  range-enters : (range : Range) → place range < length procedures → EntersAs range (family.node range (family.entry range))
  range-enters range lt =
      let p = found procedures range lt in
      subst (λ r. EntersAs r (family.node r (family.entry r))) p.2 (procedure-enters (place range) p.0 p.1)

  -- main begins with nothing before it, since it is never empty
  abbrev StartsAs : Range → Tree → Type 0
  StartsAs range t = rest_of written 0 ≡ items_at range (before (body_of t) []) (tail_of range (end_of t))

  main-rest : (procedure : Procedure) → slice_get procedures 0 ≡ Some procedure → procedure.range ≡ Main → StartsAs procedure.range (tree procedure.body procedure.end)
  main-rest procedure is main =
      let body = written_stmts naming place procedure.range procedure.body in
      let end = closing procedure.range procedure.end in
      let stop : end ≡ also StopRun none = (subst (λ r. closing r procedure.end ≡ also StopRun none) (sym main) refl) in
      let whole : required naming.nothing (then_stmts body end) ≡ then_stmts body end =
      subst (λ e. required naming.nothing (then_stmts body e) ≡ then_stmts body e) (sym stop) (required-then naming.nothing body StopRun) in
      paragraph-rest 0 procedure is ∙ ap (λ l. before l (SentenceEnd ∷ [])) whole
      ∙ before-then body end (SentenceEnd ∷ []) ∙ written-before acting left first result other_left other_first Carries naming kinds serves procedures procedure.range procedure.body [] (tail_of procedure.range procedure.end)

  main-starts : StartsAs Main (family.node Main (family.entry Main))
  main-starts =
      let p = first-main procedures are.main in
      subst (λ r. StartsAs r (family.node r (family.entry r))) p.2 (subst (StartsAs p.0.range) (sym (are.node 0 p.0 p.1)) (main-rest p.0 p.1 p.2))

  main-enters : EntersAs Main (family.node Main (family.entry Main))
  main-enters =
      let p = first-main procedures are.main in
      subst (λ r. EntersAs r (family.node r (family.entry r))) p.2 (procedure-enters 0 p.0 p.1)

  not-pending : (range : Range) (callers : List Level) (to : ℕ) → Stack range callers → place range < to → ends_at to (pending_of range callers) ≡ false
  not-pending range [] to stack lt = refl
  not-pending range (caller ∷ callers) to stack lt =
      let e : (place range == to) ≡ false = ne_eqb (place range) to (λ is. absurd (omega (arith, is, lt))) in
      subst (λ t. (if t then true else ends_at to (pending_of caller.range callers)) ≡ false) (sym e) (not-pending caller.range callers to stack.3 (omega (arith, lt, stack.0)))

  over-together : (walk : WalkState) (state : State) (ending : Ending Left) → walk.run.standing ≡ Over ending → walk.run ≡ state.run → Together walk state
  over-together walk state ending over e = (e, λ going. absurd (cc))

  module _ (range : Range) (end : End) (callers : List Level) (memory : Celled Memory) (trace : Trace) (other : Other) (last : IsLast end) (stack : Stack range callers) where
    -- by what the head of the rest comes to
    ways-land : (items : List Item) (rest : List Item) (way : Way (Celled Memory)) (other_way : Way Other) → Ways acting left first result other_left other_first Carries naming kinds serves procedures range (tail_of range end) way other_way →
        Carries memory other → Reached (walk_goes acting left family way (walk_at range items end callers memory trace)) →
        Lands 2 (walk_goes acting left family way (walk_at range items end callers memory trace)) (goes (alone result) other_left written other_way (at (place range) rest (pending_of range callers) other trace))
    ways-land items rest (On shown now more) (On other_shown next others) h carries reached =
        let e : trace ++ other_shown ≡ trace ++ shown = ap (λ t. trace ++ t) (sym h.0) in
        subst (λ t. Lands 2 (walk_at range more end callers now (trace ++ shown)) (at (place range) others (pending_of range callers) next t)) (sym e)
        (let l = eased-lands range more end callers now (trace ++ shown) next others h.1 h.2 last stack reached h.3 in (l.0, omega (arith, l.1), l.2))
    ways-land items rest (On shown now more) (Halts other_shown how next) h carries reached = absurd h
    ways-land items rest (On shown now more) (Into entry exit others) h carries reached = absurd h
    ways-land items rest (On shown now more) (To other_shown next to) h carries reached = absurd h
    ways-land items rest (On shown now more) (ToEnd other_shown next to) h carries reached = absurd h
    ways-land items rest (Halts shown how now) (On other_shown next others) h carries reached = absurd h
    ways-land items rest (Halts shown how now) (Halts other_shown other_how next) h carries reached = (
      0,
      omega arith,
      over-together (walk_goes acting left family (Halts shown how now) (walk_at range items end callers memory trace))
          (goes (alone result) other_left written (Halts other_shown other_how next) (at (place range) rest (pending_of range callers) other trace)) (Stopped how (left now.own)) refl
          (let run = λ (t : Trace) (k : How) (l : Left). (let r : Run Left = record { trace = trace ++ t; standing = Over (Stopped k l) } in r) in
          ap (λ t. run t how (left now.own)) h.0 ∙ ap (λ k. run other_shown k (left now.own)) h.1 ∙ ap (run other_shown other_how) h.2),
    )
    ways-land items rest (Halts shown how now) (Into entry exit others) h carries reached = absurd h
    ways-land items rest (Halts shown how now) (To other_shown next to) h carries reached = absurd h
    ways-land items rest (Halts shown how now) (ToEnd other_shown next to) h carries reached = absurd h
    ways-land items rest (Into entry exit more) (On other_shown next others) h carries reached = absurd h
    ways-land items rest (Into entry exit more) (Halts other_shown how next) h carries reached = absurd h
    ways-land items rest (Into entry exit more) (Into other_entry other_exit others) h carries reached =
        let to = Part entry exit in
        let enters = range-enters to h.2.1 in
        let waiting = record { range = range; items = more; end = end } ∷ callers in
        let node = family.node to (family.entry to) in
        let inside = walk_at to (before (body_of node) []) (end_of node) waiting memory trace in
        let entered = λ (n x : ℕ) (r : List Item). goes (alone result) other_left written (Into n x r) (at (place range) rest (pending_of range callers) other trace) in
        let come : at (place to) (rest_of written (place to)) (pending_of to waiting) other trace ≡ entered (place to) (place to) (items_at range more (tail_of range end)) =
        ap (λ t. (let s : State = (if t then comes_to (alone result) other_left written (Faulted (Reentry (place to))) (at (place range) rest (pending_of range callers) other trace)
        else at (place to) (rest_of written (place to)) (pending_of to waiting) other trace) in s)) (sym (not-pending range callers (place to) stack h.2.0)) in
        let same : entered (place to) (place to) (items_at range more (tail_of range end)) ≡ entered other_entry other_exit others =
        ap (λ n. entered n (place to) (items_at range more (tail_of range end))) (sym h.0) ∙ ap (λ n. entered other_entry n (items_at range more (tail_of range end))) (sym h.1) ∙ ap (entered other_entry other_exit) (sym h.4) in
        subst (Lands 2 inside) (come ∙ same)
        (let l = eased-lands to (before (body_of node) []) (end_of node) waiting memory trace other (rest_of written (place to)) carries (inl enters.1) enters.2 (h.2.0, h.3, last, stack) reached enters.0 in (l.0, omega (arith, l.1), l.2))
    ways-land items rest (Into entry exit more) (To other_shown next to) h carries reached = absurd h
    ways-land items rest (Into entry exit more) (ToEnd other_shown next to) h carries reached = absurd h
    ways-land items rest (To shown now to) way h carries reached = absurd h
    ways-land items rest (ToEnd shown now to) way h carries reached = absurd h

  module _ (sound : (world : World) (n : ℕ) → EndsFairly (meaning walks_from world n).standing) where
    -- no walk from the start comes to be lost, or to return
    unlost : (walk : WalkState) → Reached walk → EndsFairly walk.run.standing
    unlost walk reached = subst (λ s. EndsFairly s.run.standing) reached.1.1 (sound reached.0 reached.1.0)

    module _ (range : Range) (callers : List Level) (memory : Celled Memory) (trace : Trace) (other : Other) (carries : Carries memory other) where
      -- the end of a level
      stop-lands : (tail : List Item) → tail ≡ Do StopRun ∷ SentenceEnd ∷ [] →
          Lands 2 (walk_end acting left family Stop (walk_at range [] Stop callers memory trace)) (stepped (at (place range) tail (pending_of range callers) other trace))
      stop-lands tail e =
          subst (λ r. Lands 2 (walk_end acting left family Stop (walk_at range [] Stop callers memory trace)) (stepped (at (place range) r (pending_of range callers) other trace))) (sym e) (
            0,
            omega arith,
            over-together (walk_end acting left family Stop (walk_at range [] Stop callers memory trace)) (stepped (at (place range) (Do StopRun ∷ SentenceEnd ∷ []) (pending_of range callers) other trace)) (Stopped Normally (left memory.own)) refl
                (let run = λ (t : Trace) (l : Left). (let r : Run Left = record { trace = t; standing = Over (Stopped Normally l) } in r) in
                ap (λ t. run t (left memory.own)) (sym (append-nil trace)) ∙ ap (run (trace ++ [])) (serves.leaves memory other carries)),
          )

      closing-stop : (r : Range) → tail_of r Stop ≡ Do StopRun ∷ SentenceEnd ∷ []
      closing-stop Main = refl
      closing-stop (Part entry exit) = refl

      closing-return : (r : Range) → 0 < place r → tail_of r Return ≡ SentenceEnd ∷ []
      closing-return Main lt = absurd (let e : place Main ≡ 0 = main-first procedures are.main in omega (arith, e, lt))
      closing-return (Part entry exit) lt = refl

    return-lands : (range : Range) (callers : List Level) (memory : Celled Memory) (trace : Trace) (other : Other) → Carries memory other → Stack range callers → Reached (walk_end acting left family Return (walk_at range [] Return callers memory trace)) →
        Lands 2 (walk_end acting left family Return (walk_at range [] Return callers memory trace)) (stepped (at (place range) (tail_of range Return) (pending_of range callers) other trace))
    return-lands range [] memory trace other carries stack reached = absurd (unlost (walk_end acting left family Return (walk_at range [] Return [] memory trace)) reached)
    return-lands range (caller ∷ callers) memory trace other carries stack reached =
        let pending = record { end = place range; paragraph = place caller.range; rest = rest_at caller } ∷ pending_of caller.range callers in
        let back = walk_at caller.range caller.items caller.end callers memory trace in
        let landed : State = at (place caller.range) (rest_at caller) (pending_of caller.range callers) other (trace ++ []) in
        let pops : landed ≡ stepped (at (place range) [] pending other (trace ++ [])) =
        ap (λ t. (let s : State = (if t then landed
        else (if ends_at (place range) (pending_of caller.range callers) then comes_to (alone result) other_left written (Faulted (Overlap (place range))) (at (place range) [] pending other (trace ++ []))
        else falls (alone result) other_left written (slice_get written.paragraphs (suc (place range))) (at (place range) [] pending other (trace ++ [])))) in s)) (sym (same_number (place range))) in
        subst (λ r. Lands 2 back (stepped (at (place range) r pending other trace))) (sym (closing-return range callers memory trace other carries range (omega (arith, stack.0)))) (
          1,
          omega arith,
          subst (Together back) pops
              (together-at back landed (
                other,
                ap (at (place caller.range) (rest_at caller) (pending_of caller.range callers) other) (append-nil trace),
                record { carries = carries; ready = inl stack.1; last = stack.2; stack = stack.3; reached = reached },
              )),
        )

    end-lands : (range : Range) (end : End) (callers : List Level) (memory : Celled Memory) (trace : Trace) (other : Other) → IsLast end → Carries memory other → Stack range callers → Reached (walk_end acting left family end (walk_at range [] end callers memory trace)) →
        Lands 2 (walk_end acting left family end (walk_at range [] end callers memory trace)) (stepped (at (place range) (tail_of range end) (pending_of range callers) other trace))
    end-lands range (Pick picker arms) callers memory trace other last carries stack reached = absurd last
    end-lands range (Jump to) callers memory trace other last carries stack reached = absurd last
    end-lands range Return callers memory trace other last carries stack reached = return-lands range callers memory trace other carries stack reached
    end-lands range Stop callers memory trace other last carries stack reached = stop-lands range callers memory trace other carries (tail_of range Stop) (closing-stop range callers memory trace other carries range)
    end-lands range Dead callers memory trace other last carries stack reached = absurd (unlost (walk_end acting left family Dead (walk_at range [] Dead callers memory trace)) reached)

    items-land : (range : Range) (items : List Item) (end : End) (callers : List Level) (memory : Celled Memory) (trace : Trace) (other : Other) → Fine (walk_at range items end callers memory trace) other →
        Lands 2 (walked (walk_at range items end callers memory trace)) (stepped (source_of (walk_at range items end callers memory trace) other))
    items-land range [] end callers memory trace other fine =
        let walk = walk_at range [] end callers memory trace in
        end-lands range end callers memory trace other fine.last fine.carries fine.stack (fine.reached.0, reaches-stepped walked (walks_from.begun fine.reached.0) walk fine.reached.1)
    items-land range (Do stmt ∷ items) end callers memory trace other fine =
        let walk = walk_at range (Do stmt ∷ items) end callers memory trace in
        ways-land range end callers memory trace other fine.last fine.stack (Do stmt ∷ items) (rest_at walk.level) (item_way (celled acting range) (Do stmt) items memory) (item_way (alone result) (written-item range (Do stmt)) (items_at range items (tail_of range end)) other)
        (item-ways acting left first result other_left other_first Carries naming kinds serves procedures range (tail_of range end) (Do stmt) items memory other fine.ready fine.carries)
        fine.carries (fine.reached.0, reaches-stepped walked (walks_from.begun fine.reached.0) walk fine.reached.1)
    items-land range (SentenceEnd ∷ items) end callers memory trace other fine =
        let walk = walk_at range (SentenceEnd ∷ items) end callers memory trace in
        ways-land range end callers memory trace other fine.last fine.stack (SentenceEnd ∷ items) (rest_at walk.level) (item_way (celled acting range) SentenceEnd items memory) (item_way (alone result) (written-item range SentenceEnd) (items_at range items (tail_of range end)) other)
        (item-ways acting left first result other_left other_first Carries naming kinds serves procedures range (tail_of range end) SentenceEnd items memory other fine.ready fine.carries)
        fine.carries (fine.reached.0, reaches-stepped walked (walks_from.begun fine.reached.0) walk fine.reached.1)
    items-land range (Turn turning body ∷ items) end callers memory trace other fine =
        let walk = walk_at range (Turn turning body ∷ items) end callers memory trace in
        ways-land range end callers memory trace other fine.last fine.stack (Turn turning body ∷ items) (rest_at walk.level) (item_way (celled acting range) (Turn turning body) items memory) (item_way (alone result) (written-item range (Turn turning body)) (items_at range items (tail_of range end)) other)
        (item-ways acting left first result other_left other_first Carries naming kinds serves procedures range (tail_of range end) (Turn turning body) items memory other fine.ready fine.carries)
        fine.carries (fine.reached.0, reaches-stepped walked (walks_from.begun fine.reached.0) walk fine.reached.1)

    step-lands : (walk : WalkState) (other : Other) → walk.run.standing ≡ Going → Fine walk other → Lands 2 (walked walk) (stepped (source_of walk other))
    step-lands walk other going fine =
        let with_standing = λ (standing : Standing Left). (let w : WalkState = record walk { run = record { trace = walk.run.trace; standing = standing } } in w) in
        subst (λ standing. Fine (with_standing standing) other → Lands 2 (walked (with_standing standing)) (stepped (source_of (with_standing standing) other))) (sym going)
        (λ fine. items-land walk.level.range walk.level.items walk.level.end walk.callers walk.memory walk.run.trace other fine) fine

    begun-together : (world : World) → Together (walks_from.begun world) (written_from.begun world)
    begun-together world =
        let node = family.node Main (family.entry Main) in
        let memory : Celled Memory = record { own = first world; cells = λ range cell. 0 } in
        let walk = walk_at Main (before (body_of node) []) (end_of node) [] memory [] in
        together-at walk (at 0 (rest_of written 0) [] (other_first world) []) (
          other_first world,
          ap (λ r. at 0 r [] (other_first world) []) main-starts ∙ ap (λ n. at n (rest_at walk.level) [] (other_first world) []) (sym (main-first procedures are.main)),
          record { carries = serves.starts world; ready = inl main-enters.1; last = main-enters.2; stack = tt; reached = (world, reaches-refl walked walk) },
        )

    moves-together : (walk : WalkState) (state : State) → Together walk state → walk.run.standing ≡ Going → (j : ℕ) × Together (walked walk) (iterate stepped j state) × (1 ≤ j) × (j ≤ 3)
    moves-together walk state h going =
        let b = h.1 going in
        let l = step-lands walk b.0 going b.2 in
        (suc l.0, subst (λ s. Together (walked walk) (iterate stepped l.0 (stepped s))) (sym b.1) l.2, omega arith, omega (arith, l.1))

    pub written-simulates : Simulates walks_from written_from Together
    written-simulates = stepped-simulates walks_from written_from Together 3 begun-together (λ walk state h. h.0) moves-together

    walks_from-grows : Grows walks_from
    walks_from-grows = let g = main-grows acting left family in record { more = g.more; stays = g.stays }

    written_from-grows : Grows written_from
    written_from-grows = let g = source-grows (alone result) other_left written in record { more = g.more; stays = g.stays }

    -- the walk of the family is tied to the written program's source machine
    pub written-tied : Tied (meaning walks_from) (meaning written_from)
    written-tied = simulated-tied walks_from written_from Together walks_from-grows written-simulates written_from-grows
