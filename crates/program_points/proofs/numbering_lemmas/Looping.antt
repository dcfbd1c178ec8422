-- What loops add: the remainder is set aside first, and told once the body is there.
use Rattle.std.proofs.Common.{◌≡◌, ◌==◌, ◌+◌, ◌<◌, ℕ, Bool, true, false, List, [], ◌∷◌, ◌++◌, length, Option, Some, None, option_map, slice_get, refl, ap, sym, ◌∙◌, subst, arith, eqb-true, eq-eqb, length-append, set}
use Rattle.std.proofs.Math.ListN.{length-set}
use Rattle.cob_tree.specs.declared.program.Range.{Range}
use Rattle.control_flow_theory.specs.language.Language.{Chooser, Control, Times, Until, Varying, Body, Nested, Performed, Loop, Perform, Choose, If, Holds, given, done, Stmts, none, also, Program}
use Rattle.control_flow_theory.specs.language.Control.{perform_of, loop_of, always}
use Rattle.control_flow_theory.specs.language.Items.{Item, Do, Turn, Steps, before, before_body, past_sentence}
use Rattle.program_points.specs.paths.Step.{Point, at, start, next}
use Rattle.program_points.specs.paths.Step as lang
use Rattle.program_points.specs.declared.point_table.table.ProgramPoint.{ProgramPoint}
use Rattle.program_points.specs.declared.point_table.table.ProgramPoint.TheVariants.{Goes, Chooses, Stops}
use Rattle.program_points.specs.point_table.Table.{Describes}
use Rattle.program_points.specs.declared.numbering.build.Exits.{Exits}
use Rattle.program_points.specs.declared.numbering.kind.LoopStart.{LoopStart}
use Rattle.program_points.specs.declared.numbering.kind.LoopStart.TheVariants.{Before, Again, After}
use Rattle.program_points.specs.numbering.Kind.{kind_in, remainder}
use Rattle.program_points.specs.numbering.Build.{part_of, Grown, HasParagraphs, IsAt, IsBehind, two_ways, turned_at, IsClosed, inside}
use Rattle.program_points.proofs.numbering_lemmas.Growing.{Built, with_point, point-here, point-other, get-front, set-here, set-other, describes-more, grown-then, grown-add}

abbrev pub body_stmts : Body → Stmts
body_stmts (Nested stmts) = stmts
body_stmts (Performed entry exit) = also (Perform entry exit) none

body-before : (body : Body) (rest : List Item) → before (body_stmts body) rest ≡ before_body body rest
body-before (Nested stmts) rest = refl
body-before (Performed entry exit) rest = refl

module _ (never_first : Chooser → Bool) (program : Program) (number : ℕ) where
  turn-next : (control : Control) (body : Body) (rest : List Item) →
      next never_first program (at number (Turn (remainder control) body ∷ rest)) ≡ lang.Ways (Some (at number rest) ∷ Some (at number (before_body body (Turn (remainder control) body ∷ rest))) ∷ [])
  turn-next (Times amount) body rest = refl
  turn-next (Until after test) body rest = refl
  turn-next (Varying false set step test) body rest = refl
  turn-next (Varying true set step test) body rest = refl

  before-next : (control : Control) (body : Body) (rest : List Item) → kind_in control ≡ Before →
      next never_first program (at number (Do (Loop control body) ∷ rest)) ≡ lang.Ways (Some (at number (Turn (remainder control) body ∷ rest)) ∷ [])
  before-next (Times amount) body rest e = refl
  before-next (Until false test) body rest e = refl
  before-next (Until true test) body rest e = absurd (let k : ⊥ = cc in k)
  before-next (Varying false set step test) body rest e = absurd (let k : ⊥ = cc in k)
  before-next (Varying true set step test) body rest e = absurd (let k : ⊥ = cc in k)

  after-next : (control : Control) (body : Body) (rest : List Item) → kind_in control ≡ After →
      next never_first program (at number (Do (Loop control body) ∷ rest)) ≡ lang.Ways (Some (at number (before_body body (Turn (remainder control) body ∷ rest))) ∷ [])
  after-next (Times amount) body rest e = absurd (let k : ⊥ = cc in k)
  after-next (Until false test) body rest e = absurd (let k : ⊥ = cc in k)
  after-next (Until true test) body rest e = refl
  after-next (Varying false set step test) body rest e = absurd (let k : ⊥ = cc in k)
  after-next (Varying true set step test) body rest e = refl

  -- a VARYING tested before begins at its first test
  abbrev IsFirst : Control → Body → List Item → Point → Type 0
  IsFirst control body rest first =
      (next never_first program (at number (Do (Loop control body) ∷ rest)) ≡ lang.Ways (Some first ∷ []))
      × (next never_first program first ≡ lang.Ways (Some (at number rest) ∷ Some (at number (before_body body (Turn (remainder control) body ∷ rest))) ∷ []))
      × (first.paragraph ≡ number)

  again-next : (control : Control) (body : Body) (rest : List Item) → kind_in control ≡ Again → (first : Point) × IsFirst control body rest first
  again-next (Times amount) body rest e = absurd (let k : ⊥ = cc in k)
  again-next (Until false test) body rest e = absurd (let k : ⊥ = cc in k)
  again-next (Until true test) body rest e = absurd (let k : ⊥ = cc in k)
  again-next (Varying false set step test) body rest e = (at number (Turn (Steps false step test) body ∷ rest), (refl, refl, refl))
  again-next (Varying true set step test) body rest e = absurd (let k : ⊥ = cc in k)

-- the remainder is told
record Turned (never_first : Chooser → Bool) (program : Program) (number : ℕ) (old new : List ProgramPoint) (r0 r1 : List Range) (points : ℕ → Point) (rest : List Item) (after turn begin : ℕ) (control : Control) (body : Body) : Type 0 where
  later : ℕ → Point
  grown : Grown never_first program number old new r0 r1 points later
  turn_at : IsAt new later turn (at number (Turn (remainder control) body ∷ rest))
  start_at : IsAt new later begin (at number (before_body body (Turn (remainder control) body ∷ rest)))
  after_at : IsAt new later after (at number rest)

module _ (never_first : Chooser → Bool) (count number : ℕ) where
  abbrev B : List ProgramPoint → List ProgramPoint → List Range → List Range → Stmts → Exits → ℕ → Type 0
  B old new r0 r1 stmts exits begin = Built never_first count number old new r0 r1 stmts exits begin

  turned : (old mid : List ProgramPoint) (r0 r1 : List Range) (control : Control) (body : Body) (exits : Exits) (begin : ℕ) → B (old ++ Stops ∷ []) mid r0 r1 (body_stmts body) (inside exits (length old)) begin →
      (program : Program) (points : ℕ → Point) (rest : List Item) → IsBehind program count number old points rest exits →
      Turned never_first program number old (turned_at (length old) exits.after begin mid) r0 r1 points rest exits.after (length old) begin control body
  turned old mid r0 r1 control body exits begin built program points rest behind =
      let turn = length old in
      let items = Turn (remainder control) body ∷ rest in
      let aside = old ++ Stops ∷ [] in
      let told = Chooses (two_ways false exits.after begin) in
      let new = turned_at turn exits.after begin mid in
      let turning = at number items in
      let with_turn = with_point points turn turning in
      let long : length aside ≡ length old + 1 = length-append old (Stops ∷ []) in
      let still : (place : ℕ) (point : Point) → IsAt old points place point → IsAt aside with_turn place point = λ place point is. (point-other points turn turning place is.1 ∙ is.0, omega (arith, is.1, long)) in
      let turn_here : IsAt aside with_turn turn turning = (point-here points turn turning, omega (arith, long)) in
      let held : HasParagraphs program count aside with_turn = record {
        starts = λ k less. point-other points turn turning k (omega (arith, behind.paragraphs.room)) ∙ behind.paragraphs.starts k less;
        ends = λ k less. point-other points turn turning (count + k) (omega (arith, behind.paragraphs.room)) ∙ behind.paragraphs.ends k less;
        room = omega (arith, behind.paragraphs.room, long);
      } in
      let within : IsBehind program count number aside with_turn items (inside exits turn) = record {
        paragraphs = held;
        here = behind.here;
        after = turn_here;
        leave = still exits.leave (at number (past_sentence rest)) behind.leave;
        broken = still exits.after (at number rest) behind.after;
        cycled = turn_here;
      } in
      let b = built program with_turn items within in
      let size : length new ≡ length mid = length-set mid turn told in
      let turn_in : turn < length mid = omega (arith, b.1.longer, long) in
      let turn_is : b.0 turn ≡ turning = b.1.same turn (omega (arith, long)) ∙ point-here points turn turning in
      let after_is : b.0 exits.after ≡ at number rest = b.1.same exits.after (omega (arith, behind.after.1, long)) ∙ point-other points turn turning exits.after behind.after.1 ∙ behind.after.0 in
      let start_is : b.0 begin ≡ at number (before_body body items) = b.2.0 ∙ ap (λ r. at number r) (body-before body items) in
      let start_in = b.2.1 in
      let after_in = behind.after.1 in
      record {
        later = b.0;
        grown = record {
          longer = omega (arith, size, b.1.longer, long);
          kept = λ n lt. set-other mid turn n told (λ e. (omega arith)) ∙ b.1.kept n (omega (arith, long)) ∙ get-front old (Stops ∷ []) n lt;
          ranges = b.1.ranges;
          same = λ n lt. b.1.same n (omega (arith, long)) ∙ point-other points turn turning n lt;
          described = λ n le lt.
              (elim (n == turn) as (λ z. (n == turn) ≡ z → (place : ProgramPoint) × (slice_get new n ≡ Some place) × Describes (part_of new r1) b.0 place (next never_first program (b.0 n))) [
                | true ↦ λ e.
                    let here : n ≡ turn = eqb-true n turn e in (
                      told,
                      ap (λ (m : ℕ). slice_get new m) here ∙ set-here mid turn told turn_in,
                      subst (λ (p : Point). Describes (part_of new r1) b.0 told (next never_first program p)) (sym (ap b.0 here ∙ turn_is)) (
                        turn-next never_first program number control body rest
                            ∙ ap (λ (p : Point). lang.Ways (Some p ∷ Some (at number (before_body body items)) ∷ [])) (sym after_is) ∙ ap (λ (p : Point). lang.Ways (Some (b.0 exits.after) ∷ Some p ∷ [])) (sym start_is),
                        (omega (arith, after_in, size, turn_in), (omega (arith, start_in, size), tt)),
                      ),
                    )
                | false ↦ λ e.
                    let other : n ≡ turn → ⊥ = λ s. (let t : (n == turn) ≡ true = eq-eqb n turn s in let both : true ≡ false = sym t ∙ e in let k : ⊥ = cc in k) in
                    let d = b.1.described n (omega (arith, long)) (omega (arith, size)) in (
                      d.0,
                      set-other mid turn n told other ∙ d.1,
                      describes-more mid new r1 r1 b.0 b.0 d.0 (next never_first program (b.0 n)) (omega (arith, size)) (λ m r h. h) (λ m l. refl) d.2,
                    )
              ]) refl;
          owned = λ n le lt.
              (elim (n == turn) as (λ z. (n == turn) ≡ z → (b.0 n).paragraph ≡ number) [
                | true ↦ λ e. ap (λ (m : ℕ). (b.0 m).paragraph) (eqb-true n turn e) ∙ ap (λ (p : Point). p.paragraph) turn_is
                | false ↦ λ e.
                    let other : n ≡ turn → ⊥ = λ s. (let t : (n == turn) ≡ true = eq-eqb n turn s in let both : true ≡ false = sym t ∙ e in let k : ⊥ = cc in k) in
                    b.1.owned n (omega (arith, long)) (omega (arith, size))
              ]) refl;
        };
        turn_at = (turn_is, omega (arith, turn_in, size));
        start_at = (start_is, omega (arith, start_in, size));
        after_at = (after_is, omega (arith, after_in, turn_in, size));
      }

  -- the loop goes on to a place that is there
  goes-on : (program : Program) (old new : List ProgramPoint) (r0 r1 : List Range) (points later : ℕ → Point) (rest : List Item) (control : Control) (body : Body) (to : ℕ) (point : Point) → Grown never_first program number old new r0 r1 points later → IsAt new later to point →
      next never_first program (at number (Do (Loop control body) ∷ rest)) ≡ lang.Ways (Some point ∷ []) →
      (last : ℕ → Point) × Grown never_first program number old (new ++ Goes to ∷ []) r0 r1 points last × IsAt (new ++ Goes to ∷ []) last (length new) (at number (Do (Loop control body) ∷ rest))
  goes-on program old new r0 r1 points later rest control body to point grown is e =
      let loop = at number (Do (Loop control body) ∷ rest) in
      let last = with_point later (length new) loop in (
        last,
        grown-then never_first program number old new (new ++ Goes to ∷ []) r0 r1 r1 points later last grown
            (grown-add never_first program number new r1 r1 later (Goes to) loop refl (λ n r h. h) (e ∙ ap (λ (p : Point). lang.Ways (Some p ∷ [])) (sym is.0), is.1)),
        (point-here later (length new) loop, omega (arith, length-append new (Goes to ∷ []))),
      )

  abbrev Ends_ : LoopStart → List ProgramPoint → List ProgramPoint → List Range → List Range → Control → Body → Exits → ℕ → ℕ → Type 0
  Ends_ kind old mid r0 r1 control body exits start begin = (new : List ProgramPoint) → IsClosed kind (length old) exits.after start begin mid new → B old new r0 r1 (also (Loop control body) none) exits begin

  closed-at : (old mid : List ProgramPoint) (r0 r1 : List Range) (control : Control) (body : Body) (exits : Exits) (kind : LoopStart) (start begin : ℕ) → kind_in control ≡ kind → B (old ++ Stops ∷ []) mid r0 r1 (body_stmts body) (inside exits (length old)) start → Ends_ kind old mid r0 r1 control body exits start begin
  closed-at old mid r0 r1 control body exits Before start begin is built new closed = λ program points rest behind.
      let t = turned old mid r0 r1 control body exits start built program points rest behind in
      let size : length (turned_at (length old) exits.after start mid) ≡ length mid = length-set mid (length old) (Chooses (two_ways false exits.after start)) in
      let g = goes-on program old (turned_at (length old) exits.after start mid) r0 r1 points t.later rest control body (length old) (at number (Turn (remainder control) body ∷ rest)) t.grown t.turn_at (before-next never_first program number control body rest is) in
      (g.0, subst (λ ps. Grown never_first program number old ps r0 r1 points g.0) (sym closed.1) g.1, subst (λ n. IsAt new g.0 n (at number (Do (Loop control body) ∷ rest))) (size ∙ sym closed.0) (subst (λ ps. IsAt ps g.0 (length (turned_at (length old) exits.after start mid)) (at number (Do (Loop control body) ∷ rest))) (sym closed.1) g.2))
  closed-at old mid r0 r1 control body exits After start begin is built new closed = λ program points rest behind.
      let t = turned old mid r0 r1 control body exits start built program points rest behind in
      let size : length (turned_at (length old) exits.after start mid) ≡ length mid = length-set mid (length old) (Chooses (two_ways false exits.after start)) in
      let g = goes-on program old (turned_at (length old) exits.after start mid) r0 r1 points t.later rest control body start (at number (before_body body (Turn (remainder control) body ∷ rest))) t.grown t.start_at (after-next never_first program number control body rest is) in
      (g.0, subst (λ ps. Grown never_first program number old ps r0 r1 points g.0) (sym closed.1) g.1, subst (λ n. IsAt new g.0 n (at number (Do (Loop control body) ∷ rest))) (size ∙ sym closed.0) (subst (λ ps. IsAt ps g.0 (length (turned_at (length old) exits.after start mid)) (at number (Do (Loop control body) ∷ rest))) (sym closed.1) g.2))
  closed-at old mid r0 r1 control body exits Again start begin is built new closed = λ program points rest behind.
      let t = turned old mid r0 r1 control body exits start built program points rest behind in
      let base = turned_at (length old) exits.after start mid in
      let size : length base ≡ length mid = length-set mid (length old) (Chooses (two_ways false exits.after start)) in
      let first = again-next never_first program number control body rest is in
      let place = Chooses (two_ways false exits.after start) in
      let more = base ++ place ∷ [] in
      let via = with_point t.later (length base) first.0 in
      let long : length more ≡ length base + 1 = length-append base (place ∷ []) in
      let added = grown-then never_first program number old base more r0 r1 r1 points t.later via t.grown
      (grown-add never_first program number base r1 r1 t.later place first.0 first.1.2 (λ n r h. h) (
        first.1.1 ∙ ap (λ (p : Point). lang.Ways (Some p ∷ Some (at number (before_body body (Turn (remainder control) body ∷ rest))) ∷ [])) (sym t.after_at.0) ∙ ap (λ (p : Point). lang.Ways (Some (t.later exits.after) ∷ Some p ∷ [])) (sym t.start_at.0),
        (t.after_at.1, (t.start_at.1, tt)),
      )) in
      let first_at : IsAt more via (length mid) first.0 = subst (λ n. IsAt more via n first.0) size (point-here t.later (length base) first.0, omega (arith, long)) in
      let g = goes-on program old more r0 r1 points via rest control body (length mid) first.0 added first_at first.1.0 in
      let at_end : length more ≡ begin = (let c = closed.0 in omega (arith, long, size, c)) in
      (g.0, subst (λ ps. Grown never_first program number old ps r0 r1 points g.0) (sym closed.1) g.1, subst (λ n. IsAt new g.0 n (at number (Do (Loop control body) ∷ rest))) at_end (subst (λ ps. IsAt ps g.0 (length more) (at number (Do (Loop control body) ∷ rest))) (sym closed.1) g.2))

  pub loop-built : (c1 : ℕ) (old p1 mid new : List ProgramPoint) (r0 ra r1 r2 : List Range) (control : Control) (body : Body) (exits : Exits) (kind : LoopStart) (turn start begin : ℕ) → kind_in control ≡ kind → turn ≡ length old → p1 ≡ old ++ Stops ∷ [] → ra ≡ r0 → c1 ≡ count →
      Built never_first c1 number p1 mid ra r1 (body_stmts body) (inside exits turn) start → IsClosed kind turn exits.after start begin mid new → r2 ≡ r1 → B old new r0 r2 (also (Loop control body) none) exits begin
  loop-built c1 old p1 mid new r0 ra r1 r2 control body exits kind turn start begin is t p r c built closed same =
      let one = subst (λ (n : ℕ). Built never_first n number p1 mid ra r1 (body_stmts body) (inside exits turn) start) c built in
      let two = subst (λ (ps : List ProgramPoint). B ps mid ra r1 (body_stmts body) (inside exits turn) start) p one in
      let three = subst (λ (rs : List Range). B (old ++ Stops ∷ []) mid rs r1 (body_stmts body) (inside exits turn) start) r two in
      let four = subst (λ (n : ℕ). B (old ++ Stops ∷ []) mid r0 r1 (body_stmts body) (inside exits n) start) t three in
      subst (λ (rs : List Range). B old new r0 rs (also (Loop control body) none) exits begin) (sym same)
      (closed-at old mid r0 r1 control body exits kind start begin is four new (subst (λ (n : ℕ). IsClosed kind n exits.after start begin mid new) t closed))

-- what a PERFORM of paragraphs is, by where its loop begins

pub perform-once : (control : Option Control) (entry exit : ℕ) → None ≡ option_map kind_in control → perform_of control entry exit ≡ Perform entry exit
perform-once None entry exit e = refl
perform-once (Some control) entry exit e = absurd (let k : ⊥ = cc in k)

pub perform-loop : (control : Option Control) (entry exit : ℕ) (kind : LoopStart) → Some kind ≡ option_map kind_in control → (one : Control) × (kind_in one ≡ kind) × (perform_of control entry exit ≡ Loop one (Performed entry exit))
perform-loop None entry exit kind e = absurd (let k : ⊥ = cc in k)
perform-loop (Some control) entry exit kind e = (control, (let k : kind ≡ kind_in control = cc in sym k), refl)

pub loop-none : (control : Option Control) (body : Stmts) → None ≡ option_map kind_in control → loop_of control body ≡ Choose (If (Holds always)) (given body done)
loop-none None body e = refl
loop-none (Some control) body e = absurd (let k : ⊥ = cc in k)

pub loop-some : (control : Option Control) (body : Stmts) (kind : LoopStart) → Some kind ≡ option_map kind_in control → (one : Control) × (kind_in one ≡ kind) × (loop_of control body ≡ Loop one (Nested body))
loop-some None body kind e = absurd (let k : ⊥ = cc in k)
loop-some (Some control) body kind e = (control, (let k : kind ≡ kind_in control = cc in sym k), refl)
