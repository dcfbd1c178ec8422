use Rattle.std.proofs.Common.{◌≡◌, ℕ, ◌+◌, drop, length, sum_by, refl, ap, sym, ◌∙◌, subst, arith, rules, [], take}
use Rattle.std.proofs.lemmas.List.{take_all}
use Rattle.cob_tree.specs.Places.{stmt_places, when_places}
use Rattle.cob_tree.specs.Places as places
use Rattle.cob_tree.specs.declared.stmt.Stmt.{fold-roll-Stmt}
use Rattle.cob_tree.specs.declared.stmt.Stmt.TheOpen.{Stmt-F}
use Rattle.cob_tree.specs.declared.stmt.Stmt.TheVariants as form
use Rattle.control_flow_theory.specs.language.OwnItems.{stmts_own}
use Rattle.statement_lowering.proofs.PartRows.{stmt_in_places, stmts_left, when_in_own, when_in_places, whens_left}
use Rattle.statement_lowering.proofs.continuations_lemmas.ArmContinuations.{arith_within, evaluate_within, if_within, once_within, phrase_none, phrase_some, phrases_rests, read_within, when_more, within_none, arms_count, arms_none, loop_within, none_of, some_of, whens_split}
use Rattle.statement_lowering.proofs.continuations_lemmas.LoopContinuations.{turns_added}
use Rattle.statement_lowering.proofs.continuations_lemmas.Steps.{along_none, along_over, along_more, along_place, inner_fits, later_less, spot_counts}
use Rattle.control_flow_theory.specs.language.Control.{control_in}
use Rattle.lowering_labels.proofs.points_lemmas.SizeLemmas.{stmt_above}
use Rattle.statement_lowering.specs.continuations.Successors.{GoesLater, IsBefore}
use Rattle.statement_lowering.specs.continuations.Statements.{AddsArms, AddsRests, AddsContinuation, branch_arms, inner_places}
use Rattle.statement_lowering.proofs.continuations.statements.+spots.Goals as goal

pub push_stmts-loop-stmt-init : goal.push_stmts-loop-stmt-init
push_stmts-loop-stmt-init t c = (refl, along_none c.args.layout.now c.args.stmts.now c.args.onward.now c.args.spots.now.items c.requires.own)

pub push_stmts-returns : goal.push_stmts-returns
push_stmts-returns t c =
    along_over c.args.layout.now c.args.stmts.now c.args.onward.now c.loop-stmt.stmt-index c.args.spots.now.items c.loop-stmt.spots.items (omega (arith, c.loop-stmt-test.false)) c.loop-stmt.invariant.1

pub push_stmts-overflow_cast-place : goal.push_stmts-overflow_cast-place
push_stmts-overflow_cast-place t c =
    let layout = c.args.layout.now in
    let stmts = c.args.stmts.now in
    let onward = c.args.onward.now in
    let i = c.loop-stmt.stmt-index in
    let a = c.loop-stmt.invariant.1 in
    let old = c.args.spots.now.items in
    let now = c.loop-stmt.spots.items in
    let stands = along_place layout stmts onward i old now a in
    let here : c.len-place.result ≡ length now = omega (arith, c.len-place.ensures, c.loop-stmt.spots.ok.0) in
    omega (arith, here, stands, c.requires.fits, c.requires.small)

pub push_stmts-overflow_cast-next : goal.push_stmts-overflow_cast-next
push_stmts-overflow_cast-next t c =
    let layout = c.args.layout.now in
    let stmts = c.args.stmts.now in
    let onward = c.args.onward.now in
    let i = c.loop-stmt.stmt-index in
    let a = c.loop-stmt.invariant.1 in
    let old = c.args.spots.now.items in
    let now = c.loop-stmt.spots.items in
    let stmt = c.stmt-item.result in
    let sums = stmt_in_places stmts i stmt c.loop-stmt-test.true c.stmt-item.is in
    let stands = along_place layout stmts onward i old now a in
    let here : c.len-place.result ≡ length now = omega (arith, c.len-place.ensures, c.loop-stmt.spots.ok.0) in
    let size : c.stmt_size.result ≡ stmt_places stmt = omega (arith, c.stmt_size.ensures, sums, stands, c.requires.fits, c.requires.small) in
    omega (arith, size, sums, stands, c.requires.fits, c.requires.small)

pub push_stmts-overflow_add-next : goal.push_stmts-overflow_add-next
push_stmts-overflow_add-next t c =
    let layout = c.args.layout.now in
    let stmts = c.args.stmts.now in
    let onward = c.args.onward.now in
    let i = c.loop-stmt.stmt-index in
    let a = c.loop-stmt.invariant.1 in
    let old = c.args.spots.now.items in
    let now = c.loop-stmt.spots.items in
    let stmt = c.stmt-item.result in
    let sums = stmt_in_places stmts i stmt c.loop-stmt-test.true c.stmt-item.is in
    let stands = along_place layout stmts onward i old now a in
    let here : c.len-place.result ≡ length now = omega (arith, c.len-place.ensures, c.loop-stmt.spots.ok.0) in
    let size : c.stmt_size.result ≡ stmt_places stmt = omega (arith, c.stmt_size.ensures, sums, stands, c.requires.fits, c.requires.small) in
    omega (arith, here, size, sums, stands, c.requires.fits, c.requires.small)

pub push_stmts-before_rest-inner-requires : goal.push_stmts-before_rest-inner-requires
push_stmts-before_rest-inner-requires t c =
    let layout = c.args.layout.now in
    let stmts = c.args.stmts.now in
    let onward = c.args.onward.now in
    let i = c.loop-stmt.stmt-index in
    let a = c.loop-stmt.invariant.1 in
    let old = c.args.spots.now.items in
    let now = c.loop-stmt.spots.items in
    let stmt = c.stmt-item.result in
    let sums = stmt_in_places stmts i stmt c.loop-stmt-test.true c.stmt-item.is in
    let stands = along_place layout stmts onward i old now a in
    let here : c.len-place.result ≡ length now = omega (arith, c.len-place.ensures, c.loop-stmt.spots.ok.0) in
    let size : c.stmt_size.result ≡ stmt_places stmt = omega (arith, c.stmt_size.ensures, sums, stands, c.requires.fits, c.requires.small) in
    let behind : c.rest_at-in-loop-stmt.result.now ≡ drop (i + 1) stmts = c.rest_at-in-loop-stmt.ensures ∙ ap (λ n. drop (n + 1) stmts) c.loop-stmt.invariant.0 in
    omega (arith, here, size, sums, stands, ap (sum_by stmt_places) behind, c.requires.fits, c.requires.small)

pub push_stmts-push_within-requires : goal.push_stmts-push_within-requires
push_stmts-push_within-requires t c =
    let layout = c.args.layout.now in
    let stmts = c.args.stmts.now in
    let onward = c.args.onward.now in
    let i = c.loop-stmt.stmt-index in
    let a = c.loop-stmt.invariant.1 in
    let old = c.args.spots.now.items in
    let now = c.loop-stmt.spots.items in
    let stmt = c.stmt-item.result in
    let sums = stmt_in_places stmts i stmt c.loop-stmt-test.true c.stmt-item.is in
    let stands = along_place layout stmts onward i old now a in
    let here : c.len-place.result ≡ length now = omega (arith, c.len-place.ensures, c.loop-stmt.spots.ok.0) in
    let size : c.stmt_size.result ≡ stmt_places stmt = omega (arith, c.stmt_size.ensures, sums, stands, c.requires.fits, c.requires.small) in
    let behind : c.rest_at-in-loop-stmt.result.now ≡ drop (i + 1) stmts = c.rest_at-in-loop-stmt.ensures ∙ ap (λ n. drop (n + 1) stmts) c.loop-stmt.invariant.0 in
    let next = c.len-place.result + c.stmt_size.result in
    let far : next ≡ c.len-place.result + stmt_places stmt = ap (λ n. c.len-place.result + n) size in
    let inner = c.before_rest-inner.result in
    let before : IsBefore layout (drop (i + 1) stmts) next onward inner = subst (λ l. IsBefore layout l next onward inner) behind c.before_rest-inner.ensures in
    let mid = c.push_spot.new.spots.items in
    let one : AddsContinuation (drop i stmts) onward now mid =
    subst (λ l. AddsContinuation l onward now mid) (c.rest_at.ensures ∙ ap (λ n. drop n stmts) c.loop-stmt.invariant.0) c.in_ok-push_spot.ensures in
    let fit = inner_fits layout stmts onward i stmt c.loop-stmt-test.true c.stmt-item.is old now c.len-place.result here c.requires.fits c.requires.later a next inner far before in
    let longer = spot_counts layout stmts onward i stmt c.loop-stmt-test.true c.stmt-item.is old now c.len-place.result here c.requires.fits c.requires.later a mid one in (
      search (rules, sums, stmts_left i stmts),
      (
        sym longer,
        (
          fit.0,
          (
            omega (arith, longer, far, fit.1, stmt_above stmt),
            (c.requires.small, subst (λ n. GoesLater (n + inner_places stmt) layout.end inner.behind) (sym longer) fit.2),
          ),
        ),
      ),
    )

pub push_stmts-loop-stmt-preserved : goal.push_stmts-loop-stmt-preserved
push_stmts-loop-stmt-preserved t c =
    let layout = c.args.layout.now in
    let stmts = c.args.stmts.now in
    let onward = c.args.onward.now in
    let i = c.loop-stmt.stmt-index in
    let a = c.loop-stmt.invariant.1 in
    let old = c.args.spots.now.items in
    let now = c.loop-stmt.spots.items in
    let stmt = c.stmt-item.result in
    let sums = stmt_in_places stmts i stmt c.loop-stmt-test.true c.stmt-item.is in
    let stands = along_place layout stmts onward i old now a in
    let here : c.len-place.result ≡ length now = omega (arith, c.len-place.ensures, c.loop-stmt.spots.ok.0) in
    let size : c.stmt_size.result ≡ stmt_places stmt = omega (arith, c.stmt_size.ensures, sums, stands, c.requires.fits, c.requires.small) in
    let behind : c.rest_at-in-loop-stmt.result.now ≡ drop (i + 1) stmts = c.rest_at-in-loop-stmt.ensures ∙ ap (λ n. drop (n + 1) stmts) c.loop-stmt.invariant.0 in
    let next = c.len-place.result + c.stmt_size.result in
    let far : next ≡ c.len-place.result + stmt_places stmt = ap (λ n. c.len-place.result + n) size in
    let inner = c.before_rest-inner.result in
    let before : IsBefore layout (drop (i + 1) stmts) next onward inner = subst (λ l. IsBefore layout l next onward inner) behind c.before_rest-inner.ensures in
    let mid = c.push_spot.new.spots.items in
    let one : AddsContinuation (drop i stmts) onward now mid =
    subst (λ l. AddsContinuation l onward now mid) (c.rest_at.ensures ∙ ap (λ n. drop n stmts) c.loop-stmt.invariant.0) c.in_ok-push_spot.ensures in (
      omega (arith, c.loop-stmt.invariant.0),
      along_more layout stmts onward i stmt c.loop-stmt-test.true c.stmt-item.is old now c.len-place.result here c.requires.fits c.requires.later a mid c.push_within.new.spots.items next inner one far before c.in_ok-push_within.ensures,
    )

-- Statements that hold others.

pub push_within-returns-in_ok-push_stmts-in-If-2 : goal.push_within-returns-in_ok-push_stmts-in-If-2
push_within-returns-in_ok-push_stmts-in-If-2 t c =
    let layout = c.args.layout.now in
    let onward = c.args.onward.now in
    if_within layout onward c.args.stmt.now c.in-If.cond c.in-If.yes c.in-If.no c.args.place c.args.spots.now.items c.push_stmts.new.spots.items c.push_stmts-in-If.new.spots.items c.in-If.is c.requires.place
    (subst (λ l. AddsRests layout l onward c.args.spots.now.items c.push_stmts.new.spots.items) c.as_slice-met.ensures c.in_ok-push_stmts-in-If.ensures)
    (subst (λ l. AddsRests layout l onward c.push_stmts.new.spots.items c.push_stmts-in-If.new.spots.items) c.as_slice-unmet.ensures c.in_ok-push_stmts-in-If-2.ensures)

pub push_within-returns-in_ok-push_phrase-in-Evaluate : goal.push_within-returns-in_ok-push_phrase-in-Evaluate
push_within-returns-in_ok-push_phrase-in-Evaluate t c =
    let layout = c.args.layout.now in
    let onward = c.args.onward.now in
    evaluate_within layout onward c.args.stmt.now c.in-Evaluate.subject c.in-Evaluate.whens c.in-Evaluate.other c.args.place c.args.spots.now.items c.push_whens.new.spots.items c.push_phrase.new.spots.items c.in-Evaluate.is c.requires.place
    (subst (λ l. AddsArms layout (branch_arms l) (sum_by when_places l) onward c.args.spots.now.items c.push_whens.new.spots.items) c.as_slice-whens.ensures c.in_ok-push_whens-in-Evaluate.ensures)
    c.in_ok-push_phrase-in-Evaluate.ensures

pub push_within-returns-in_ok-push_arms-in-Read : goal.push_within-returns-in_ok-push_arms-in-Read
push_within-returns-in_ok-push_arms-in-Read t c =
    read_within c.args.layout.now c.args.onward.now c.args.stmt.now c.in-Read.file c.in-Read.into c.in-Read.arms c.args.place c.args.spots.now.items c.push_arms.new.spots.items c.in-Read.is c.requires.place
    c.in_ok-push_arms-in-Read.ensures

pub push_within-returns-in_ok-push_arms-in-Arith : goal.push_within-returns-in_ok-push_arms-in-Arith
push_within-returns-in_ok-push_arms-in-Arith t c =
    arith_within c.args.layout.now c.args.onward.now c.args.stmt.now c.in-Arith.calc c.in-Arith.into c.in-Arith.arms c.args.place c.args.spots.now.items c.push_arms-in-Arith.new.spots.items c.in-Arith.is c.requires.place
    c.in_ok-push_arms-in-Arith.ensures

pub push_within-returns-in_ok-push_turns-in-Loop : goal.push_within-returns-in_ok-push_turns-in-Loop
push_within-returns-in_ok-push_turns-in-Loop t c =
    loop_within c.args.layout.now c.args.onward.now c.args.stmt.now c.in-Loop.control c.in-Loop.body c.as_slice-turns.result.now c.args.place c.args.spots.now.items c.push_turns.new.spots.items c.in-Loop.is c.as_slice-turns.ensures
    c.in_ok-push_turns-in-Loop.ensures

-- Statements that hold none.

pub push_within-returns-in-Display : goal.push_within-returns-in-Display
push_within-returns-in-Display t c =
    within_none c.args.layout.now c.args.onward.now c.args.stmt.now c.args.place c.args.spots.now.items
    (ap stmt_places (c.in-Display.is ∙ sym (form.rolls-Display c.in-Display.items c.in-Display.advance)) ∙ fold-roll-Stmt ℕ ℕ ℕ places.places_step places.arms_step places.when_step (Stmt-F.Display c.in-Display.items c.in-Display.advance))

pub push_within-returns-in-Move : goal.push_within-returns-in-Move
push_within-returns-in-Move t c =
    within_none c.args.layout.now c.args.onward.now c.args.stmt.now c.args.place c.args.spots.now.items
    (ap stmt_places (c.in-Move.is ∙ sym (form.rolls-Move c.in-Move.from c.in-Move.to)) ∙ fold-roll-Stmt ℕ ℕ ℕ places.places_step places.arms_step places.when_step (Stmt-F.Move c.in-Move.from c.in-Move.to))

pub push_within-returns-in-SetTrue : goal.push_within-returns-in-SetTrue
push_within-returns-in-SetTrue t c =
    within_none c.args.layout.now c.args.onward.now c.args.stmt.now c.args.place c.args.spots.now.items
    (ap stmt_places (c.in-SetTrue.is ∙ sym (form.rolls-SetTrue c.in-SetTrue.field-0)) ∙ fold-roll-Stmt ℕ ℕ ℕ places.places_step places.arms_step places.when_step (Stmt-F.SetTrue c.in-SetTrue.field-0))

pub push_within-returns-in-Opens : goal.push_within-returns-in-Opens
push_within-returns-in-Opens t c =
    within_none c.args.layout.now c.args.onward.now c.args.stmt.now c.args.place c.args.spots.now.items
    (ap stmt_places (c.in-Opens.is ∙ sym (form.rolls-Opens c.in-Opens.field-0)) ∙ fold-roll-Stmt ℕ ℕ ℕ places.places_step places.arms_step places.when_step (Stmt-F.Opens c.in-Opens.field-0))

pub push_within-returns-in-Closes : goal.push_within-returns-in-Closes
push_within-returns-in-Closes t c =
    within_none c.args.layout.now c.args.onward.now c.args.stmt.now c.args.place c.args.spots.now.items
    (ap stmt_places (c.in-Closes.is ∙ sym (form.rolls-Closes c.in-Closes.field-0)) ∙ fold-roll-Stmt ℕ ℕ ℕ places.places_step places.arms_step places.when_step (Stmt-F.Closes c.in-Closes.field-0))

pub push_within-returns-in-Write : goal.push_within-returns-in-Write
push_within-returns-in-Write t c =
    within_none c.args.layout.now c.args.onward.now c.args.stmt.now c.args.place c.args.spots.now.items
    (ap stmt_places (c.in-Write.is ∙ sym (form.rolls-Write c.in-Write.entry c.in-Write.from)) ∙ fold-roll-Stmt ℕ ℕ ℕ places.places_step places.arms_step places.when_step (Stmt-F.Write c.in-Write.entry c.in-Write.from))

pub push_within-returns-in-Rewrite : goal.push_within-returns-in-Rewrite
push_within-returns-in-Rewrite t c =
    within_none c.args.layout.now c.args.onward.now c.args.stmt.now c.args.place c.args.spots.now.items
    (ap stmt_places (c.in-Rewrite.is ∙ sym (form.rolls-Rewrite c.in-Rewrite.entry c.in-Rewrite.from)) ∙ fold-roll-Stmt ℕ ℕ ℕ places.places_step places.arms_step places.when_step (Stmt-F.Rewrite c.in-Rewrite.entry c.in-Rewrite.from))

pub push_within-returns-in-Perform : goal.push_within-returns-in-Perform
push_within-returns-in-Perform t c =
    within_none c.args.layout.now c.args.onward.now c.args.stmt.now c.args.place c.args.spots.now.items
    (ap stmt_places (c.in-Perform.is ∙ sym (form.rolls-Perform c.in-Perform.entry c.in-Perform.exit c.in-Perform.control)) ∙ fold-roll-Stmt ℕ ℕ ℕ places.places_step places.arms_step places.when_step (Stmt-F.Perform c.in-Perform.entry c.in-Perform.exit c.in-Perform.control))

pub push_within-returns-in-Go : goal.push_within-returns-in-Go
push_within-returns-in-Go t c =
    within_none c.args.layout.now c.args.onward.now c.args.stmt.now c.args.place c.args.spots.now.items
    (ap stmt_places (c.in-Go.is ∙ sym (form.rolls-Go c.in-Go.field-0)) ∙ fold-roll-Stmt ℕ ℕ ℕ places.places_step places.arms_step places.when_step (Stmt-F.Go c.in-Go.field-0))

pub push_within-returns-in-GoDepending : goal.push_within-returns-in-GoDepending
push_within-returns-in-GoDepending t c =
    within_none c.args.layout.now c.args.onward.now c.args.stmt.now c.args.place c.args.spots.now.items
    (ap stmt_places (c.in-GoDepending.is ∙ sym (form.rolls-GoDepending c.in-GoDepending.to c.in-GoDepending.on)) ∙ fold-roll-Stmt ℕ ℕ ℕ places.places_step places.arms_step places.when_step (Stmt-F.GoDepending c.in-GoDepending.to c.in-GoDepending.on))

pub push_within-returns-in-NextSentence : goal.push_within-returns-in-NextSentence
push_within-returns-in-NextSentence t c =
    within_none c.args.layout.now c.args.onward.now c.args.stmt.now c.args.place c.args.spots.now.items
    (ap stmt_places (c.in-NextSentence.is ∙ sym form.rolls-NextSentence) ∙ fold-roll-Stmt ℕ ℕ ℕ places.places_step places.arms_step places.when_step Stmt-F.NextSentence)

pub push_within-returns-in-ExitParagraph : goal.push_within-returns-in-ExitParagraph
push_within-returns-in-ExitParagraph t c =
    within_none c.args.layout.now c.args.onward.now c.args.stmt.now c.args.place c.args.spots.now.items
    (ap stmt_places (c.in-ExitParagraph.is ∙ sym form.rolls-ExitParagraph) ∙ fold-roll-Stmt ℕ ℕ ℕ places.places_step places.arms_step places.when_step Stmt-F.ExitParagraph)

pub push_within-returns-in-ExitSection : goal.push_within-returns-in-ExitSection
push_within-returns-in-ExitSection t c =
    within_none c.args.layout.now c.args.onward.now c.args.stmt.now c.args.place c.args.spots.now.items
    (ap stmt_places (c.in-ExitSection.is ∙ sym form.rolls-ExitSection) ∙ fold-roll-Stmt ℕ ℕ ℕ places.places_step places.arms_step places.when_step Stmt-F.ExitSection)

pub push_within-returns-in-ExitPerform : goal.push_within-returns-in-ExitPerform
push_within-returns-in-ExitPerform t c =
    within_none c.args.layout.now c.args.onward.now c.args.stmt.now c.args.place c.args.spots.now.items
    (ap stmt_places (c.in-ExitPerform.is ∙ sym (form.rolls-ExitPerform c.in-ExitPerform.cycle)) ∙ fold-roll-Stmt ℕ ℕ ℕ places.places_step places.arms_step places.when_step (Stmt-F.ExitPerform c.in-ExitPerform.cycle))

pub push_within-returns-in-StopRun : goal.push_within-returns-in-StopRun
push_within-returns-in-StopRun t c =
    within_none c.args.layout.now c.args.onward.now c.args.stmt.now c.args.place c.args.spots.now.items
    (ap stmt_places (c.in-StopRun.is ∙ sym form.rolls-StopRun) ∙ fold-roll-Stmt ℕ ℕ ℕ places.places_step places.arms_step places.when_step Stmt-F.StopRun)

pub push_within-returns-in-Exit : goal.push_within-returns-in-Exit
push_within-returns-in-Exit t c =
    within_none c.args.layout.now c.args.onward.now c.args.stmt.now c.args.place c.args.spots.now.items
    (ap stmt_places (c.in-Exit.is ∙ sym form.rolls-Exit) ∙ fold-roll-Stmt ℕ ℕ ℕ places.places_step places.arms_step places.when_step Stmt-F.Exit)

pub push_within-returns-in-Continue : goal.push_within-returns-in-Continue
push_within-returns-in-Continue t c =
    within_none c.args.layout.now c.args.onward.now c.args.stmt.now c.args.place c.args.spots.now.items
    (ap stmt_places (c.in-Continue.is ∙ sym form.rolls-Continue) ∙ fold-roll-Stmt ℕ ℕ ℕ places.places_step places.arms_step places.when_step Stmt-F.Continue)

-- Arms.

pub push_whens-returns : goal.push_whens-returns
push_whens-returns t c =
    let whole : take c.loop-when.when-index c.args.whens.now ≡ c.args.whens.now = take_all c.loop-when.when-index c.args.whens.now (omega (arith, c.loop-when-test.false)) in
    subst (λ ws. AddsArms c.args.layout.now (branch_arms ws) (sum_by when_places ws) c.args.onward.now c.args.spots.now.items c.loop-when.spots.items) whole c.loop-when.invariant.1

pub push_whens-loop-when-preserved : goal.push_whens-loop-when-preserved
push_whens-loop-when-preserved t c =
    let layout = c.args.layout.now in
    let onward = c.args.onward.now in
    let whens = c.args.whens.now in
    let i = c.loop-when.when-index in
    let when = c.when-item.result in (
      (when_in_own whens i when c.loop-when-test.true c.when-item.is c.loop-when.invariant.0).1,
      when_more layout onward whens i when c.args.spots.now.items c.loop-when.spots.items c.push_stmts.new.spots.items c.loop-when-test.true c.when-item.is c.loop-when.invariant.1
          (subst (λ l. AddsRests layout l onward c.loop-when.spots.items c.push_stmts.new.spots.items) c.as_slice.ensures c.in_ok-push_stmts.ensures),
    )

pub push_phrase-returns-in-None : goal.push_phrase-returns-in-None
push_phrase-returns-in-None t c = phrase_none c.args.layout.now c.args.onward.now c.args.phrase.now c.args.spots.now.items c.in-None.is

pub push_phrase-returns-in_ok-push_stmts-in-Some : goal.push_phrase-returns-in_ok-push_stmts-in-Some
push_phrase-returns-in_ok-push_stmts-in-Some t c =
    phrase_some c.args.layout.now c.args.onward.now c.args.phrase.now c.in-Some.stmts c.as_slice.result.now c.args.spots.now.items c.push_stmts.new.spots.items c.in-Some.is c.as_slice.ensures c.in_ok-push_stmts-in-Some.ensures

pub push_arms-returns : goal.push_arms-returns
push_arms-returns t c =
    phrases_rests c.args.layout.now c.args.onward.now c.args.arms.now c.args.spots.now.items c.push_phrase.new.spots.items c.push_phrase-2.new.spots.items c.in_ok-push_phrase.ensures c.in_ok-push_phrase-2.ensures

pub push_turns-returns : goal.push_turns-returns
push_turns-returns t c =
    let one = some_of (control_in c.args.control.now) (sym c.is_once.ensures ∙ c.if-is_once.false) in
    turns_added c.args.layout.now (control_in c.args.control.now) one.0 c.args.turns.now c.args.place c.args.onward.now c.in_loop-inner.result c.args.spots.now.items c.push_stmts-2.new.spots.items one.1 c.requires.place
    c.in_loop-inner.ensures c.in_ok-push_stmts-2.ensures

pub push_turns-returns-then-is_once : goal.push_turns-returns-then-is_once
push_turns-returns-then-is_once t c =
    once_within c.args.layout.now c.args.onward.now (control_in c.args.control.now) c.args.turns.now c.args.place c.args.spots.now.items c.push_stmts.new.spots.items
    (none_of (control_in c.args.control.now) (sym c.is_once.ensures ∙ c.if-is_once.true)) c.requires.place c.in_ok-push_stmts.ensures

pub push_whens-loop-when-init : goal.push_whens-loop-when-init
push_whens-loop-when-init t c = (c.requires.own, arms_none c.args.layout.now c.args.onward.now (branch_arms []) c.args.spots.now.items)

pub push_whens-push_stmts-requires : goal.push_whens-push_stmts-requires
push_whens-push_stmts-requires t c =
    let layout = c.args.layout.now in
    let whens = c.args.whens.now in
    let i = c.loop-when.when-index in
    let when = c.when-item.result in
    let sums = when_in_places whens i when c.loop-when-test.true c.when-item.is in
    let slice = ap (sum_by stmt_places) c.as_slice.ensures in
    let split = whens_split i whens in
    let far = arms_count layout c.args.onward.now (branch_arms (take i whens)) (sum_by when_places (take i whens)) c.args.spots.now.items c.loop-when.spots.items c.loop-when.invariant.1 in
    let own = (when_in_own whens i when c.loop-when-test.true c.when-item.is c.loop-when.invariant.0).0 in (
      search (rules, sums, slice, whens_left i whens),
      (
        ap stmts_own c.as_slice.ensures ∙ own,
        (
          omega (arith, sums, slice, split, far, c.requires.fits),
          (
            c.requires.small,
            later_less (length c.args.spots.now.items + sum_by when_places whens) (length c.loop-when.spots.items + sum_by stmt_places c.as_slice.result.now) layout.end c.args.onward.now.behind (omega (arith, sums, slice, split, far)) c.requires.later,
          ),
        ),
      ),
    )
