use Rattle.std.proofs.Common.{◌≤◌, ◌-◌, sym, length, arith}
use Rattle.overlap_trail.proofs.Naming.{depending-alone, depending-zero, depending-goes, depending-through, depending-past, depending-no-move, no-names, some-names, past-names}
use Rattle.overlap_trail.proofs.follow.follow_depending.Goals as goal

pub returns-then-is_empty-clause-follows : goal.returns-then-is_empty-clause-follows
returns-then-is_empty-clause-follows c = λ known last on_it. depending-alone known c.args.moves.now last c.args.taken c.args.names.now on_it (no-names c.args.names.now c.if-is_empty.ensures)

pub returns-then-number-eq0-clause-follows : goal.returns-then-number-eq0-clause-follows
returns-then-number-eq0-clause-follows c = λ known last on_it. depending-zero known c.args.moves.now last c.args.taken c.args.names.now on_it c.in-Some.number (some-names c.args.names.now c.if-is_empty.ensures) c.in-Some.ensures c.if-number-eq0.true

pub returns-in-Some-name_at-clause-follows : goal.returns-in-Some-name_at-clause-follows
returns-in-Some-name_at-clause-follows c = λ known last on_it.
    depending-goes known c.args.moves.now last c.args.taken c.args.names.now on_it c.in-Some.number (c.in-Some.number - 1) c.in-Some-name_at.name
    (some-names c.args.names.now c.if-is_empty.ensures) c.in-Some.ensures (omega (arith, c.if-number-eq0.false)) (sym c.in-Some-name_at.ensures)

pub returns-then-index-names-clause-follows : goal.returns-then-index-names-clause-follows
returns-then-index-names-clause-follows c = λ known last on_it.
    depending-through known c.args.moves.now last c.args.taken c.args.names.now on_it c.in-Some.number (c.in-Some.number - 1)
    (some-names c.args.names.now c.if-is_empty.ensures) c.in-Some.ensures (omega (arith, c.if-number-eq0.false)) c.if-index-names.true

pub returns-else-index-names-clause-follows : goal.returns-else-index-names-clause-follows
returns-else-index-names-clause-follows c = λ known last on_it.
    let past : length c.args.names.now ≤ c.in-Some.number - 1 = past-names c.args.names.now (c.in-Some.number - 1) (sym c.in-None-name_at.ensures) in
    depending-past known c.args.moves.now last c.args.taken c.args.names.now on_it c.in-Some.number (c.in-Some.number - 1)
    (some-names c.args.names.now c.if-is_empty.ensures) c.in-Some.ensures (omega (arith, c.if-number-eq0.false)) (omega (arith, past, c.if-index-names.false))

pub returns-in-None-clause-follows : goal.returns-in-None-clause-follows
returns-in-None-clause-follows c = λ known last on_it. depending-no-move known c.args.moves.now last c.args.taken c.args.names.now on_it (some-names c.args.names.now c.if-is_empty.ensures) c.in-None.ensures
