use Rattle.std.proofs.Common.{◌+◌, ◌<◌, ◌≤◌, length, arith}
use Rattle.restructure_asks.proofs.ReadingLemmas.{is-read-ended, is-read-nothing, is-read-past, is-left-taken}
use Rattle.restructure_asks.proofs.reading.read_source.Goals as goal

pub returns-in-End-clause-read : goal.returns-in-End-clause-read
returns-in-End-clause-read g c = is-read-ended _ _ _ _ _ _ c.loop-buffer.invariant.1 _ _ _ c.in-End.ensures.told

pub returns-in-Bytes-eq0-clause-read : goal.returns-in-Bytes-eq0-clause-read
returns-in-Bytes-eq0-clause-read g c =
    let room : 0 < c.min-room.result = omega (arith, c.min-room.ensures, c.len-in-loop-buffer.ensures.value, c.len.ensures.value, c.loop-buffer-test.true) in
    let long : 0 < length c.loop-buffer.buffer = omega (arith, c.loop-buffer.invariant.0) in
    is-read-nothing _ _ _ _ _ _ c.loop-buffer.invariant.1 _ _ _ _ _ c.in-Bytes-eq0.field-0-test room long c.in-Bytes-eq0.ensures.told

pub returns-clause-read : goal.returns-clause-read
returns-clause-read g c = is-read-past _ _ _ _ _ _ c.loop-buffer.invariant.1 (omega (arith, c.len.ensures.value))

pub returns-in_err-add-in-Bytes-clause-within : goal.returns-in_err-add-in-Bytes-clause-within
returns-in_err-add-in-Bytes-clause-within g c = λ err.
    let short : length c.loop-buffer.text + c.min-room.result ≤ 4194305 = omega (arith, c.min-room.ensures, c.len-in-loop-buffer.ensures.value, c.len.ensures.value, c.loop-buffer-test.true) in
    is-left-taken _ _ _ _ _ _ c.loop-buffer.invariant.1 _ _ _ _ c.in-Bytes.count short c.in-Bytes.ensures.bound c.in-Bytes.ensures.told
