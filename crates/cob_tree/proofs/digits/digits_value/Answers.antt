use Rattle.std.proofs.Common.{◌^◌, ◌<◌, ◌≤◌, ℕ, arith, lit<}
use Rattle.std.proofs.Math.Nat.{pow-le-pow_right}
use Rattle.cob_tree.proofs.digits.digits_value.Goals as goal

power_below : (number at limit : ℕ) → number < 10 ^ at → at ≤ limit → number < 10 ^ limit
power_below number at limit short here =
    let power : 10 ^ at ≤ 10 ^ limit = pow-le-pow_right (lit< tt) here in
    omega (arith, power)

-- digits before the nineteenth leave room for one more
room : (number at size : ℕ) → number < 10 ^ at → at < size → size ≤ 18 → number < 10 ^ 17
room number at size short here long = power_below number at 17 short (omega arith)

pub overflow_mul-number : goal.overflow_mul-number
overflow_mul-number c = omega (arith, room c.loop-byte.number c.loop-byte.byte-index _ c.loop-byte.invariant.short c.loop-byte-test.true c.if-bytes-gt-MOST_DIGITS.false)

pub overflow_add-number : goal.overflow_add-number
overflow_add-number c =
    omega (arith, room c.loop-byte.number c.loop-byte.byte-index _ c.loop-byte.invariant.short c.loop-byte-test.true c.if-bytes-gt-MOST_DIGITS.false, c.type_inv.bytes c.loop-byte.byte-index)

pub returns-clause-short : goal.returns-clause-short
returns-clause-short c = power_below c.loop-byte.number c.loop-byte.byte-index 18 c.loop-byte.invariant.short (omega arith)
