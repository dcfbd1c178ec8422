use Rattle.std.proofs.Common.{◌≡◌, false, eqb, get_or, sym, ap, ◌∙◌, arith, w8}
use Rattle.std.specs.Simd.Lanes.{chunk}
use Rattle.std.proofs.lemmas.Bool.Decides.{nat_tests}
use Rattle.std.proofs.lemmas.Simd.{length-chunk, bitmask_splat, none_from_empty_mask, trailing_mask_l, run_in_chunk_le, run_in_chunk_fails}
use lib.Count.{count_trailing_zeros}
use Rattle.ref_format.proofs.line.without_line_feed.Goals as goal

pub returns-then-ends-eq0-clause-before : goal.returns-then-ends-eq0-clause-before
returns-then-ends-eq0-clause-before c k near is =
    let bytes = c.args.bytes.now in
    let long = length-chunk 0 16 bytes (omega arith) in
    let ends = bitmask_splat w8 eqb (chunk 0 16 bytes) 16 10 long (omega arith) in
    let other : eqb (get_or bytes k 0) 10 ≡ false = none_from_empty_mask (λ b. eqb b 10) bytes 0 16 0 (omega arith) (sym ends ∙ c.if-ends-eq0.true) k (omega arith) (omega arith) in
    grind (arith, nat_tests, other, is)

pub returns-else-ends-eq0-clause-within : goal.returns-else-ends-eq0-clause-within
returns-else-ends-eq0-clause-within c =
    let bytes = c.args.bytes.now in
    let v = chunk 0 16 bytes in
    let long = length-chunk 0 16 bytes (omega arith) in
    let ends = bitmask_splat w8 eqb v 16 10 long (omega arith) in
    let counted = ap (count_trailing_zeros 64) ends ∙ trailing_mask_l (λ b. eqb b 10) 64 v (omega arith) (omega arith) in
    let within = run_in_chunk_le (λ b. eqb b 10) bytes 0 16 _ 0 (omega arith) counted in
    omega (arith, within)

pub returns-else-ends-eq0-clause-before : goal.returns-else-ends-eq0-clause-before
returns-else-ends-eq0-clause-before c k near is =
    let bytes = c.args.bytes.now in
    let v = chunk 0 16 bytes in
    let long = length-chunk 0 16 bytes (omega arith) in
    let ends = bitmask_splat w8 eqb v 16 10 long (omega arith) in
    let counted = ap (count_trailing_zeros 64) ends ∙ trailing_mask_l (λ b. eqb b 10) 64 v (omega arith) (omega arith) in
    let other : eqb (get_or bytes k 0) 10 ≡ false = run_in_chunk_fails (λ b. eqb b 10) bytes 0 16 _ 0 (omega arith) counted k (omega arith) (omega (arith, near)) in
    grind (arith, nat_tests, other, is)
