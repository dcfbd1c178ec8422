use Rattle.std.proofs.Common.{ℕ, leb, cond, bit_and, refl}
use Rattle.std.specs.Simd.Lanes.{chunk}
use Rattle.std.proofs.lemmas.Simd.{zip2_splat, length-chunk}
use Rattle.cob_base.specs.Spelling.{word_byte}
use Rattle.cobol_lex.proofs.LaneLemmas.{joined, splat_is, run_in}
use Rattle.cobol_lex.proofs.lanes.word_byte_run.Goals as goal

pub returns : goal.returns
returns c =
    let bytes = c.args.bytes.now in
    let v = chunk 0 16 bytes in
    let long = length-chunk 0 16 bytes c.requires in
    run_in word_byte bytes _ _ c.requires c.type_inv.bytes c.first_set.ensures _
    (joined bit_and _ _ v
    (joined bit_and _ _ v
    (joined (λ a b. cond (leb a b) 255 0) _ _ v (splat_is v 16 26 long) (joined _ _ _ v (zip2_splat {Y = ℕ} _ v 16 32 long) (splat_is v 16 97 long)))
    (joined (λ a b. cond (leb a b) 255 0) _ _ v (splat_is v 16 10 long) (zip2_splat {Y = ℕ} _ v 16 48 long)))
    (zip2_splat {Y = ℕ} _ v 16 45 long))
    refl
