use Rattle.std.proofs.Common.{ℕ, ◌==◌, refl}
use Rattle.std.specs.Simd.Lanes.{chunk}
use Rattle.std.proofs.lemmas.Simd.{zip2_splat, length-chunk}
use Rattle.cobol_lex.proofs.LaneLemmas.{run_in}
use Rattle.cobol_lex.proofs.lanes.space_run.Goals as goal

pub returns : goal.returns
returns c =
    let bytes = c.args.bytes.now in
    let v = chunk 0 16 bytes in
    let long = length-chunk 0 16 bytes c.requires in
    run_in (λ b. b == 32) bytes _ _ c.requires c.type_inv.bytes c.first_set.ensures _ (zip2_splat {Y = ℕ} _ v 16 32 long) refl
