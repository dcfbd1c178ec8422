-- Generated programs are short.
use Rattle.std.proofs.Common.{◌≡◌, ℕ, zero, suc, ◌+◌, ◌-◌, ◌*◌, ◌<◌, ◌≤◌, ◌==◌, true, false, cond, List, [], ◌∷◌, ◌++◌, length, refl, sym, subst, arith}
use Rattle.std.specs.Prelude.{codes}
use Rattle.std.specs.Fmt.{decimal}
use Rattle.std.specs.List.{flat_map}
use Rattle.std.proofs.lemmas.Fmt.{length-decimal-le}
use Rattle.std.proofs.lemmas.List.{length-append}
use Rattle.cob_base.specs.Bytes.{less_sign}
use Rattle.cob_tree.specs.declared.picture.Picture.TheVariants as pictures
use Rattle.cob_tree.specs.declared.place.Operand.TheVariants as operands
use Rattle.cob_tree.specs.declared.program.Sentence.{Sentence}
use Rattle.cob_tree.specs.declared.stmt.Stmt.{Stmt}
use Rattle.cob_tree.specs.declared.stmt.Stmt.TheVariants as stmts
use Rattle.cobol_lex.specs.declared.token.TokenKind.{TokenKind}
use Rattle.cobol_lex.specs.declared.token.TokenKind.TheVariants as kind
use Rattle.unparser.specs.File.{label_tokens}
use Rattle.unparser.specs.Place.{operand_tokens}
use Rattle.unparser.specs.Token.{procedure_token}
use Rattle.cobol_print.specs.declared.units.unit.PrintUnit.{PrintUnit}
use Rattle.cobol_print.specs.units.Division.{sentence_units, paragraph_units, paragraphs_units, program_units}
use Rattle.cobol_print.specs.units.Picture.{picture_text}
use Rattle.cobol_print.specs.units.Statement.{stmt_lines}
use Rattle.cobol_print.specs.units.Unit.{unit_at, ended}
use Rattle.program_gen.specs.Generated.{next_of, picked, counter, whole, count_one, jump_below, sentence, group_word, jumping, leaving, groups_of, perform_group, performs_of, main_of, generated}
use Rattle.end_to_end_laws.specs.generated.short_generated.Laws.{GeneratedProgramsAreShort}
use Rattle.end_to_end_laws.proofs.generated_lemmas.short_generated_lemmas.Bytes.{IsBrief, lines-few}
use Rattle.end_to_end_laws.proofs.generated_lemmas.short_generated_lemmas.Lines as lines
use Rattle.end_to_end_laws.proofs.generated_lemmas.short_generated_lemmas.Parts.{AreFew, no-tokens, more, both, name-brief, AreNamed, label-few, HaveFew, no-units, unit-more, units-both}

-- ---- numbers and names

decimal-brief : (n : ℕ) → n < 100000 → length (decimal n) ≤ 5
decimal-brief n small = length-decimal-le 5 n (omega arith) (omega arith) (omega arith)

number-brief : (n : ℕ) → n < 100000 → IsBrief (kind.Digits (decimal n))
number-brief n small = let few = decimal-brief n small in omega (arith, few)

group-brief : (group number : ℕ) → group ≤ 1249 → number ≤ 4 → length (group_word group number) ≤ 15
group-brief group number small few =
    let first = decimal-brief group (omega (arith, small)) in
    let second = decimal-brief number (omega (arith, few)) in
    let front : length (decimal group ++ codes "-") ≡ length (decimal group) + 1 = length-append (decimal group) (codes "-") in
    let whole : length (decimal group ++ codes "-" ++ decimal number) ≡ length (decimal group ++ codes "-") + length (decimal number) = length-append (decimal group ++ codes "-") (decimal number) in
    omega (arith, first, second, front, whole)

gen-brief : (n : ℕ) → n ≤ 1249 → IsBrief (kind.Word (codes "GEN-" ++ decimal n))
gen-brief n small = let few = decimal-brief n (omega (arith, small)) in omega (arith, few)

picture-brief : IsBrief (kind.Picture (picture_text (pictures.Number false 6 0)))
picture-brief =
    let few = decimal-brief 6 (omega arith) in
    let closed : List ℕ = decimal 6 ++ 41 ∷ [] in
    let front : length closed ≡ length (decimal 6) + 1 = length-append (decimal 6) (41 ∷ []) in
    let whole : length (closed ++ []) ≡ length closed + 0 = length-append closed [] in
    omega (arith, few, front, whole)

-- ---- their labels

groups-named : (count group x : ℕ) → group + count ≤ 1250 → AreNamed (groups_of count group x)
groups-named zero group x small = tt
groups-named (suc count) group x small =
    let low : group ≤ 1249 = omega (arith, small) in (
      (group_word group 1, (refl, group-brief group 1 low (omega arith))),
      (
        (group_word group 2, (refl, group-brief group 2 low (omega arith))),
        (
          (group_word group 3, (refl, group-brief group 3 low (omega arith))),
          (
            (group_word group 4, (refl, group-brief group 4 low (omega arith))),
            groups-named count (suc group) (next_of (next_of (next_of x))) (omega (arith, small)),
          ),
        ),
      ),
    )

named : (n : ℕ) → n ≤ 1249 → AreNamed (generated n).paragraphs
named n small = ((codes "M", (refl, omega arith)), groups-named n 1 n (omega (arith, small)))

module _ (n : ℕ) (small : n ≤ 1249) where
  label : (at : ℕ) → AreFew (label_tokens (generated n) at) 1
  label at = label-few (generated n).paragraphs (named n small) at

  -- ---- sentences

  period : AreFew (kind.Period ∷ []) 1
  period = more kind.Period (omega arith) no-tokens

  sentence-few : (stmt : Stmt) (units : List PrintUnit) (most : ℕ) → stmt_lines (generated n) stmt 12 false ≡ units →
      HaveFew (ended (units ++ [])) most → HaveFew (sentence_units (generated n) (sentence stmt)) most
  sentence-few stmt units most e h = subst (λ list. HaveFew (ended (list ++ [])) most) (sym e) h

  one-few : (stmt : Stmt) (tokens : List TokenKind) (most : ℕ) → stmt_lines (generated n) stmt 12 false ≡ unit_at 12 tokens ∷ [] →
      AreFew tokens most → HaveFew (sentence_units (generated n) (sentence stmt)) (most + 1)
  one-few stmt tokens most e h =
      let ends : HaveFew (unit_at 12 (tokens ++ kind.Period ∷ []) ∷ []) ((most + 1) + 0) = unit-more 12 (omega arith) (omega arith) (both h period) no-units in
      sentence-few stmt (unit_at 12 tokens ∷ []) (most + 1) e (record { slight = ends.slight; few = (let few = ends.few in omega (arith, few)) })

  count-few : HaveFew (sentence_units (generated n) (sentence count_one)) 5
  count-few =
      one-few count_one _ 4 (lines.line-count (generated n) refl)
      (more (kind.Word (codes "ADD")) (omega arith) (more (kind.Digits (decimal 1)) (number-brief 1 (omega arith))
      (more (kind.Word (codes "TO")) (omega arith) (more (kind.Word (codes "C")) (omega arith) no-tokens))))

  jump-few : (bound to : ℕ) → bound < 100000 → HaveFew (sentence_units (generated n) (sentence (jump_below bound to))) 9
  jump-few bound to low =
      sentence-few (jump_below bound to) _ 9 (lines.line-jump (generated n) refl bound to)
      (unit-more 12 (omega arith) (omega arith)
      (more (kind.Word (codes "IF")) (omega arith) (more (kind.Word (codes "C")) (omega arith)
      (more (kind.Mark less_sign) (omega arith) (more (kind.Digits (decimal bound)) (number-brief bound low) no-tokens))))
      (unit-more 16 (omega arith) (omega arith)
      (more (kind.Word (codes "GO")) (omega arith) (more (kind.Word (codes "TO")) (omega arith) (label to)))
      (unit-more 12 (omega arith) (omega arith) (more (kind.Word (codes "END-IF")) (omega arith) period) no-units)))

  exit-few : HaveFew (sentence_units (generated n) (sentence stmts.Exit)) 2
  exit-few = one-few stmts.Exit _ 1 (lines.line-Exit (generated n) refl) (more (kind.Word (codes "EXIT")) (omega arith) no-tokens)

  stop-few : HaveFew (sentence_units (generated n) (sentence stmts.StopRun)) 3
  stop-few =
      one-few stmts.StopRun _ 2 (lines.line-StopRun (generated n) refl)
      (more (kind.Word (codes "STOP")) (omega arith) (more (kind.Word (codes "RUN")) (omega arith) no-tokens))

  display-few : HaveFew (sentence_units (generated n) (sentence (stmts.Display (operands.Place counter ∷ []) true))) 3
  display-few =
      one-few (stmts.Display (operands.Place counter ∷ []) true) _ 2 (lines.line-Display (generated n) refl)
      (more (kind.Word (codes "DISPLAY")) (omega arith) (more (kind.Word (codes "C")) (omega arith) no-tokens))

  thru-few : (exit : ℕ) (same : _) → AreFew (cond same [] (kind.Word (codes "THRU") ∷ label_tokens (generated n) exit)) 2
  thru-few exit true = record { brief = tt; few = omega arith }
  thru-few exit false = more (kind.Word (codes "THRU")) (omega arith) (label exit)

  perform-few : (group : ℕ) → HaveFew (sentence_units (generated n) (sentence (perform_group group))) 5
  perform-few group =
      let entry = 4 * group - 3 in
      let exit = 4 * group in
      one-few (perform_group group) _ 4 (lines.line-Perform (generated n) refl entry exit)
      (more (kind.Word (codes "PERFORM")) (omega arith) (both (both (label entry) (thru-few exit (entry == exit))) no-tokens))

  -- ---- paragraphs

  abbrev Few : List Sentence → ℕ → Type 0
  Few sentences = HaveFew (flat_map (sentence_units (generated n)) sentences)

  name-few : (name : List ℕ) → length name ≤ 15 → AreFew (procedure_token name ∷ kind.Period ∷ []) 2
  name-few name short = more (procedure_token name) (name-brief name short) period

  jumping-few : (group number x : ℕ) → group ≤ 1249 → number ≤ 4 → HaveFew (paragraph_units (generated n) (jumping group number x)) 16
  jumping-few group number x low few =
      unit-more 8 (omega arith) (omega arith) (name-few (group_word group number) (group-brief group number low few))
      (units-both count-few (units-both (jump-few (10 * group) (4 * group - 4 + picked x) (omega (arith, low))) no-units))

  leaving-few : (group : ℕ) → group ≤ 1249 → HaveFew (paragraph_units (generated n) (leaving group)) 4
  leaving-few group low =
      unit-more 8 (omega arith) (omega arith) (name-few (group_word group 4) (group-brief group 4 low (omega arith)))
      (units-both exit-few no-units)

  groups-few : (count group x : ℕ) → group + count ≤ 1250 → HaveFew (paragraphs_units (generated n) (groups_of count group x)) (count * 52)
  groups-few zero group x within = no-units
  groups-few (suc count) group x within =
      let low : group ≤ 1249 = omega (arith, within) in
      let all =
      units-both (jumping-few group 1 (next_of x) low (omega arith))
      (units-both (jumping-few group 2 (next_of (next_of x)) low (omega arith))
      (units-both (jumping-few group 3 (next_of (next_of (next_of x))) low (omega arith))
      (units-both (leaving-few group low) (groups-few count (suc group) (next_of (next_of (next_of x))) (omega (arith, within))))))
      in
      let few = all.few in
      record { slight = all.slight; few = omega (arith, few) }

  performs-few : (count group : ℕ) (others : List Sentence) (most : ℕ) → Few others most → Few (performs_of count group ++ others) (count * 5 + most)
  performs-few zero group others most h = let few = h.few in record { slight = h.slight; few = omega (arith, few) }
  performs-few (suc count) group others most h =
      let all = units-both (perform-few group) (performs-few count (suc group) others most h) in
      let few = all.few in
      record { slight = all.slight; few = omega (arith, few) }

  main-few : HaveFew (paragraph_units (generated n) (main_of n)) (2 + (n * 5 + 6))
  main-few =
      unit-more 8 (omega arith) (omega arith) (name-few (codes "M") (omega arith))
      (performs-few n 1 _ 6 (units-both display-few (units-both stop-few no-units)))

  -- ---- the divisions

  header-few : (first second : List ℕ) → length first ≤ 15 → length second ≤ 15 → AreFew (kind.Word first ∷ kind.Word second ∷ kind.Period ∷ []) 3
  header-few first second f s = more (kind.Word first) f (more (kind.Word second) s period)

  value-few : AreFew (operand_tokens (generated n) (operands.Number (whole 0))) 1
  value-few =
      subst (λ tokens. AreFew tokens 1) (sym (lines.number-token (generated n) refl 0))
      (more (kind.Digits (decimal 0)) (number-brief 0 (omega arith)) no-tokens)

  program-few : HaveFew (program_units (generated n)) (31 + n * 57)
  program-few =
      let one = decimal-brief 1 (omega arith) in
      let entry : AreFew _ 7 =
      more (kind.Digits (48 ∷ decimal 1)) (omega (arith, one)) (more (kind.Word (codes "C")) (omega arith)
      (more (kind.Word (codes "PIC")) (omega arith) (more (kind.Picture (picture_text (pictures.Number false 6 0))) picture-brief
      (more (kind.Word (codes "VALUE")) (omega arith) (both (both value-few no-tokens) period)))))
      in
      let all =
      unit-more 8 (omega arith) (omega arith) (header-few (codes "IDENTIFICATION") (codes "DIVISION") (omega arith) (omega arith))
      (unit-more 8 (omega arith) (omega arith) (more (kind.Word (codes "PROGRAM-ID")) (omega arith) (more kind.Period (omega arith) (more (kind.Word (codes "GEN-" ++ decimal n)) (gen-brief n small) period)))
      (unit-more 8 (omega arith) (omega arith) (header-few (codes "DATA") (codes "DIVISION") (omega arith) (omega arith))
      (unit-more 8 (omega arith) (omega arith) (header-few (codes "WORKING-STORAGE") (codes "SECTION") (omega arith) (omega arith))
      (unit-more 8 (omega arith) (omega arith) entry
      (unit-more 8 (omega arith) (omega arith) (header-few (codes "PROCEDURE") (codes "DIVISION") (omega arith) (omega arith))
      (units-both main-few (groups-few n 1 n (omega (arith, small)))))))))
      in
      let few = all.few in
      record { slight = all.slight; few = omega (arith, few) }

pub short : GeneratedProgramsAreShort
short n small =
    let h = program-few n small in
    let bytes = lines-few (program_units (generated n)) h.slight in
    let tokens = h.few in
    (omega (arith, bytes, tokens, small), omega (arith, tokens, small))
