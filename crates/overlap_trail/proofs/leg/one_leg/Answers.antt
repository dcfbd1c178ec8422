use Rattle.std.proofs.Common.{◌≤◌, suc, List, [], map, drop, length, ap, sym, subst, arith}
use Rattle.cob_tree.specs.declared.file.FileEntry.{FileEntry}
use Rattle.cob_tree.specs.declared.program.Paragraph.{Paragraph}
use Rattle.control_flow_theory.specs.language.Control.{control_of, section_last, seen_sentence}
use Rattle.control_flow_theory.specs.language.Items.{items_of}
use Rattle.program_points.specs.paths.Step.{Point, at}
use Rattle.program_points.specs.paths.Accepted.{walk}
use Rattle.overlap_trail.specs.declared.leg.ParagraphStep.TheVariants.{On}
use Rattle.overlap_trail.specs.declared.leg.ParagraphOutcome.TheVariants.{ToEnd, ToSectionEnd, ToStart, Met, Lost}
use Rattle.overlap_trail.specs.Follow.{known_of, sought_of}
use Rattle.overlap_trail.specs.Checking.{aim_of, IsLeg, Arrives, ComesOut}
use Rattle.overlap_trail.proofs.Legs.{leg-behind, leg-earlier, start-there, start-missing, never-stuck}
use Rattle.overlap_trail.proofs.leg.one_leg.Goals as goal

pub returns-then-paragraph-paragraphs-clause-leg : goal.returns-then-paragraph-paragraphs-clause-leg
returns-then-paragraph-paragraphs-clause-leg c =
    let program = c.args.program.now in
    let known = known_of program.files c.args.lemmas.now in
    let sought = sought_of (control_of program) c.args.context.range (aim_of c.args.context.goal c.args.context.hops.now) in
    let past : length program.paragraphs ≤ c.args.paragraph = omega (arith, c.if-paragraph-paragraphs.true, ap (λ (ps : List Paragraph). length ps) c.as_slice-paragraphs.ensures) in
    subst (λ (point : Point). IsLeg known sought c.args.context.moves.now (walk point (drop c.args.taken c.args.context.moves.now)) c.args.taken c.end_leg.result) (sym (start-missing program c.args.paragraph past)) (c.end_leg.ensures.leg known)

pub returns-in-ToEnd-clause-leg : goal.returns-in-ToEnd-clause-leg
returns-in-ToEnd-clause-leg c =
    let program = c.args.program.now in
    let p = control_of program in
    let n = c.args.paragraph in
    let lemmas = c.args.lemmas.now in
    let known = known_of program.files lemmas in
    let sought = sought_of p c.args.context.range (aim_of c.args.context.goal c.args.context.hops.now) in
    let moves = c.args.context.moves.now in
    let taken = c.args.taken in
    let ps = c.as_slice-paragraphs.result.now in
    let sentences = c.as_slice-sentences.result.now in
    let last = section_last n (drop (suc n) ps) in
    let from = walk (at n (items_of (map (seen_sentence last) sentences))) (drop taken moves) in
    let same = start-there program n ps c.index-paragraphs-paragraph.result sentences c.as_slice-paragraphs.ensures c.if-paragraph-paragraphs.false c.as_slice-sentences.ensures in
    let path = subst (λ (fs : List FileEntry). ComesOut (known_of fs lemmas) sought last n moves from (ToEnd c.in-ToEnd.now)) c.as_slice-files.ensures (c.in-ToEnd.ensures.follows last sought n) in
    subst (λ (point : Point). IsLeg known sought moves (walk point (drop taken moves)) taken c.end_leg-in-ToEnd.result) (sym same)
    (leg-behind known sought moves from (walk (at n []) (drop c.in-ToEnd.now moves)) taken c.in-ToEnd.now c.end_leg-in-ToEnd.result path c.in-ToEnd.ensures.taken.0 (c.end_leg-in-ToEnd.ensures.leg known))

pub returns-in-ToSectionEnd-clause-leg : goal.returns-in-ToSectionEnd-clause-leg
returns-in-ToSectionEnd-clause-leg c =
    let program = c.args.program.now in
    let p = control_of program in
    let n = c.args.paragraph in
    let lemmas = c.args.lemmas.now in
    let known = known_of program.files lemmas in
    let sought = sought_of p c.args.context.range (aim_of c.args.context.goal c.args.context.hops.now) in
    let moves = c.args.context.moves.now in
    let taken = c.args.taken in
    let ps = c.as_slice-paragraphs.result.now in
    let sentences = c.as_slice-sentences.result.now in
    let last = section_last n (drop (suc n) ps) in
    let from = walk (at n (items_of (map (seen_sentence last) sentences))) (drop taken moves) in
    let same = start-there program n ps c.index-paragraphs-paragraph.result sentences c.as_slice-paragraphs.ensures c.if-paragraph-paragraphs.false c.as_slice-sentences.ensures in
    let path = subst (λ (fs : List FileEntry). ComesOut (known_of fs lemmas) sought last n moves from (ToSectionEnd c.in-ToSectionEnd.now)) c.as_slice-files.ensures (c.in-ToSectionEnd.ensures.follows last sought n) in
    let now = c.in-ToSectionEnd.now in
    let result = c.end_leg-in-ToSectionEnd.result in
    subst (λ (point : Point). IsLeg known sought moves (walk point (drop taken moves)) taken result) (sym same)
    (leg-behind known sought moves from (walk (at last []) (drop now moves)) taken now result path c.in-ToSectionEnd.ensures.taken.0 (subst (λ k. IsLeg known sought moves (walk (at k []) (drop now moves)) now result) c.section_last-last.ensures (c.end_leg-in-ToSectionEnd.ensures.leg known)))

pub returns-in-ToStart-clause-leg : goal.returns-in-ToStart-clause-leg
returns-in-ToStart-clause-leg c =
    let program = c.args.program.now in
    let p = control_of program in
    let n = c.args.paragraph in
    let lemmas = c.args.lemmas.now in
    let known = known_of program.files lemmas in
    let sought = sought_of p c.args.context.range (aim_of c.args.context.goal c.args.context.hops.now) in
    let moves = c.args.context.moves.now in
    let taken = c.args.taken in
    let ps = c.as_slice-paragraphs.result.now in
    let sentences = c.as_slice-sentences.result.now in
    let last = section_last n (drop (suc n) ps) in
    let from = walk (at n (items_of (map (seen_sentence last) sentences))) (drop taken moves) in
    let same = start-there program n ps c.index-paragraphs-paragraph.result sentences c.as_slice-paragraphs.ensures c.if-paragraph-paragraphs.false c.as_slice-sentences.ensures in
    let goes = subst (λ (fs : List FileEntry). ComesOut (known_of fs lemmas) sought last n moves from (ToStart c.in-ToStart.to c.in-ToStart.now)) c.as_slice-files.ensures (c.in-ToStart.ensures.follows last sought n) in
    subst (λ (point : Point). IsLeg known sought moves (walk point (drop taken moves)) taken (On c.in-ToStart.to c.in-ToStart.now)) (sym same)
    (goes, c.in-ToStart.ensures.taken)

pub returns-in-Met-clause-leg : goal.returns-in-Met-clause-leg
returns-in-Met-clause-leg c =
    let program = c.args.program.now in
    let p = control_of program in
    let n = c.args.paragraph in
    let lemmas = c.args.lemmas.now in
    let known = known_of program.files lemmas in
    let sought = sought_of p c.args.context.range (aim_of c.args.context.goal c.args.context.hops.now) in
    let moves = c.args.context.moves.now in
    let taken = c.args.taken in
    let ps = c.as_slice-paragraphs.result.now in
    let sentences = c.as_slice-sentences.result.now in
    let last = section_last n (drop (suc n) ps) in
    let from = walk (at n (items_of (map (seen_sentence last) sentences))) (drop taken moves) in
    let same = start-there program n ps c.index-paragraphs-paragraph.result sentences c.as_slice-paragraphs.ensures c.if-paragraph-paragraphs.false c.as_slice-sentences.ensures in
    let met = subst (λ (fs : List FileEntry). ComesOut (known_of fs lemmas) sought last n moves from (Met c.in-Met.entry c.in-Met.exit c.in-Met.now)) c.as_slice-files.ensures (c.in-Met.ensures.follows last sought n) in
    subst (λ (point : Point). IsLeg known sought moves (walk point (drop taken moves)) taken c.call_leg.result) (sym same)
    (leg-earlier known sought moves from taken c.in-Met.now c.call_leg.result c.in-Met.ensures.taken.0 (c.call_leg.ensures.leg known p from met))

pub returns-in-Lost-clause-leg : goal.returns-in-Lost-clause-leg
returns-in-Lost-clause-leg c =
    let program = c.args.program.now in
    let p = control_of program in
    let n = c.args.paragraph in
    let lemmas = c.args.lemmas.now in
    let known = known_of program.files lemmas in
    let sought = sought_of p c.args.context.range (aim_of c.args.context.goal c.args.context.hops.now) in
    let moves = c.args.context.moves.now in
    let taken = c.args.taken in
    let ps = c.as_slice-paragraphs.result.now in
    let sentences = c.as_slice-sentences.result.now in
    let last = section_last n (drop (suc n) ps) in
    let from = walk (at n (items_of (map (seen_sentence last) sentences))) (drop taken moves) in
    let same = start-there program n ps c.index-paragraphs-paragraph.result sentences c.as_slice-paragraphs.ensures c.if-paragraph-paragraphs.false c.as_slice-sentences.ensures in
    let stuck = subst (λ (fs : List FileEntry). ComesOut (known_of fs lemmas) sought last n moves from (Lost)) c.as_slice-files.ensures (c.in-Lost.ensures.follows last sought n) in
    subst (λ (point : Point). Arrives known sought (walk point (drop taken moves)) → ⊥) (sym same) (never-stuck known sought from stuck)
