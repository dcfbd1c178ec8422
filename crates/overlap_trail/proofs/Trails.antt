-- Lemmas and hops, one after the other.
use Rattle.std.proofs.Common.{◌≡◌, Bool, ◌+◌, ◌<◌, ℕ, zero, suc, List, [], ◌∷◌, ◌++◌, take, drop, length, get_or, Some, refl, ap, sym, ◌∙◌, subst, slice_get, add-one}
use Rattle.std.proofs.lemmas.List.{map-append}
use Rattle.std.proofs.lemmas.Option.{slice_get_read}
use Rattle.cob_tree.specs.declared.program.Range.{Range}
use Rattle.cob_tree.specs.declared.ending.FlowFault.{FlowFault}
use Rattle.program_points.specs.declared.paths.trail.Move.{Move}
use Rattle.program_points.specs.declared.paths.trail.Lemma.{Lemma}
use Rattle.program_points.specs.declared.paths.trail.Hop.{Hop}
use Rattle.program_points.specs.declared.paths.trail.Trail.{Trail}
use Rattle.control_flow_theory.specs.language.Language.{Chooser, Program}
use Rattle.program_points.specs.paths.Accepted.{Aim, Return, LeadsTo, LemmasHold, with_exit, HopsLead, BeginsInMain, lemma_ranges, IsAccepted}
use Rattle.overlap_trail.specs.Checking.{exits_from, exits_of, aim_behind, HopsFrom, IsFirstMain}

drop-at : {A : Type 0} → (xs : List A) (index : ℕ) (x : A) → slice_get xs index ≡ Some x → drop index xs ≡ x ∷ drop (suc index) xs
drop-at [] index x e = absurd (let k : ⊥ = cc in k)
drop-at (y ∷ ys) zero x e = (let k : y ≡ x = cc in ap (λ z. z ∷ ys) k)
drop-at (y ∷ ys) (suc index) x e = drop-at ys index x e

take-at : {A : Type 0} → (xs : List A) (index : ℕ) (x : A) → slice_get xs index ≡ Some x → take (suc index) xs ≡ take index xs ++ x ∷ []
take-at [] index x e = absurd (let k : ⊥ = cc in k)
take-at (y ∷ ys) zero x e = (let k : y ≡ x = cc in ap (λ z. z ∷ []) k)
take-at (y ∷ ys) (suc index) x e = ap (λ zs. y ∷ zs) (take-at ys index x e)

module _ (never_first : Chooser → Bool) (program : Program) (lemmas : List Lemma) (index : ℕ) (lemma : Lemma) (lt : index < length lemmas) (is : lemma ≡ get_or lemmas index lemma) where
  lemma-at : slice_get lemmas index ≡ Some lemma
  lemma-at = slice_get_read lemmas (length lemmas) index lemma refl lt is

  ranges-on : lemma_ranges (take (index + 1) lemmas) ≡ lemma_ranges (take index lemmas) ++ lemma.range ∷ []
  ranges-on = ap (λ n. lemma_ranges (take n lemmas)) (add-one index) ∙ ap (λ (ls : List Lemma). lemma_ranges ls) (take-at lemmas index lemma lemma-at) ∙ map-append (λ (l : Lemma). l.range) (take index lemmas) (lemma ∷ [])

  drop-on : drop index lemmas ≡ lemma ∷ drop (index + 1) lemmas
  drop-on = drop-at lemmas index lemma lemma-at ∙ ap (λ n. lemma ∷ drop n lemmas) (sym (add-one index))

  pub lemmas-on : LemmasHold never_first program (lemma_ranges (take index lemmas)) (drop index lemmas) →
      LeadsTo never_first program (lemma_ranges (take index lemmas)) lemma.range Return lemma.moves × LemmasHold never_first program (lemma_ranges (take (index + 1) lemmas)) (drop (index + 1) lemmas)
  lemmas-on hold =
      let both = subst (λ ls. LemmasHold never_first program (lemma_ranges (take index lemmas)) ls) drop-on hold in
      (both.0, subst (λ rs. LemmasHold never_first program rs (drop (index + 1) lemmas)) (sym ranges-on) both.1)

  pub lemmas-back : LeadsTo never_first program (lemma_ranges (take index lemmas)) lemma.range Return lemma.moves → LemmasHold never_first program (lemma_ranges (take (index + 1) lemmas)) (drop (index + 1) lemmas) → LemmasHold never_first program (lemma_ranges (take index lemmas)) (drop index lemmas)
  lemmas-back leads hold =
      subst (λ ls. LemmasHold never_first program (lemma_ranges (take index lemmas)) ls) (sym drop-on)
      (leads, subst (λ rs. LemmasHold never_first program rs (drop (index + 1) lemmas)) ranges-on hold)

exits-append : (ends : List ℕ) (hops : List Hop) (hop : Hop) → exits_from ends (hops ++ hop ∷ []) ≡ with_exit hop.range.exit (exits_from ends hops)
exits-append ends [] hop = refl
exits-append ends (first ∷ hops) hop = exits-append (with_exit first.range.exit ends) hops hop

module _ (never_first : Chooser → Bool) (program : Program) (lemmas : List Range) (fault : FlowFault) (hops : List Hop) (index : ℕ) (hop : Hop) (lt : index < length hops) (is : hop ≡ get_or hops index hop) where
  hop-at : slice_get hops index ≡ Some hop
  hop-at = slice_get_read hops (length hops) index hop refl lt is

  exits-on : exits_of (take (index + 1) hops) ≡ with_exit hop.range.exit (exits_of (take index hops))
  exits-on = ap (λ n. exits_of (take n hops)) (add-one index) ∙ ap (λ (hs : List Hop). exits_of hs) (take-at hops index hop hop-at) ∙ exits-append [] (take index hops) hop

  hops-drop : drop index hops ≡ hop ∷ drop (index + 1) hops
  hops-drop = drop-at hops index hop hop-at ∙ ap (λ n. hop ∷ drop n hops) (sym (add-one index))

  pub hops-on : HopsFrom never_first program lemmas fault (exits_of (take index hops)) (drop index hops) →
      LeadsTo never_first program lemmas hop.range (aim_behind fault (exits_of (take (index + 1) hops)) (drop (index + 1) hops)) hop.moves × HopsFrom never_first program lemmas fault (exits_of (take (index + 1) hops)) (drop (index + 1) hops)
  hops-on hold =
      let both = subst (λ hs. HopsFrom never_first program lemmas fault (exits_of (take index hops)) hs) hops-drop hold in (
        subst (λ es. LeadsTo never_first program lemmas hop.range (aim_behind fault es (drop (index + 1) hops)) hop.moves) (sym exits-on) both.0,
        subst (λ es. HopsFrom never_first program lemmas fault es (drop (index + 1) hops)) (sym exits-on) both.1,
      )

  pub hops-back : LeadsTo never_first program lemmas hop.range (aim_behind fault (exits_of (take (index + 1) hops)) (drop (index + 1) hops)) hop.moves → HopsFrom never_first program lemmas fault (exits_of (take (index + 1) hops)) (drop (index + 1) hops) →
      HopsFrom never_first program lemmas fault (exits_of (take index hops)) (drop index hops)
  hops-back leads hold =
      subst (λ hs. HopsFrom never_first program lemmas fault (exits_of (take index hops)) hs) (sym hops-drop) (
        subst (λ es. LeadsTo never_first program lemmas hop.range (aim_behind fault es (drop (index + 1) hops)) hop.moves) exits-on leads,
        subst (λ es. HopsFrom never_first program lemmas fault es (drop (index + 1) hops)) exits-on hold,
      )

module _ (never_first : Chooser → Bool) (program : Program) (lemmas : List Range) (fault : FlowFault) where
  lead-from : (ends : List ℕ) (hop : Hop) (hops : List Hop) → HopsLead never_first program lemmas fault (with_exit hop.range.exit ends) hop hops → HopsFrom never_first program lemmas fault ends (hop ∷ hops)
  lead-from ends hop [] leads = (leads, tt)
  lead-from ends hop (later ∷ hops) leads = (leads.0, lead-from (with_exit hop.range.exit ends) later hops leads.1)

  from-lead : (ends : List ℕ) (hop : Hop) (hops : List Hop) → HopsFrom never_first program lemmas fault ends (hop ∷ hops) → HopsLead never_first program lemmas fault (with_exit hop.range.exit ends) hop hops
  from-lead ends hop [] leads = leads.0
  from-lead ends hop (later ∷ hops) leads = (leads.0, from-lead (with_exit hop.range.exit ends) later hops leads.1)

  pub main-leads : (hops : List Hop) → IsFirstMain hops → HopsFrom never_first program lemmas fault [] hops → BeginsInMain never_first program lemmas fault hops
  main-leads [] first leads = absurd first
  main-leads (hop ∷ hops) first leads =
      (first, subst (λ (r : Range). HopsLead never_first program lemmas fault (with_exit r.exit []) hop hops) first (from-lead [] hop hops leads))

  pub leads-main : (hops : List Hop) → BeginsInMain never_first program lemmas fault hops → IsFirstMain hops × HopsFrom never_first program lemmas fault [] hops
  leads-main [] begins = absurd begins
  leads-main (hop ∷ hops) begins =
      (begins.0, lead-from [] hop hops (subst (λ (r : Range). HopsLead never_first program lemmas fault (with_exit r.exit []) hop hops) (sym begins.0) begins.1))

pub same-leads : (never_first : Chooser → Bool) (program : Program) (lemmas : List Range) (range : Range) (a b : Aim) (moves other : List Move) → a ≡ b → moves ≡ other → LeadsTo never_first program lemmas range a moves → LeadsTo never_first program lemmas range b other
same-leads never_first program lemmas range a b moves other e f leads =
    subst (λ ms. LeadsTo never_first program lemmas range b ms) f (subst (λ x. LeadsTo never_first program lemmas range x moves) e leads)

pub accepted : (never_first : Chooser → Bool) (program : Program) (trail : Trail) (lemmas : List Lemma) (hops : List Hop) → lemmas ≡ trail.lemmas → hops ≡ trail.hops →
    IsFirstMain hops → LemmasHold never_first program [] lemmas → HopsFrom never_first program (lemma_ranges lemmas) trail.fault [] hops → IsAccepted never_first program trail
accepted never_first program trail lemmas hops same_lemmas same_hops first hold lead = record {
  lemmas = subst (λ ls. LemmasHold never_first program [] ls) same_lemmas hold;
  hops = subst (λ ls. BeginsInMain never_first program (lemma_ranges ls) trail.fault trail.hops) same_lemmas
      (subst (λ hs. BeginsInMain never_first program (lemma_ranges lemmas) trail.fault hs) same_hops (main-leads never_first program (lemma_ranges lemmas) trail.fault hops first lead));
}

pub accepted-parts : (never_first : Chooser → Bool) (program : Program) (trail : Trail) (lemmas : List Lemma) (hops : List Hop) → lemmas ≡ trail.lemmas → hops ≡ trail.hops → IsAccepted never_first program trail →
    IsFirstMain hops × LemmasHold never_first program [] lemmas × HopsFrom never_first program (lemma_ranges lemmas) trail.fault [] hops
accepted-parts never_first program trail lemmas hops same_lemmas same_hops is =
    let both = leads-main never_first program (lemma_ranges lemmas) trail.fault hops
    (subst (λ ls. BeginsInMain never_first program (lemma_ranges ls) trail.fault hops) (sym same_lemmas) (subst (λ hs. BeginsInMain never_first program (lemma_ranges trail.lemmas) trail.fault hs) (sym same_hops) is.hops)) in
    (both.0, subst (λ ls. LemmasHold never_first program [] ls) (sym same_lemmas) is.lemmas, both.1)
