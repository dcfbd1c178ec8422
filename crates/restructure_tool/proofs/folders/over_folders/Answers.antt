use Rattle.std.proofs.Common.{ℕ, List, rules, ap, refl, inl, inr}
use denote.Param.Object.{read_made}
use Rattle.restructure_tool.proofs.AnsweredLemmas.{serves-of, starved-of, names-of, faults-of, by-box}
use Rattle.restructure_tool.proofs.folders.over_folders.OwnLists.{own-1}
use Rattle.restructure_tool.proofs.folders.over_folders.Goals as goal

pub returns-clause-words : goal.returns-clause-words
returns-clause-words g c =
    serves-of _ _ _ c.args.words _ _ _ _
    (record {
      left = search rules;
      names =
          names-of _ _ _ _ _ _ _ (ap (λ v. v.items) c.new-bench.ensures.devices) c.in_ok-push-2.ensures.items c.in_ok-push.ensures.items c.new-devices.ensures.items
          (by-box {N = List ℕ} (λ d. d.name) _ c.in_ok-new.field-0.value c.in_ok-disk.disk _ (read_made own-1 _ (inl tt) refl _ (λ j w. j.1.named w) c.into_dyn_box.result.vtable c.into_dyn_box.result.value _ c.into_dyn_box.ensures.1) c.in_ok-new.ensures.ok c.in_ok-disk.ensures.name)
          (by-box {N = List ℕ} (λ d. d.name) _ c.in_ok-new-2.field-0.value c.in_ok-null_device.field-0 _ (read_made own-1 _ (inr (inl tt)) refl _ (λ j w. j.1.named w) c.into_dyn_box-in_ok-new-2.result.vtable c.into_dyn_box-in_ok-new-2.result.value _ c.into_dyn_box-in_ok-new-2.ensures.1) c.in_ok-new-2.ensures.ok c.in_ok-null_device.ensures);
      faults =
          faults-of _ _ _ _ _ _ _ (ap (λ v. v.items) c.new-bench.ensures.devices) c.in_ok-push-2.ensures.items c.in_ok-push.ensures.items c.new-devices.ensures.items
          (by-box {N = ℕ} (λ d. d.count) _ c.in_ok-new.field-0.value c.in_ok-disk.disk _ (read_made own-1 _ (inl tt) refl _ (λ j w. j.1.faults w) c.into_dyn_box.result.vtable c.into_dyn_box.result.value _ c.into_dyn_box.ensures.1) c.in_ok-new.ensures.ok c.in_ok-disk.ensures.count)
          (read_made own-1 _ (inr (inl tt)) refl _ (λ j w. j.1.faults w) c.into_dyn_box-in_ok-new-2.result.vtable c.into_dyn_box-in_ok-new-2.result.value _ c.into_dyn_box-in_ok-new-2.ensures.1);
    })
    (record {
      left = search rules;
      names =
          names-of _ _ _ _ _ _ _ (ap (λ v. v.items) c.new-second.ensures.devices) c.in_ok-push-4.ensures.items c.in_ok-push-3.ensures.items c.new-others.ensures.items
          (by-box {N = List ℕ} (λ d. d.name) _ c.in_ok-new-3.field-0.value c.in_ok-other_disk.other_disk _ (read_made own-1 _ (inr (inr (inl tt))) refl _ (λ j w. j.1.named w) c.into_dyn_box-in_ok-new-3.result.vtable c.into_dyn_box-in_ok-new-3.result.value _ c.into_dyn_box-in_ok-new-3.ensures.1) c.in_ok-new-3.ensures.ok c.in_ok-other_disk.ensures.name)
          (by-box {N = List ℕ} (λ d. d.name) _ c.in_ok-new-4.field-0.value c.in_ok-null_device-2.field-0 _ (read_made own-1 _ (inr (inl tt)) refl _ (λ j w. j.1.named w) c.into_dyn_box-in_ok-new-4.result.vtable c.into_dyn_box-in_ok-new-4.result.value _ c.into_dyn_box-in_ok-new-4.ensures.1) c.in_ok-new-4.ensures.ok c.in_ok-null_device-2.ensures);
      faults =
          faults-of _ _ _ _ _ _ _ (ap (λ v. v.items) c.new-second.ensures.devices) c.in_ok-push-4.ensures.items c.in_ok-push-3.ensures.items c.new-others.ensures.items
          (by-box {N = ℕ} (λ d. d.count) _ c.in_ok-new-3.field-0.value c.in_ok-other_disk.other_disk _ (read_made own-1 _ (inr (inr (inl tt))) refl _ (λ j w. j.1.faults w) c.into_dyn_box-in_ok-new-3.result.vtable c.into_dyn_box-in_ok-new-3.result.value _ c.into_dyn_box-in_ok-new-3.ensures.1) c.in_ok-new-3.ensures.ok c.in_ok-other_disk.ensures.count)
          (read_made own-1 _ (inr (inl tt)) refl _ (λ j w. j.1.faults w) c.into_dyn_box-in_ok-new-4.result.vtable c.into_dyn_box-in_ok-new-4.result.value _ c.into_dyn_box-in_ok-new-4.ensures.1);
    })
    c.program-status.ensures.page c.program-status.ensures.ask c.program-status.ensures.over c.program-status.ensures.compared c.program-status.ensures.devices

pub returns-clause-wordless : goal.returns-clause-wordless
returns-clause-wordless g c = starved-of _ _ _ c.args.words _ c.program-status.ensures.wordless c.program-status.ensures.ends
