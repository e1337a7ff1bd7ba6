-- The classes of a later round below a class of a form.
use Rattle.std.proofs.Common.{◌≡◌, ℕ, ◌+◌, ◌<◌, ◌≤◌}
use Rattle.gs_model.specs.{Classes.{IsClass, class_count, class_of, first_member}, Frame.{last_round}}
use Rattle.gs_lossless.specs.Amounts.{IsRunIn}
use Rattle.gs_seq.specs.{Abstracts.{abstract_frame, lists_of}, declared.form.Abstract.{Abstract}}
use Rattle.gs_seq.proofs.Forms.{form_classes, form_in_range, form_lossless}
use Rattle.gs_best.specs.{ClassTotals.{earlier_class}, Runs.{IsClassRun}}
use Rattle.gs_best.proofs.Rising.{form_rises}
use Rattle.gs_best.proofs.ClassRuns as runs

module _ (a : Abstract) (j i c : ℕ) (some : 0 < j) (onward : j ≤ i) (top : i ≤ last_round (abstract_frame a)) (lc : IsClass (lists_of a) j c) (s e : ℕ)
    (run : IsRunIn (abstract_frame a) i j (first_member (lists_of a) j c) s e) where
  pub form_none : e ≤ s → IsClassRun (abstract_frame a) (lists_of a) i j c 1 1
  form_none =
      runs.run_none (abstract_frame a) (form_in_range a) (lists_of a) (form_classes a) (form_lossless a) (form_rises a) j i c some onward top lc s e run

  pub form_first : s < e → earlier_class (abstract_frame a) (lists_of a) i j (class_of (lists_of a) i s) ≡ c
  form_first =
      runs.low_below (abstract_frame a) (form_in_range a) (lists_of a) (form_classes a) (form_lossless a) (form_rises a) j i c some onward top lc s e run

  pub form_more : s < e → (k : ℕ) → class_of (lists_of a) i s ≤ k → IsClass (lists_of a) i k → first_member (lists_of a) i k < e
      → earlier_class (abstract_frame a) (lists_of a) i j k ≡ c
  form_more =
      runs.below_until (abstract_frame a) (form_in_range a) (lists_of a) (form_classes a) (form_lossless a) (form_rises a) j i c some onward top lc s e
      run

  pub form_run : (first end : ℕ) → s < e → first ≡ class_of (lists_of a) i s → first ≤ end → end ≤ class_count (lists_of a) i + 1
      → ((k : ℕ) → first ≤ k → k < end → earlier_class (abstract_frame a) (lists_of a) i j k ≡ c)
      → ((k : ℕ) → IsClass (lists_of a) i k → end ≤ k → earlier_class (abstract_frame a) (lists_of a) i j k ≡ c → ⊥)
      → IsClassRun (abstract_frame a) (lists_of a) i j c first end
  form_run first end =
      runs.run_until (abstract_frame a) (form_in_range a) (lists_of a) (form_classes a) (form_lossless a) (form_rises a) j i c some onward top lc s e
      run first end

  pub form_past : s < e → (m k : ℕ) → IsClass (lists_of a) i m → e ≤ first_member (lists_of a) i m → IsClass (lists_of a) i k → m ≤ k
      → earlier_class (abstract_frame a) (lists_of a) i j k ≡ c → ⊥
  form_past =
      runs.below_none (abstract_frame a) (form_in_range a) (lists_of a) (form_classes a) (form_lossless a) (form_rises a) j i c some onward top lc s e
      run
