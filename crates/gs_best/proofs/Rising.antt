-- Ancestors do not fall along a round of a game: the children of its signals are runs, one behind another.
use Rattle.std.proofs.{Common.{◌≡◌, ℕ, zero, suc, ◌+◌, ◌-◌, ◌<◌, ◌≤◌, length, get_or, refl, sym, ap, ◌∙◌, subst, arith, ⊎_elim}, lemmas.Bool.{cases_lt}}
use Rattle.gs_model.specs.{Frame.{ancestor, frame_of, signal_count}, Game.{Game, IsPlayable, round_count}, Signals.{first_child, parents, signals}}
use Rattle.gs_model.proofs.{Children.{child-only}, Ranges.{signal_count_is}, Walked.{last_round_of}}
use Rattle.gs_game.specs.Games.{game_of}
use Rattle.gs_tree.proofs.Readers.{first_next}
use Rattle.gs_lossless.proofs.Descent.{first_le, parent_is, tabled}
use Rattle.gs_seq.specs.{Abstracts.{abstract_frame as form_frame, game_in}, declared.form.Abstract.{Abstract}}
use Rattle.gs_seq.proofs.Points.{playable}
use Rattle.gs_best.proofs.ClassRuns.{Rising}

module _ (g : Game) (p : IsPlayable g) where
  parent_in : (at x : ℕ) → 0 < at → at < round_count g → x < signal_count (frame_of g) (at + 1) → ancestor (frame_of g) (at + 1) at x < length (signals g at)
  parent_in at x some l lx = omega (
    arith,
    (tabled g p).kept (at + 1) at x some (omega arith) lx,
    signal_count_is g at some (omega arith),
  )

  -- a signal stands among the children of its parent
  beside : (at x : ℕ) → 0 < at → at < round_count g → x < signal_count (frame_of g) (at + 1)
      → let a = ancestor (frame_of g) (at + 1) at x in (first_child g at a ≤ x) × (x < first_child g at (a + 1))
  beside at x some l lx =
      let a = ancestor (frame_of g) (at + 1) at x in
      let la = parent_in at x some l lx in
      let up : at + 1 ≡ suc at = omega arith in
      let here : x < length (signals g (suc at)) = omega (arith, lx, signal_count_is g (at + 1) (omega arith) (omega arith), ap (λ k. length (signals g k)) up)
      in
      let is = subst (λ k. ancestor (frame_of g) k at x ≡ get_or (parents g k) x 0) up (parent_is g at (at + 1) x refl (omega arith)) in
      let c = child-only g at a la x here (sym is ∙ subst (λ k. ancestor (frame_of g) k at x ≡ a) up refl) in
      let n = first_next g at a la in
      (c.0, omega (arith, c.1, n))

  parent_rises : (at s u : ℕ) → 0 < at → at < round_count g → s ≤ u → u < signal_count (frame_of g) (at + 1)
      → ancestor (frame_of g) (at + 1) at s ≤ ancestor (frame_of g) (at + 1) at u
  parent_rises at s u some l le lu =
      let a = ancestor (frame_of g) (at + 1) at s in
      let b = ancestor (frame_of g) (at + 1) at u in
      let s_in = beside at s some l (omega arith) in
      let u_in = beside at u some l lu in
      ⊎_elim
      (λ (under : b < a).
      let m = first_le g at (b + 1) a (omega arith) (let k = parent_in at s some l (omega arith) in omega (arith, k)) in
      absurd (omega (arith, m, s_in.0, u_in.1, le)))
      (λ (over : a ≤ b). over) (cases_lt b a)

  up_rises : (n i j s u : ℕ) → i + n ≡ j → 0 < i → j ≤ round_count g → s ≤ u → u < signal_count (frame_of g) j
      → ancestor (frame_of g) j i s ≤ ancestor (frame_of g) j i u
  up_rises zero i j s u e some top le lu =
      let q : j ≡ i = omega arith in
      let h = tabled g p in
      subst (λ i. ancestor (frame_of g) j i s ≤ ancestor (frame_of g) j i u) q (omega (arith, h.itself j s, h.itself j u, le))
  up_rises (suc n) i j s u e some top le lu =
      let q : (i + n) + 1 ≡ j = omega arith in
      let h = tabled g p in
      let lu' = subst (λ j. u < signal_count (frame_of g) j) (sym q) lu in
      let one = parent_rises (i + n) s u (omega arith) (omega arith) le lu' in
      let rest = up_rises n i (i + n) (ancestor (frame_of g) (i + n + 1) (i + n) s) (ancestor (frame_of g) (i + n + 1) (i + n) u) refl some (omega arith) one
      (h.kept (i + n + 1) (i + n) u (omega arith) (omega arith) lu') in
      subst (λ j. ancestor (frame_of g) j i s ≤ ancestor (frame_of g) j i u) q
      (omega (arith, rest, h.chain (i + n + 1) (i + n) i s (omega arith) (omega arith), h.chain (i + n + 1) (i + n) i u (omega arith) (omega arith)))

  pub ancestors_rise : Rising (frame_of g)
  ancestors_rise j i s u some le top less lu = up_rises (j - i) i j s u (omega arith) some (omega (arith, top, last_round_of g)) less lu

pub form_rises : (a : Abstract) → Rising (form_frame a)
form_rises a = ancestors_rise (game_of (game_in a).game) (playable (game_in a))
