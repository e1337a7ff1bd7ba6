use Rattle.std.proofs.Common.{◌≡◌, ◌++◌, EachIndex, List, replicate, slice_index, subst, sym, ◌∙◌, ℕ}
use Rattle.std.proofs.lemmas.Bool.{false≢true}
use Rattle.gs_tree.proofs.Ones.{are_replicated, ones_ahead, ones_behind, ones_joined}
use Rattle.gs_tree.proofs.ways.Ways.are_ones.Goals as goal

pub returns-then-are_ones : goal.returns-then-are_ones
returns-then-are_ones c =
    let AreOnes : List ℕ → Type 0 = λ ns. EachIndex ns (λ i. slice_index ns i ≡ 1) in
    let first : List ℕ = replicate c.self.inside.ones 1 in
    let rest : List ℕ = c.self.inside.rest.items in
    let wide : List ℕ = c.self.inside.wide.items in
    let here : AreOnes rest = subst AreOnes c.deref.ensures.value (c.are_ones.ensures.0 c.if-are_ones.true) in
    let front : AreOnes (first ++ rest) = ones_joined first rest (are_replicated c.self.inside.ones) here in
    let same = c.deref-then-are_ones.ensures.value in
    let h = c.are_wide_ones.ensures in (
      (λ is. subst AreOnes c.self.view_is (ones_joined (first ++ rest) wide front (subst AreOnes same (h.0 is)))),
      (λ each. h.1 (subst AreOnes (sym same) (ones_behind (first ++ rest) wide (subst AreOnes (sym c.self.view_is) each)))),
    )

pub returns-else-are_ones : goal.returns-else-are_ones
returns-else-are_ones c =
    let AreOnes : List ℕ → Type 0 = λ ns. EachIndex ns (λ i. slice_index ns i ≡ 1) in
    let first : List ℕ = replicate c.self.inside.ones 1 in
    let rest : List ℕ = c.self.inside.rest.items in
    let wide : List ℕ = c.self.inside.wide.items in (
      (λ is. absurd (false≢true (sym c.if-are_ones.false ∙ is))),
      (λ each. c.are_ones.ensures.1 (subst AreOnes (sym c.deref.ensures.value)
          (ones_behind first rest (ones_ahead (first ++ rest) wide (subst AreOnes (sym c.self.view_is) each))))),
    )
