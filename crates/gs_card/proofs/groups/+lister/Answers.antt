use Rattle.std.proofs.lemmas.Grind.{common_steps}
use Rattle.std.proofs.Common.{◌≡◌, ◌+◌, ◌-◌, ◌<◌, ◌≤◌, ◌++◌, map, ℕ, List, [], ◌∷◌, length, sym, ◌∙◌, ap, arith, get_or}
use Rattle.std.proofs.Common.{slice_index, slice_set, subst, take, vec_len}
use Rattle.std.proofs.{lemmas.List.{get_or_read, length-append}, Math.Seq.{take-append_seam}}
use Rattle.std.specs.{Prelude.{All}, List.Sorted.{IsNonDecreasing}}
use Rattle.std.specs.List.{flat_map, range_with_len}
use Rattle.gs_model.specs.Cards.{groups_above, groups_with}
use Rattle.gs_model.proofs.GroupSteps.{groups_above-step, groups_more, groups_with-taken, raised_again}
use Rattle.gs_card.proofs.groups.+lister.Goals as goal
use Rattle.gs_card.proofs.groups.+lister.Goals.{push_with-After-index_mut}

-- one more first card
more : (start outs now : List (List ℕ)) (front : List ℕ) (size : ℕ) (left : List ℕ) (least card : ℕ) → least ≤ card
    → outs ≡ start ++ map (λ g. front ++ g) (flat_map (groups_with (groups_above size) left) (range_with_len least (card - least)))
    → now ≡ outs ++ map (λ g. front ++ g) (groups_with (groups_above size) left card)
    → now ≡ start ++ map (λ g. front ++ g) (flat_map (groups_with (groups_above size) left) (range_with_len least (card + 1 - least)))
more start outs now front size left least card le found added =
    let counted : card + 1 - least ≡ card - least + 1 = omega arith in
    added ∙ ap (λ o. o ++ map (λ g. front ++ g) (groups_with (groups_above size) left card)) found
    ∙ groups_more start front (groups_above size) left least (card - least) card (omega arith)
    ∙ ap (λ n. start ++ map (λ g. front ++ g) (flat_map (groups_with (groups_above size) left) (range_with_len least n))) (sym counted)

pub push_groups-push_with-requires : goal.push_groups-push_with-requires
push_groups-push_with-requires t c =
    let same = sym c.loop-card.invariant.front_kept in
    let le : c.args.least ≤ c.loop-card.card = omega arith in (
      omega (arith, c.decreases),
      (
        omega (arith, c.requires.few, c.loop-card.invariant.same_len),
        (
          omega (arith, c.loop-card-test.true, c.len-card-end.ensures, c.loop-card.invariant.same_len),
          (
            subst IsNonDecreasing same c.requires.ascending,
            subst (λ (xs : List ℕ). All (λ other. other ≤ c.loop-card.card) xs) same (λ k d l. omega (arith, c.requires.below k d l, le)),
          ),
        ),
      ),
    )

pub push_groups-loop-card-preserved : goal.push_groups-loop-card-preserved
push_groups-loop-card-preserved t c =
    let added = rw (c.loop-card.invariant.front_kept, c.loop-card.invariant.left_kept) at c.in_ok-push_with.ensures.found in
    record {
      found = more c.args.out.now.items c.loop-card.out.items c.push_with.new.out.items c.args.front.now.items (c.args.size - 1) c.args.left.now.items
          c.args.least c.loop-card.card (omega arith) c.loop-card.invariant.found added;
      front_kept = c.in_ok-push_with.ensures.kept ∙ c.loop-card.invariant.front_kept;
      left_kept = c.in_ok-push_with.ensures.left_kept ∙ c.loop-card.invariant.left_kept;
      same_len = c.in_ok-push_with.ensures.same_len ∙ c.loop-card.invariant.same_len;
    }

pub push_groups-returns-clause-found : goal.push_groups-returns-clause-found
push_groups-returns-clause-found t c =
    let n : c.loop-card.card - c.args.least ≡ length c.args.left.now.items - c.args.least = omega arith in
    let step = groups_above-step c.args.size c.args.left.now.items c.args.least (omega arith) in
    c.loop-card.invariant.found ∙ ap (λ k. c.args.out.now.items
    ++ map (λ g. c.args.front.now.items ++ g) (flat_map (groups_with (groups_above (c.args.size - 1)) c.args.left.now.items) (range_with_len c.args.least k))) n
    ∙ ap (λ k. c.args.out.now.items ++ map (λ g. c.args.front.now.items ++ g) k) (sym step)

-- what the card's count was, and is once a copy is taken
record IsTaken (left : List ℕ) (card : ℕ) (lower : List ℕ) : Type 0 where
  pub within : card < length left
  pub some : 0 < slice_index left card
  pub lowered : lower ≡ slice_set left card (slice_index left card - 1)

taken : (left : List ℕ) (card x y : ℕ) → card < length left → x ≡ get_or left card x → y ≡ get_or left card y → (x ≡ 0 → ⊥)
    → IsTaken left card (slice_set left card (y - 1))
taken left card x y within read again some =
    let at : x ≡ slice_index left card = get_or_read left card x within read 0 in
    let same : y ≡ slice_index left card = get_or_read left card y within again 0 in
    record { within = within; some = omega (arith, at, some); lowered = ap (λ n. slice_set left card (n - 1)) same }

here : (t : ℕ) (c : push_with-After-index_mut t) → IsTaken c.args.left.now.items c.args.card (slice_set c.args.left.now.items c.args.card
    (c.index_mut.result.now - 1))
here t c = taken c.args.left.now.items c.args.card c.index.result.now c.index_mut.result.now (omega (arith, c.requires.within, c.args.left.now.ok.0))
    c.index.ensures c.index_mut.ensures.value c.if-index-eq0.false

pub push_with-returns-clause-found : goal.push_with-returns-clause-found
push_with-returns-clause-found t c =
    let h = here t (goal.at.push_with-returns-clause-found t c).After-index_mut in
    let front : List ℕ = c.args.front.now.items in
    let pushed : c.push.new.self.items ≡ front ++ c.args.card ∷ [] = c.in_ok-push.ensures.items ∙ ap (λ x. front ++ x ∷ []) c.new.ensures in
    let listed = rw (pushed, h.lowered) at c.in_ok-push_groups.ensures.found in
    listed ∙ ap (λ l. c.args.out.now.items ++ l) (sym (groups_with-taken front (groups_above c.args.size) c.args.left.now.items c.args.card h.some))

pub push_with-returns-clause-kept : goal.push_with-returns-clause-kept
push_with-returns-clause-kept t c =
    let front : List ℕ = c.args.front.now.items in
    let all : List ℕ = c.push_groups.new.front.items in
    let is : all ≡ front ++ c.args.card ∷ [] = c.in_ok-push_groups.ensures.kept ∙ c.in_ok-push.ensures.items ∙ ap (λ x. front ++ x ∷ []) c.new.ensures in
    let behind : vec_len c.push_groups.new.front - 1 ≡ length front =
    omega (arith, c.push_groups.new.front.ok.0, ap (λ (x : List ℕ). length x) is, length-append front (c.args.card ∷ [])) in
    c.pop.ensures.rest ∙ ap (λ n. take n all) behind ∙ ap (take (length front)) is ∙ take-append_seam front (c.args.card ∷ [])

pub push_with-returns-clause-left_kept : goal.push_with-returns-clause-left_kept
push_with-returns-clause-left_kept t c =
    let h = here t (goal.at.push_with-returns-clause-left_kept t c).After-index_mut in
    raised_again c.args.left.now.items c.push_groups.new.left.items c.args.card c.index_mut-2.result.now h.within h.some
    (c.in_ok-push_groups.ensures.left_kept ∙ h.lowered) c.index_mut-2.ensures.value

pub push_with-push_groups-requires : goal.push_with-push_groups-requires
push_with-push_groups-requires t c = grind arith

pub push_groups-loop-card-smaller : goal.push_groups-loop-card-smaller
push_groups-loop-card-smaller t c = omega arith

pub push_groups-returns-then-size-eq0-clause-left_kept : goal.push_groups-returns-then-size-eq0-clause-left_kept
push_groups-returns-then-size-eq0-clause-left_kept t c = grind arith

pub push_groups-returns-then-size-eq0-clause-kept : goal.push_groups-returns-then-size-eq0-clause-kept
push_groups-returns-then-size-eq0-clause-kept t c = grind arith

pub push_with-overflow_add-index_mut : goal.push_with-overflow_add-index_mut
push_with-overflow_add-index_mut t c = grind (arith, common_steps)

pub push_groups-returns-then-size-eq0-clause-found : goal.push_groups-returns-then-size-eq0-clause-found
push_groups-returns-then-size-eq0-clause-found t c = grind (arith, common_steps)

pub push_with-index_mut-requires-2 : goal.push_with-index_mut-requires-2
push_with-index_mut-requires-2 t c = grind arith

pub push_with-overflow_sub-index_mut : goal.push_with-overflow_sub-index_mut
push_with-overflow_sub-index_mut t c = grind (arith, common_steps)

pub push_groups-push_group-requires : goal.push_groups-push_group-requires
push_groups-push_group-requires t c = grind arith

pub push_with-returns-clause-same_len : goal.push_with-returns-clause-same_len
push_with-returns-clause-same_len t c = grind arith
