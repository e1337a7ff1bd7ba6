-- What an end of the last round pays a class of one signal is a sum over the signal's deals.
use Rattle.std.proofs.{Common.{◌≡◌, ℕ, ℤ, List, pos, ◌+◌, ◌-◌, ◌<◌, ◌≤◌, get_or, map, sym, ap, ◌∙◌, subst, arith, ⊎_elim}, lemmas.Bool.{cases_lt}}
use Rattle.std.specs.Prelude.{◌*ℤ◌, ◌⊎◌, slice_index}
use Rattle.gs_boards.specs.{Boards.{deal_sum, paid}, declared.pays.Pays.{Pays}}
use Rattle.gs_filter.specs.Filter.{Filter}
use Rattle.gs_filter.proofs.ClassLaws.{greatest_within}
use Rattle.gs_game.specs.{Games.{game_of}, declared.valid.ValidGame.{ValidGame}}
use Rattle.gs_model.specs.{Classes.{IsClasses, class_count, list_of}, Deals.{Deal}, Frame.{end_at, end_count, last_round, round_of, signal_count}}
use Rattle.gs_model.specs.{FrameFacts.{InRange, IsWalked}, Positions.{at_end}}
use Rattle.gs_model.proofs.{Gather.{class_in}, RawBound.{sum_z-map}, Total.{sum_z-same}, Walked.{last_round_of}}
use Rattle.gs_tree.specs.Walk.{last_count}
use Rattle.gs_seq.specs.{Games.{frame_in}, Payoffs.{number_sum, pair_pays}, Rows.{IsRow, IsSingleIn}, Singles.{deal_pair}, declared.pair.Pair.{Pair}}
use Rattle.gs_seq.proofs.{EndSums.{row_sum}, Singles.{count_is, deals_of, made_row}, SlotLaws.{over}}

-- each of the last round's signals is a class, and there are no more
pub single_count : (g : ValidGame) (c : Filter) → c.parents ≡ (frame_in g).parents → IsSingleIn c.lists (last_round (frame_in g))
    → class_count c.lists (last_round (frame_in g)) ≡ last_count (game_of g.game)
single_count g c e single =
    let f = frame_in g in
    let last = last_round f in
    let n = last_count (game_of g.game) in
    let some : 0 < last = omega (arith, last_round_of (game_of g.game), g.limits.some_round) in
    let k = over f c e in
    let count = count_is g c e single in
    let long = k.lengths last some (omega arith) in
    let most = greatest_within (list_of c.lists last) (k.numbered last some (omega arith)) in
    ⊎_elim
    (λ (any : 0 < n).
    (let at : n - 1 < signal_count f last = omega (arith, any, count) in
    let class = class_in f c.lists k last (n - 1) some (omega arith) at in
    omega (arith, most, long, count, class.1, single (n - 1) (omega (arith, at, long)), any)))
    (λ (none : n ≤ 0). omega (arith, most, long, count, none))
    (cases_lt 0 n)

pub by_deals : (g : ValidGame) (c : Filter) (e : c.parents ≡ (frame_in g).parents) (single : IsSingleIn c.lists (last_round (frame_in g)))
    (player z : ℕ) (pays : Pays) (numbers : List ℕ)
    → (player ≡ 1) ⊎ (player ≡ 2) → IsWalked (frame_in g) player → z < end_count (frame_in g) → round_of (frame_in g) (at_end z) ≡ last_round (frame_in g)
    → InRange (frame_in g) → IsClasses (frame_in g).parents c.lists
    → ((d : Deal) → pos d.weight *ℤ paid pays d.outcome ≡ pair_pays player (end_at (frame_in g) z) (deal_pair d))
    → (k : ℕ) → 0 < k → deal_sum (game_of g.game) numbers (paid pays) (k - 1) ≡ number_sum (frame_in g) c.lists player numbers z k
by_deals g c e single player z pays numbers either w l last r classes same k some =
    let f = frame_in g in
    let ds = deals_of g c e single (k - 1) in
    let row : List Pair = map deal_pair ds in
    let is : IsRow f c.lists (round_of f (at_end z)) k row = subst (λ x. IsRow f c.lists x k row) (sym last)
    (made_row g c e single k (k - 1) (omega (arith, some))) in
    let term : Pair → ℤ = λ p. pos (get_or numbers (p.two - 1) 0) *ℤ pair_pays player (end_at f z) p in
    let place : (d : Deal) → d.two ≡ d.two + 1 - 1 = λ d. omega arith in
    sum_z-same (λ (d : Deal). pos (slice_index numbers d.two) *ℤ (pos d.weight *ℤ paid pays d.outcome)) (λ d. term (deal_pair d))
    (λ d. ap (λ v. pos (get_or numbers d.two 0) *ℤ v) (same d) ∙ ap (λ n. pos (get_or numbers n 0) *ℤ pair_pays player (end_at f z) (deal_pair d)) (place d))
    ds
    ∙ sym (sum_z-map term deal_pair ds)
    ∙ row_sum f c.lists player either w z l k row is r classes (λ x. get_or numbers (x - 1) 0)
