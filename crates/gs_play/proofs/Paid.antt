-- What a player's answer has at a class of a point, and the weight of the move that is taken there once the turns since then are added.
use Rattle.std.proofs.{Common.{◌≡◌, ℕ, ◌+◌, ◌-◌, ◌<◌, ◌≤◌, List, length, get_or, set, sym, ap, ◌∙◌, arith}, lemmas.List.{get_or_default}}
use Rattle.gs_model.specs.{Classes.{ClassLists, IsClass}, Frame.{Frame, move_count, player_at, point_count, round_of}, Positions.{at_point}}
use Rattle.gs_seq.specs.Slots.{slot_of}
use Rattle.gs_best.specs.Tables.{moves_of, start_of}
use Rattle.gs_best.proofs.PointStarts.{place_before}
use Rattle.gs_play.specs.{Answers.{HasAnswer}, Plots.{cell_place}, declared.answers.Answer.{Answer}}
use Rattle.gs_play.proofs.Slotted.{added_at, counted, slot_few}

-- a value that was read at the cell of a class is that of the class
pub cell_read : (f : Frame) (lists : ClassLists) (q c : ℕ) → q < point_count f → IsClass lists (round_of f (at_point q)) c → (xs : List ℕ) (k v : ℕ)
    → length xs ≡ start_of f lists (point_count f) → k ≡ cell_place f lists q c → v ≡ get_or xs k v → moves_of f lists xs q c ≡ v
cell_read f lists q c lq lc xs k v long at is =
    ap (λ i. get_or xs i 0) (sym at)
    ∙ get_or_default xs k 0 v (omega (arith, place_before f lists q c (point_count f) lc lq, long, at))
    ∙ sym is

module _ (f : Frame) (lists : ClassLists) (player now q c : ℕ) (lq : q < point_count f) (own : player_at f q ≡ player)
    (lc : IsClass lists (round_of f (at_point q)) c) (a : Answer) (has : HasAnswer f lists player now a) (k : ℕ) (at : k ≡ cell_place f lists q c) where
  pub old_read : (old : ℕ) → old ≡ get_or a.taken.items k old → moves_of f lists a.taken.items q c ≡ old
  old_read old is = cell_read f lists q c lq lc a.taken.items k old has.taken at is

  -- what is taken is a move
  pub old_in : (old : ℕ) → old ≡ get_or a.taken.items k old → old < 255 → old < move_count f q
  old_in old is some =
      let read = old_read old is in
      let move = has.moves q c lq own lc (omega (arith, read, some)) in
      omega (arith, read, move)

  pub began_read : (began : ℕ) → began ≡ get_or a.since.items k began → moves_of f lists a.since.items q c ≡ began
  began_read began is = cell_read f lists q c lq lc a.since.items k began has.since at is

  pub began_before : (began : ℕ) → began ≡ get_or a.since.items k began → began ≤ now
  began_before began is = (let read = began_read began is in let h = has.begun (cell_place f lists q c) in omega (arith, read, h))

  module _ (old began slot weight more : ℕ) (old_is : old ≡ get_or a.taken.items k old) (some : old < 255) (began_is : began ≡ get_or a.since.items k began)
      (slot_is : slot ≡ slot_of f lists q c old) (weight_is : weight ≡ get_or a.weights.items slot weight) (more_is : more ≡ now - began) where
    weight_read : get_or a.weights.items (slot_of f lists q c old) 0 ≡ weight
    weight_read =
        let inside = slot_few f lists player q c old lq own lc (old_in old old_is some) in
        ap (λ i. get_or a.weights.items i 0) (sym slot_is)
        ∙ get_or_default a.weights.items slot 0 weight (omega (arith, inside, slot_is, has.weights))
        ∙ sym weight_is

    -- the weight stays small
    pub paid_few : weight + more ≤ now
    paid_few =
        let h = has.few q c old lq own lc (old_in old old_is some) in
        let b = began_read began began_is in
        let n = began_before began began_is in
        omega (arith, weight_read, h, b, n, more_is)

    -- and no other changes
    pub paid_off : (p e m : ℕ) → player_at f p ≡ player → IsClass lists (round_of f (at_point p)) e → m < move_count f p
        → get_or (set a.weights.items slot (weight + more)) (slot_of f lists p e m) 0 ≡ get_or a.weights.items (slot_of f lists p e m) 0
        + counted q c (moves_of f lists a.taken.items q c) (now - moves_of f lists a.since.items q c) p e m
    paid_off p e m his le lm =
        let xs = a.weights.items in
        let place = slot_of f lists q c old in
        ap (λ i. get_or (set xs i (weight + more)) (slot_of f lists p e m) 0) slot_is
        ∙ ap (λ w. get_or (set xs place (w + more)) (slot_of f lists p e m) 0) (sym weight_read)
        ∙ added_at f lists player xs q c old more lq own lc (old_in old old_is some) has.weights p e m his le lm
        ∙ ap (λ n. get_or xs (slot_of f lists p e m) 0 + counted q c n more p e m) (sym (old_read old old_is))
        ∙ ap (λ n. get_or xs (slot_of f lists p e m) 0 + counted q c (moves_of f lists a.taken.items q c) n p e m)
        (more_is ∙ ap (λ n. now - n) (sym (began_read began began_is)))
