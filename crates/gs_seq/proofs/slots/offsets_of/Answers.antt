use Rattle.std.proofs.Common.{◌≡◌, ◌⊎◌, ◌+◌, ◌^◌, ◌<◌, ◌++◌, ◌∷◌, [], ℕ, List, ap, get_or, length, subst, sym, ◌∙◌, ⊎_elim, arith, below_more}
use Rattle.std.proofs.lemmas.List.{get_or_append_left, get_or_push}
use Rattle.gs_game.specs.declared.positions.Point.{Point}
use Rattle.gs_model.specs.{Classes.{ClassLists}, Frame.{Frame, player_at, point_count}}
use Rattle.gs_seq.specs.{Games.{frame_in}, Slots.{slot_count, slots_at, slots_before}}
use Rattle.gs_seq.proofs.{Points.{place_in, players, point_reads}, SlotLaws.{slots_le, slots_more}, slots.offsets_of.Goals.{then-player-eq1, else-player-eq1}}
use Rattle.gs_seq.proofs.slots.offsets_of.Goals as goal

-- a player's slots at a point fit, alone and after those before it
slots_fit : (f : Frame) (lists : ClassLists) (player q here before : ℕ) → q < point_count f → slot_count f lists player < 2 ^ 32 → here ≡ slots_at f lists player q
    → before ≡ slots_before f lists player q → (here < 2 ^ 32) × (before + here < 2 ^ 32)
slots_fit f lists player q here before l few is at =
    let more = slots_more f lists player q in let most = slots_le f lists player (q + 1) (point_count f) (omega (arith, l)) in
    (omega (arith, is, more, most, few), omega (arith, is, at, more, most, few))

pub overflow_cast-one : goal.overflow_cast-one
overflow_cast-one c = record {
  fits = (slots_fit (frame_in c.args.game.now) c.args.classes.now.lists 1 c.loop-point.point c.slots_at.result c.loop-point.one (omega (arith, c.loop-point-test.true, c.point_total-count.ensures))
      c.requires.one c.slots_at.ensures c.loop-point.invariant.one_is).0;
}

pub overflow_add-one : goal.overflow_add-one
overflow_add-one c = record {
  fits = (slots_fit (frame_in c.args.game.now) c.args.classes.now.lists 1 c.loop-point.point c.slots_at.result c.loop-point.one (omega (arith, c.loop-point-test.true, c.point_total-count.ensures))
      c.requires.one c.slots_at.ensures c.loop-point.invariant.one_is).1;
}

pub overflow_cast-two : goal.overflow_cast-two
overflow_cast-two c = record {
  fits = (slots_fit (frame_in c.args.game.now) c.args.classes.now.lists 2 c.loop-point.point c.slots_at-in-loop-point.result c.loop-point.two (omega (arith, c.loop-point-test.true, c.point_total-count.ensures))
      c.requires.two c.slots_at-in-loop-point.ensures c.loop-point.invariant.two_is).0;
}

pub overflow_add-two : goal.overflow_add-two
overflow_add-two c = record {
  fits = (slots_fit (frame_in c.args.game.now) c.args.classes.now.lists 2 c.loop-point.point c.slots_at-in-loop-point.result c.loop-point.two (omega (arith, c.loop-point-test.true, c.point_total-count.ensures))
      c.requires.two c.slots_at-in-loop-point.ensures c.loop-point.invariant.two_is).1;
}

second : (n : ℕ) → (n ≡ 1) ⊎ (n ≡ 2) → (n ≡ 1 → ⊥) → n ≡ 2
second n whose other = ⊎_elim (λ one. absurd (other one)) (λ two. two) whose

-- the offset is that of the player who chooses
own_offset : (f : Frame) (lists : ClassLists) (q push n player : ℕ) → push ≡ n → n ≡ slots_before f lists player q → player_at f q ≡ player
    → push ≡ slots_before f lists (player_at f q) q
own_offset f lists q push n player e is own = e ∙ is ∙ ap (λ p. slots_before f lists p q) (sym own)

-- one point more has its offset
first_more : (f : Frame) (lists : ClassLists) (offsets pushed : List ℕ) (q here : ℕ) → pushed ≡ offsets ++ here ∷ [] → length offsets ≡ q
    → ((k : ℕ) → k < q → get_or offsets k 0 ≡ slots_before f lists (player_at f k) k) → here ≡ slots_before f lists (player_at f q) q
    → (k : ℕ) → k < q + 1 → get_or pushed k 0 ≡ slots_before f lists (player_at f k) k
first_more f lists offsets pushed q here put long first chosen = below_more _ _
    (λ k l. ap (λ (os : List ℕ). get_or os k 0) put ∙ get_or_append_left offsets (here ∷ []) 0 k (subst (λ n. k < n) (sym long) l) ∙ first k l)
    (ap (λ (os : List ℕ). get_or os q 0) put ∙ get_or_push offsets here 0 q long ∙ chosen)

pub loop-point-preserved : goal.loop-point-preserved
loop-point-preserved c =
    let f = frame_in c.args.game.now in
    let lists = c.args.classes.now.lists in
    let q = c.loop-point.point in
    let in_range : q < point_count f = subst (λ n. q < n) c.point_total-count.ensures c.loop-point-test.true in
    let i = c.loop-point.invariant in
    let r = point_reads c.args.game.now c.points.result.now q c.index-points-point.result c.points.ensures in_range c.index-points-point.is in
    let whose = sym (ap (λ (p : Point). p.player) c.index-points-point.is) ∙ r.player in
    let chosen : c.if-player-eq1.push ≡ slots_before f lists (player_at f q) q =
    elim c.if-player-eq1.branch [
      | then-player-eq1 w ↦ own_offset f lists q c.if-player-eq1.push c.loop-point.one 1 w.push-is i.one_is (sym whose ∙ w.if-player-eq1.true)
      | else-player-eq1 w ↦
          let two = second (player_at f q) (players c.args.game.now q in_range) (λ one. w.if-player-eq1.false (whose ∙ one)) in
          own_offset f lists q c.if-player-eq1.push c.loop-point.two 2 w.push-is i.two_is two
    ] in
    let offsets = c.loop-point.offsets.items in
    let here = c.if-player-eq1.push in
    let long : length offsets ≡ q = sym c.loop-point.offsets.ok.0 ∙ c.loop-point.invariant.long in
    let put = c.in_ok-push.ensures.items in
    record {
      long = c.in_ok-push.ensures.len ∙ ap (λ n. n + 1) i.long;
      one_is = ap (λ n. n + c.slots_at.result) i.one_is ∙ ap (λ n. slots_before f lists 1 q + n) c.slots_at.ensures ∙ sym (slots_more f lists 1 q);
      two_is = ap (λ n. n + c.slots_at-in-loop-point.result) i.two_is
          ∙ ap (λ n. slots_before f lists 2 q + n) c.slots_at-in-loop-point.ensures ∙ sym (slots_more f lists 2 q);
      first = first_more f lists offsets c.push.new.self.items q here put long i.first chosen;
    }

pub bounds-points-point-in-loop-point : goal.bounds-points-point-in-loop-point
bounds-points-point-in-loop-point c =
    let within = subst (λ n. c.loop-point.point < n) c.point_total-count.ensures c.loop-point-test.true in
    place_in c.args.game.now c.points.result.now c.loop-point.point c.points.ensures within

pub bounds-points-point : goal.bounds-points-point
bounds-points-point c =
    let within = subst (λ n. c.loop-point.point < n) c.point_total-count.ensures c.loop-point-test.true in
    place_in c.args.game.now c.points.result.now c.loop-point.point c.points.ensures within

pub returns : goal.returns
returns c = grind arith

pub slots_at-requires : goal.slots_at-requires
slots_at-requires c = record {
  parents = c.requires.parents;
  in_range = subst (λ n. c.loop-point.point < n) c.point_total-count.ensures c.loop-point-test.true;
}

pub slots_at-requires-in-loop-point : goal.slots_at-requires-in-loop-point
slots_at-requires-in-loop-point c = record {
  parents = c.requires.parents;
  in_range = subst (λ n. c.loop-point.point < n) c.point_total-count.ensures c.loop-point-test.true;
}

pub offset_bounds-points-point : goal.offset_bounds-points-point
offset_bounds-points-point c = omega arith

pub overflow_cast-player : goal.overflow_cast-player
overflow_cast-player c = omega arith
