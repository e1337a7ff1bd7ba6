use Rattle.std.proofs.lemmas.Grind.{common_steps}
use Rattle.std.proofs.{Common.{◌≡◌, ◌+◌, ◌<◌, ℕ, get_or, length, ap, sym, ◌∙◌, subst, arith, Vec, vec_len}, lemmas.List.{with_items_is}}
use Rattle.std.specs.declared.alloc.Global.{Global}
use Rattle.gs_game.specs.Games.{game_of}
use Rattle.gs_model.specs.Frame.{player_at, point_count}
use Rattle.gs_model.proofs.Ranges.{in_range}
use Rattle.gs_seq.specs.{Firsts.{AgreeBefore, AreFirstBefore, IsClear}, Games.{frame_in}, Slots.{slots_before}}
use Rattle.gs_seq.proofs.{Firsts.{firsts_more, firsts_same}, Leaks.{slots_none}, Choices.{some_move}, Points.{chooser, place_in, playable, walked_at}, SlotLaws.{over}}
use Rattle.gs_seq.proofs.first.first_weights.Goals.{After-index-points-point, then-points-point, else-points-point}
use Rattle.gs_seq.proofs.first.first_weights.Goals as goal

-- who chooses at the point
whose : (c : After-index-points-point) → (get_or c.points.result.now c.loop-point.point c.index-points-point.result).player ≡ player_at
    (frame_in c.args.game.now) c.loop-point.point
whose c = chooser c.args.game.now c.points.result.now c.loop-point.point _ c.index-points-point.result c.points.ensures c.point_total-point-end.ensures
    c.loop-point-test.true c.index-points-point.is

pub loop-point-preserved : goal.loop-point-preserved
loop-point-preserved c =
    let at = goal.at.loop-point-preserved c in
    let g = c.args.game.now in
    let f = frame_in g in
    let q = c.loop-point.point in
    let lists = c.args.classes.now.lists in
    let within : q < point_count f = omega (arith, c.loop-point-test.true, c.point_total-point-end.ensures) in
    let chooser = whose at.After-index-points-point in
    let i = c.loop-point.invariant in
    elim c.if-points-point.branch [
      | then-points-point w ↦
          let p = c.args.player in
          let own = sym chooser ∙ w.if-points-point.true in
          let xs = c.loop-point.weights.items in
          let ys = w.put_first.new.weights in
          let wide : c.loop-point.weights.len ≡ length ys = omega
          (arith, c.loop-point.weights.ok.0, w.put_first.auto.weights, ap length w.deref_mut.ensures.value) in
          let same : c.if-points-point.weights.items ≡ ys = ap (λ (v : Vec ℕ Global). v.items) w.weights-is
          ∙ with_items_is c.loop-point.weights ys (sym wide) in
          let agree : AgreeBefore (slots_before f lists p q) xs ys = subst (λ zs. AgreeBefore (slots_before f lists p q) zs ys) w.deref_mut.ensures.value
          w.put_first.ensures.kept in
          record {
            long = ap (λ (v : Vec ℕ Global). vec_len v) w.weights-is ∙ i.long;
            firsts = subst (λ zs. AreFirstBefore f lists p zs (q + 1)) (sym same)
                (firsts_more f (in_range (game_of g.game) (playable g)) lists (over f c.args.classes.now c.requires.parents) p (walked_at g p q within own)
                (some_move g) q xs ys within i.firsts agree
                w.put_first.ensures.here);
            clear = subst (λ zs. IsClear (slots_before f lists p (q + 1)) zs) (sym same) w.put_first.ensures.clear;
          }
      | else-points-point w ↦
          let p = c.args.player in
          let other = λ (e : player_at f q ≡ p). w.if-points-point.false (chooser ∙ e) in
          let same : c.if-points-point.weights.items ≡ c.loop-point.weights.items = ap (λ (v : Vec ℕ Global). v.items) w.weights-is in
          record {
            long = ap (λ (v : Vec ℕ Global). vec_len v) w.weights-is ∙ i.long;
            firsts = subst (λ zs. AreFirstBefore f lists p zs (q + 1)) (sym same) (firsts_same f lists p q c.loop-point.weights.items i.firsts other);
            clear = subst (λ zs. IsClear (slots_before f lists p (q + 1)) zs) (sym same) (λ k l. i.clear k (omega (arith, l, slots_none f lists p q other)));
          }
    ]

pub loop-point-init : goal.loop-point-init
loop-point-init c = grind (arith, common_steps)

pub bounds-points-point-in-loop-point : goal.bounds-points-point-in-loop-point
bounds-points-point-in-loop-point c =
    let within = subst (λ n. c.loop-point.point < n) c.point_total-point-end.ensures c.loop-point-test.true in
    place_in c.args.game.now c.points.result.now c.loop-point.point c.points.ensures within

pub bounds-points-point : goal.bounds-points-point
bounds-points-point c =
    let within = subst (λ n. c.loop-point.point < n) c.point_total-point-end.ensures c.loop-point-test.true in
    place_in c.args.game.now c.points.result.now c.loop-point.point c.points.ensures within

pub returns : goal.returns
returns c = record {
  long = omega arith;
  firsts = let f = frame_in c.args.game.now in
      let all : c.loop-point.point ≡ point_count f = omega (arith, c.loop-point-test.false, c.point_total-point-end.ensures, c.loop-point.auto.point-end) in
      subst (AreFirstBefore f c.args.classes.now.lists c.args.player c.loop-point.weights.items) all c.loop-point.invariant.firsts;
}

pub put_first-requires : goal.put_first-requires
put_first-requires c = record {
  parents = grind arith;
  offsets = c.requires.offsets;
  in_range = subst (λ n. c.loop-point.point < n) c.point_total-point-end.ensures c.loop-point-test.true;
  own = sym (whose (goal.at.put_first-requires c).After-index-points-point) ∙ c.if-points-point.true;
  long = omega arith;
  firsts = subst (λ xs. AreFirstBefore (frame_in c.args.game.now) c.args.classes.now.lists c.args.player xs c.loop-point.point) (sym c.deref_mut.ensures.value)
      c.loop-point.invariant.firsts;
  clear = subst (IsClear (slots_before (frame_in c.args.game.now) c.args.classes.now.lists c.args.player c.loop-point.point)) (sym c.deref_mut.ensures.value)
      c.loop-point.invariant.clear;
}
