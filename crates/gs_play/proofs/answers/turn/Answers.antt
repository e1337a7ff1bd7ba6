use Rattle.std.proofs.lemmas.Grind.{common_steps}
use Rattle.std.proofs.lemmas.List.{get_or-set_same}
use Rattle.std.proofs.Common.{ℕ, Bool, length, false, set, true, ap, ◌∙◌, arith, vec_len, Vec}
use Rattle.std.specs.{Vec.{with_item}, declared.alloc.Global.{Global}}
use Rattle.gs_play.specs.{Sides.{side_frame, side_lists}, declared.answers.Answer.{Answer}}
use Rattle.gs_play.proofs.Switched.{IsSwitched, switched_elsewhere, switched_has, switched_here, switched_plan}
use Rattle.gs_play.proofs.answers.turn.Goals.{After-pay_off}
use Rattle.gs_play.proofs.answers.turn.Goals as goal

pub index_mut-requires : goal.index_mut-requires
index_mut-requires c =
    let same = ap (λ (v : Vec ℕ Global). vec_len v) c.pay_off.ensures.taken in
    omega (arith, c.cell_of-cell.ensures.inside, same, c.requires.answer.taken, c.args.answer.now.taken.ok.0)

pub index_mut-requires-2 : goal.index_mut-requires-2
index_mut-requires-2 c =
    let same = ap (λ (v : Vec ℕ Global). vec_len v) c.pay_off.ensures.since in
    omega (arith, c.cell_of-cell.ensures.inside, same, c.requires.answer.since, c.args.answer.now.since.ok.0)

-- the answer behind the turn
abbrev after : After-pay_off → Answer
after c = record {
  weights = c.pay_off.new.answer.weights;
  taken = with_item c.pay_off.new.answer.taken c.cell_of-cell.result c.args.new;
  since = with_item c.pay_off.new.answer.since c.cell_of-cell.result c.args.now;
  turned = with_item c.pay_off.new.answer.turned c.args.point true;
}

switched : (c : After-pay_off) → IsSwitched (side_frame c.args.side.now) (side_lists c.args.side.now) c.args.side.now.player c.args.point c.args.class
    c.args.new c.args.now c.args.answer.now (after c)
switched c = record {
  weights = c.pay_off.ensures.weights;
  long = c.pay_off.ensures.long;
  taken = ap (λ (v : Vec ℕ Global). set v.items c.cell_of-cell.result c.args.new) c.pay_off.ensures.taken
      ∙ ap (λ k. set c.args.answer.now.taken.items k c.args.new) c.cell_of-cell.ensures.place;
  since = ap (λ (v : Vec ℕ Global). set v.items c.cell_of-cell.result c.args.now) c.pay_off.ensures.since
      ∙ ap (λ k. set c.args.answer.now.since.items k c.args.now) c.cell_of-cell.ensures.place;
  turned = ap (λ (v : Vec Bool Global). set v.items c.args.point true) c.pay_off.ensures.turned;
}

pub returns : goal.returns
returns c =
    let g = goal.at.returns c in
    let f = side_frame c.args.side.now in
    let lists = side_lists c.args.side.now in
    let player = c.args.side.now.player in
    let old = c.args.answer.now in
    let new = after g.After-pay_off in
    let q = c.requires in
    let s = switched g.After-pay_off in
    let turned = c.pay_off.new.answer.turned.items in
    let long = ap (λ (v : Vec Bool Global). length v.items) c.pay_off.ensures.turned ∙ q.answer.turned in
    record {
      answer = switched_has f lists player c.args.point c.args.class c.args.new c.args.now q.point q.own q.class old new q.answer s q.new;
      here = switched_here f lists player c.args.point c.args.class c.args.new c.args.now q.point q.own q.class old new q.answer s;
      turned = get_or-set_same turned c.args.point true false (omega (arith, long, q.point));
      elsewhere = switched_elsewhere f lists player c.args.point c.args.class c.args.new c.args.now q.point q.own q.class old new q.answer s;
      plan = switched_plan f lists player c.args.point c.args.class c.args.new c.args.now q.point q.own q.class old new q.answer s;
    }

pub pay_off-requires : goal.pay_off-requires
pay_off-requires c = grind (arith, common_steps)

pub index_mut-requires-3 : goal.index_mut-requires-3
index_mut-requires-3 c = grind arith
