use Rattle.std.proofs.{Common.{◌≡◌, ℕ, ◌+◌, ◌<◌, Bool, List, Vec, false, true, get_or, length, set, refl, sym, ap, ◌∙◌, subst, arith, ⊎_elim}, lemmas.Bool.{cases_eq}}
use Rattle.std.proofs.Common.{get_or-set_other, get_or-set_same, length-set, true≢false}
use Rattle.std.specs.declared.alloc.Global.{Global}
use Rattle.gs_model.specs.Frame.{point_count}
use Rattle.gs_seq.proofs.Forms.{form_classes, form_in_range, form_walked}
use Rattle.gs_best.specs.Tables.{AreInMoves, moves_of}
use Rattle.gs_play.specs.{Answers.{IsRight}, Sides.{side_frame, side_lists}}
use Rattle.gs_play.proofs.{Again.{again_more, again_still}, Retaken.{renewed_none, renewed_on}, answers.renew.Goals.{In-loop-point}}
use Rattle.gs_play.proofs.answers.renew.Goals as goal

-- the point at hand
inside : (c : In-loop-point) → c.loop-point.point < point_count (side_frame c.args.side.now)
inside c = omega (arith, c.loop-point-test.true, c.point_total-point-end.ensures)

-- what a list has where one place of it is cleared
cleared_more : (xs : List Bool) (n : ℕ) → n < length xs → ((q : ℕ) → q < n → get_or xs q false ≡ false) → (q : ℕ) → q < n + 1
    → get_or (set xs n false) q false ≡ false
cleared_more xs n l h q less = ⊎_elim
    (λ (same : q ≡ n). ap (λ i. get_or (set xs n false) i false) same ∙ get_or-set_same xs n false false l)
    (λ (other : q ≡ n → ⊥). get_or-set_other xs n q false false other ∙ h q (omega (arith, less, other)))
    (cases_eq q n)

pub loop-point-preserved : goal.loop-point-preserved
loop-point-preserved c =
    let s = c.args.side.now in
    let f = side_frame s in
    let lists = side_lists s in
    let q = c.loop-point.point in
    let lq = inside (goal.at.loop-point-preserved c).In-loop-point in
    let i = c.loop-point.invariant in
    let now = c.args.now in
    let start = c.args.answer.now in
    let next = c.renew_at.new.answer in
    let move = moves_of f lists c.args.own.now.picks.items in
    let moved = c.loop-point.own.moved.items in
    let room : q < length moved = omega (arith, lq, i.own.moved) in
    record {
      renewed = renewed_on f lists s.player now start c.loop-point.answer next c.args.tally.now c.loop-point.tally c.renew_at.new.tally i.renewed
          c.renew_at.ensures.renewed;
      own = record {
        worths = i.own.worths;
        totals = i.own.totals;
        picks = i.own.picks;
        turns = i.own.turns;
        dues = i.own.dues;
        blocks = i.own.blocks;
        moved = length-set moved q false ∙ i.own.moved;
      };
      same = record { worths = i.same.worths; totals = i.same.totals; dues = i.same.dues; picks = i.same.picks };
      cleared = cleared_more moved q room i.cleared;
      as_it_was = λ p less. get_or-set_other moved q p false false (λ same. absurd (omega (arith, less, same))) ∙ i.as_it_was p (omega (arith, less));
      done = again_more f (form_in_range s.form.now) lists (form_classes s.form.now) s.player (form_walked s.form.now s.player s.some s.two) q lq move
          start c.loop-point.answer i.done next c.renew_at.ensures.turned
          (λ own e le. subst (λ (v : Vec ℕ Global). IsRight f lists (moves_of f lists next.taken.items) (moves_of f lists v.items) q e) i.same.picks
          (c.renew_at.ensures.right own e le));
    }

pub loop-point-init : goal.loop-point-init
loop-point-init c =
    let s = c.args.side.now in
    record {
      renewed = renewed_none (side_frame s) (side_lists s) s.player c.args.now c.args.answer.now c.args.tally.now c.requires.renewable.answer
          c.requires.renewable.room;
      own = c.requires.own;
      same = record { worths = refl; totals = refl; dues = refl; picks = refl };
      cleared = grind arith;
      as_it_was = λ q less. refl;
      done = grind arith;
    }

pub index_mut-requires : goal.index_mut-requires
index_mut-requires c = grind arith

pub returns-clause-right : goal.returns-clause-right
returns-clause-right c = grind arith

pub returns-clause-own : goal.returns-clause-own
returns-clause-own c = grind arith

pub returns-clause-still : goal.returns-clause-still
returns-clause-still c = λ q lq moved. true≢false (sym moved ∙ c.loop-point.invariant.cleared q (omega (arith, lq, c.loop-point-test.false, c.point_total-point-end.ensures)))

pub overflow_cast-point : goal.overflow_cast-point
overflow_cast-point c = omega arith

pub renew_at-requires : goal.renew_at-requires
renew_at-requires c = record {
  point = grind arith;
  own = grind arith;
  renewable = let i = c.loop-point.invariant in
      let s = c.args.side.now in
      record {
        answer = i.renewed.answer;
        long = i.own.picks;
        moves = subst (λ (v : Vec ℕ Global). AreInMoves (side_frame s) (side_lists s) s.player (moves_of (side_frame s) (side_lists s) v.items)) (sym i.same.picks)
            c.requires.renewable.moves;
        room = i.renewed.kept.room;
      };
  right = λ own still e le.
      let s = c.args.side.now in
      let f = side_frame s in
      let lists = side_lists s in
      let q = c.loop-point.point in
      let lq = inside (goal.at.renew_at-requires c).In-loop-point in
      let i = c.loop-point.invariant in
      let move = moves_of f lists c.args.own.now.picks.items in
      let as_it_was = i.as_it_was q (omega arith) in
      let right = c.requires.right q lq own (λ moved. absurd (let t : false ≡ true = sym still.own ∙ as_it_was ∙ moved in cc)) e le in
      subst (λ (v : Vec ℕ Global). IsRight f lists (moves_of f lists c.loop-point.answer.taken.items) (moves_of f lists v.items) q e) (sym i.same.picks)
      (again_still f (form_in_range s.form.now) lists (form_classes s.form.now) s.player (form_walked s.form.now s.player s.some s.two) q lq move
      c.args.answer.now c.loop-point.answer i.done e c.loop-point.own.moved.items own le right still);
}

pub returns-clause-renewed : goal.returns-clause-renewed
returns-clause-renewed c = c.loop-point.invariant.renewed

pub returns-clause-same : goal.returns-clause-same
returns-clause-same c = c.loop-point.invariant.same
