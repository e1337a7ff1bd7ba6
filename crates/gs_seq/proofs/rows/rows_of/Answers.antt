use Rattle.std.proofs.Common.{◌≡◌, ◌+◌, ◌-◌, get_or, subst, arith}
use Rattle.gs_seq.specs.{Games.{frame_in}, Rows.{AreRowsIn}}
use Rattle.gs_seq.proofs.rows.rows_of.Goals as goal

pub returns-then-made : goal.returns-then-made
returns-then-made c = record {
  rows = let s = c.args.lossless.now in
      let rows = c.in_ok-rows.rows.items in
      record {
        most = omega (arith, c.in_ok-rows.ensures.long);
        fewest = omega (arith, c.in_ok-rows.ensures.long);
        single = λ l. c.requires c.if-made.true;
        in_round = λ round d some within. (
            let back : round - 1 + 1 ≡ round = omega (arith, some) in
            subst (λ j. AreRowsIn (frame_in s.signals.now.game.now) s.classes.now.lists j (get_or rows (round - 1) d).items) back
            (c.in_ok-rows.ensures.rows (round - 1) d (omega (arith, some, within))));
      };
  all = grind arith;
}

pub returns-clause-all : goal.returns-clause-all
returns-clause-all c = grind arith
