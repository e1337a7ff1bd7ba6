use Rattle.std.proofs.{Common.{arith}, lemmas.Grind.{common_steps}}
use Rattle.gs_boards.proofs.place.place_of.Goals as goal

pub returns-clause-place : goal.returns-clause-place
returns-clause-place c =
    let boards = c.boards.ensures in
    record {
      within = c.requires;
      board = record {
        within = boards.first_in c.args.signal c.requires;
        same = boards.first_same c.args.signal c.requires;
        none_before = λ k l. boards.none_before c.args.signal k c.requires l;
      };
      strength = c.strength-strength.ensures.value;
      win = grind (arith, common_steps);
    }
