use Rattle.std.proofs.Common.{◌≡◌, IsTrue, false, subst, arith, rules, sym, refl, true≢false}
use Rattle.gs_game.specs.Games.{round_rules}
use Rattle.gs_raw_commands.proofs.Rounds.{one_same, same_all, same_more}
use Rattle.gs_raw_commands.proofs.games.same_rounds.Goals as goal

pub returns-then-not-branch : goal.returns-then-not-branch
returns-then-not-branch c =
    let xs = c.args.one.now in
    let ys = c.args.two.now in
    let x = c.index-one-place.result in
    let y = c.index-two-place.result in
    let no : c.in_ok-same_round.field-0 ≡ false = search rules in (
      λ h. absurd (true≢false (sym h)),
      λ e. subst IsTrue no (c.in_ok-same_round.ensures.1 (one_same round_rules xs ys c.loop-place.place x y (omega arith)
          (omega arith) c.index-one-place.is c.index-two-place.is e)),
    )

pub loop-place-preserved : goal.loop-place-preserved
loop-place-preserved c =
    let xs = c.args.one.now in
    let ys = c.args.two.now in
    let x = c.index-one-place.result in
    let y = c.index-two-place.result in
    let yes' : IsTrue c.in_ok-same_round.field-0 = search rules in
    same_more round_rules xs ys c.loop-place.place x y (omega arith) (omega arith) c.index-one-place.is c.index-two-place.is
    (c.in_ok-same_round.ensures.0 yes') c.loop-place.invariant

pub returns : goal.returns
returns c =
    let xs = c.args.one.now in
    let ys = c.args.two.now in
    (λ h. same_all round_rules xs ys (omega arith) (λ k d l. c.loop-place.invariant k d (omega arith)), λ e. refl)
