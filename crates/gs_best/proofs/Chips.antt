-- What ends pay is at most 4,096 chips, and all deals weigh at most 2^26.
use Rattle.std.proofs.{Common.{◌≡◌, ℕ, ◌*◌, ◌<◌, ◌≤◌, length, get_or, arith, true, false, cond, None}, Math.Nat.{mul-le-mul_left}}
use Rattle.std.proofs.lemmas.Int.{ints, unsigned_abs-mul}
use Rattle.std.specs.Prelude.{◌==◌, ℤ, pos, neg_ℤ, unsigned_abs}
use borrow.Author.Differences.{abs_is}
use Rattle.gs_model.specs.{Numbering.{greatest}, Deals.{Deal}, Frame.{Frame, end_at, end_count, payoff_to, total_weight, trees_of}}
use Rattle.gs_model.specs.Positions.{End, EndKind, Folded1, Folded2, Show, end_payoff}
use Rattle.gs_model.proofs.Basics.{product_le}
use Rattle.gs_game.specs.{Games.{game_of}, Money.{most_in}, declared.valid.ValidGame.{ValidGame}}
use Rattle.gs_seq.specs.{Games.{frame_in}, Abstracts.{abstract_frame, game_in}, declared.form.Abstract.{Abstract}}
use Rattle.gs_seq.proofs.Sizes.{abs_neg, abs_pos, are_bet, outcomes_le, puts_le, some_greatest}

kind_pays : (k : EndKind) (put : ℕ) (o : ℤ) (most : ℕ) (top : ℕ) → put ≤ most → unsigned_abs o ≤ top → 1 ≤ top
    → unsigned_abs (end_payoff (record { round = 1; kind = k; put = put; one = None; two = None }) o) ≤ most * top
kind_pays Folded1 put o most top l m s = let y : most * 1 ≤ most * top = mul-le-mul_left most s in abs_neg put (most * top) (omega (arith, y, l))
kind_pays Folded2 put o most top l m s = let y : most * 1 ≤ most * top = mul-le-mul_left most s in abs_pos put (most * top) (omega (arith, y, l))
kind_pays Show put o most top l m s =
    let e = unsigned_abs-mul o (pos put) in
    let a : unsigned_abs (pos put) ≤ most = abs_pos put most l in
    let p = product_le (unsigned_abs (pos put)) (unsigned_abs o) most top a m in
    omega (arith, e, p)

end_pays : (e : End) (o : ℤ) (most top : ℕ) → e.put ≤ most → unsigned_abs o ≤ top → 1 ≤ top → unsigned_abs (end_payoff e o) ≤ most * top
end_pays e o most top l m s = kind_pays e.kind e.put o most top l m s

abs_turned : (z : ℤ) → unsigned_abs (neg_ℤ z) ≡ unsigned_abs z
abs_turned z = omega (arith, ints, abs_is z, abs_is (neg_ℤ z))

pays_le : (f : Frame) (p z : ℕ) (o : ℤ) (most top : ℕ) → (end_at f z).put ≤ most → unsigned_abs o ≤ top → 1 ≤ top
    → unsigned_abs (payoff_to f p z o) ≤ most * top
unfolding payoff_to
pays_le f p z o most top l m s = elim (p == 1) as (λ b. unsigned_abs (cond b (end_payoff (end_at f z) o) (neg_ℤ (end_payoff (end_at f z) (neg_ℤ o))))
    ≤ most * top) [
      | true ↦ end_pays (end_at f z) o most top l m s
      | false ↦ let k = end_pays (end_at f z) (neg_ℤ o) most top l (omega (arith, abs_turned o, m)) s in
          omega (arith, abs_turned (end_payoff (end_at f z) (neg_ℤ o)), k)
    ]

-- what bounds all numbers of a game
pub record IsModest (f : Frame) : Type 0 where
  pub ends : end_count f ≤ 8192
  pub pays : (p z k : ℕ) (d : Deal) → z < end_count f → k < length f.deals → unsigned_abs (payoff_to f p z (get_or f.deals k d).outcome) ≤ 4096
  pub weight : total_weight f ≤ 67108864

pub modest : (g : ValidGame) → IsModest (frame_in g)
modest g =
    let r = game_of g.game in
    let b = are_bet r g.accepted in
    record {
      ends = b.lines;
      pays = λ p z k d lz lk.
          omega (
            arith,
            b.puts,
            pays_le (frame_in g) p z (get_or (frame_in g).deals k d).outcome (most_in (trees_of r) r.ante r.ante) (greatest r.bonus)
                (puts_le g z lz) (outcomes_le r k d lk) (some_greatest g),
          );
      weight = g.limits.weight_in;
    }

-- the same of a game in sequence form
pub form_modest : (a : Abstract) → IsModest (abstract_frame a)
form_modest a = modest (game_in a)
