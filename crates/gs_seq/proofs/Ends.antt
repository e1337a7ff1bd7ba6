-- What the ends of a valid game say of its frame, and the numbers of plans there.
use Rattle.std.proofs.Common.{◌≡◌, ℕ, ◌<◌, ◌≤◌, List, length, map, get_or, refl, sym, ap, ◌∙◌, arith, true, false, Option, Some, None}
use Rattle.std.proofs.{lemmas.Bool.Decides.{Decides-eqb}, lemmas.List.{get_or-map, length-map}}
use Rattle.std.specs.Prelude.{◌==◌, option_map}
use Rattle.gs_game.specs.{Seen.{end_of, step_of}, declared.positions.End.{End as StoredEnd}, declared.valid.ValidGame.{ValidGame}}
use Rattle.gs_game.specs.declared.positions.EndKind.TheVariants as kinds
use Rattle.gs_model.specs.{Classes.{ClassLists, IsClass, IsClasses, class_of, first_member}, Frame.{Frame, ancestor, end_at, end_count, last_step, round_of}}
use Rattle.gs_model.specs.{FrameFacts.{InRange, IsWalked}, Pairs.{class_number}, Plans.{IsClassPlan, Plan, lift, number_before}}
use Rattle.gs_model.specs.Positions.{End, Show, Step, at_end, at_point}
use Rattle.gs_model.proofs.{Gather.{class_in, member_in}, PlanLaws.{numbers_within}, Tables.{is_table}, Basics.{not_eq}}
use Rattle.gs_seq.specs.Games.{frame_in}

-- what is read where no end stands
abbrev pub no_end : StoredEnd
no_end = record { round = 0; kind = kinds.Folded1; put = 0; one = None; two = None }

-- the ends of the program
pub length-ends : (g : ValidGame) (es : List StoredEnd) → map end_of es ≡ (frame_in g).ends → length es ≡ end_count (frame_in g)
length-ends g es e = sym (length-map es end_of) ∙ ap (λ (l : List End). length l) e

pub end_reads : (g : ValidGame) (es : List StoredEnd) (z : ℕ) (d : StoredEnd) → map end_of es ≡ (frame_in g).ends → z < end_count (frame_in g)
    → end_of (get_or es z d) ≡ end_at (frame_in g) z
end_reads g es z d e l =
    let out : End = record { round = 1; kind = Show; put = 0; one = None; two = None } in
    sym (get_or-map end_of es z d out (omega (arith, length-ends g es e))) ∙ ap (λ (xs : List End). get_or xs z out) e

pub end_round : (f : Frame) (z : ℕ) (e : StoredEnd) → end_of e ≡ end_at f z → e.round ≡ round_of f (at_end z)
unfolding round_of
end_round f z e is = ap (λ (x : End). x.round) is

pub end_one : (f : Frame) (player z : ℕ) (e : StoredEnd) → end_of e ≡ end_at f z → player ≡ 1 → last_step f player (at_end z) ≡ option_map step_of e.one
unfolding last_step
end_one f player z e is own = let test : (player == 1) ≡ true = (Decides-eqb player 1).1 own in rw test (sym (ap (λ (x : End). x.one) is))

pub end_two : (f : Frame) (player z : ℕ) (e : StoredEnd) → end_of e ≡ end_at f z → (player ≡ 1 → ⊥) → last_step f player (at_end z) ≡ option_map step_of e.two
unfolding last_step
end_two f player z e is other = let test : (player == 1) ≡ false = not_eq player 1 other in rw test (sym (ap (λ (x : End). x.two) is))

-- a plan's number at an end is at most its total
pub number_few : (f : Frame) (lists : ClassLists) (player : ℕ) (x : Plan) (z c : ℕ) → InRange f → IsWalked f player → IsClasses f.parents lists
    → IsClassPlan f lists player x → z < end_count f
    → IsClass lists (round_of f (at_end z)) c → class_number f lists player x z c ≤ x.total
number_few f lists player x z c r w k plan l h = by (last_step f player (at_end z)) refl
  where
    by : (o : Option Step) → last_step f player (at_end z) ≡ o → number_before f (lift f lists x) o (round_of f (at_end z))
        (first_member lists (round_of f (at_end z)) c) ≤ x.total
    by None e = omega arith
    by (Some u) e =
        let j = round_of f (at_end z) in
        let i = round_of f (at_point u.point) in
        let s = ancestor f j i (first_member lists j c) in
        let his = w.chosen_end z u l e in
        let before = w.earlier_end z u l e in
        let in_round = (is_table f r).kept j i (first_member lists j c) (w.some_round u.point before) (w.past_end_own z u l e)
        (member_in f lists k j c (w.end_round z l) (w.end_in z l) h) in
        numbers_within f lists player r w k x plan u.point (class_of lists i s) u.choice before his.0
        (class_in f lists k i s (w.some_round u.point before) (w.point_in u.point before) in_round) his.1
