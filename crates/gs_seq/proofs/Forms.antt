-- What a game in sequence form reads of its game and classes.
use Rattle.std.proofs.Common.{◌≡◌, ℕ, ◌<◌, ◌≤◌, List, [], None, length, map, get_or, refl, ap, ◌∙◌, sym, subst, inl, inr, ⊎_elim, arith}
use Rattle.std.proofs.{lemmas.Bool.{cases_eq}, lemmas.List.{get_or-map}}
use Rattle.std.specs.Prelude.{◌⊎◌}
use Rattle.gs_game.specs.{Games.{game_of}, Seen.{OwnPoint, arrow_of, end_of, own_point, point_of, target_of}, declared.positions.Arrow.{Arrow as StoredArrow}}
use Rattle.gs_game.specs.{declared.positions.End.{End as StoredEnd}, declared.positions.Point.{Point as StoredPoint}, declared.valid.ValidGame.{ValidGame}}
use Rattle.gs_model.specs.Classes.{ClassLists, IsClasses, class_count}
use Rattle.gs_model.specs.Frame.{Frame, end_at, end_count, last_round, leads_to, move_count, point, point_count, round_of, signal_count}
use Rattle.gs_model.specs.{FrameFacts.{InRange, IsWalked}, Game.{round_count}, Lossless.{IsLossless}, Positions.{Arrow, at_end}, Signals.{signals}}
use Rattle.gs_model.proofs.{Ranges.{in_range as in_range_of, signal_count_is}, Walked.{last_round_of}}
use Rattle.gs_tree.specs.{Trees.{rules_of}, declared.signals.Signals.{Signals}}
use Rattle.gs_seq.specs.{Abstracts.{abstract_frame, game_in, lists_of}, Games.{frame_in}, declared.form.Abstract.{Abstract}}
use Rattle.gs_seq.proofs.{Ends.{end_reads, end_round}, FewMoves.{AreFewMoves, moves_few}, Sizes.{AreModest, modest}, SlotLaws.{class_few, over}}
use Rattle.gs_seq.proofs.Points.{Reads, length-points, playable, point_reads, walked as walked_by}

-- what holds of one frame and classes holds of the same
pub carried : {f g : Frame} {ls ms : ClassLists} (P : Frame → ClassLists → Type 0) → f ≡ g → ls ≡ ms → P f ls → P g ms
carried {f} {g} {ls} {ms} P e k h = subst (λ x. P x ms) e (subst (λ y. P f y) k h)

pub end_in_frame : (g : ValidGame) (f : Frame) (es : List StoredEnd) (z : ℕ) (d : StoredEnd) → frame_in g ≡ f → map end_of es ≡ (frame_in g).ends
    → z < end_count f → end_of (get_or es z d) ≡ end_at f z
end_in_frame g f es z d same is l = end_reads g es z d is (subst (λ x. z < end_count x) (sym same) l) ∙ ap (λ x. end_at x z) same

pub round_in_frame : (g : ValidGame) (f : Frame) (es : List StoredEnd) (z : ℕ) (d : StoredEnd) → frame_in g ≡ f → map end_of es ≡ (frame_in g).ends
    → z < end_count f → (get_or es z d).round ≡ round_of f (at_end z)
round_in_frame g f es z d same is l = end_round f z (get_or es z d) (end_in_frame g f es z d same is l)

-- what the laws ask of a frame and classes
pub record AreGiven (f : Frame) (lists : ClassLists) : Type 0 where
  pub in_range : InRange f
  pub classes : IsClasses f.parents lists
  pub modest : AreModest f
  pub walked : (player : ℕ) → 0 < player → player ≤ 2 → IsWalked f player

pub given : (g : ValidGame) (f : Frame) (lists : ClassLists) → frame_in g ≡ f → IsClasses f.parents lists → AreGiven f lists
given g f lists same classes =
    subst (λ x. IsClasses x.parents lists → AreGiven x lists) same
    (λ k. record { in_range = in_range_of (game_of g.game) (playable g); classes = k; modest = modest g; walked = walked_by g }) classes

-- its classes
pub form_classes : (a : Abstract) → IsClasses (abstract_frame a).parents (lists_of a)
form_classes a = over (abstract_frame a) a.lossless.now.classes.now a.lossless.now.parents

-- the same of a game in sequence form
pub given_in : (a : Abstract) → AreGiven (abstract_frame a) (lists_of a)
given_in a = given (game_in a) (abstract_frame a) (lists_of a) refl (form_classes a)

pub one_or_two : (player : ℕ) → 0 < player → player ≤ 2 → (player ≡ 1) ⊎ (player ≡ 2)
one_or_two player some few = ⊎_elim (λ one. inl one) (λ other. inr (omega arith)) (cases_eq player 1)

-- ---- what a game in sequence form says of its frame

pub form_walked : (a : Abstract) (player : ℕ) → 0 < player → player ≤ 2 → IsWalked (abstract_frame a) player
form_walked a player some two = walked_by (game_in a) player some two

pub form_in_range : (a : Abstract) → InRange (abstract_frame a)
form_in_range a = in_range_of (game_of (game_in a).game) (playable (game_in a))

pub form_lossless : (a : Abstract) → IsLossless (abstract_frame a) (lists_of a)
form_lossless a = a.lossless.now.lossless

pub form_moves : (a : Abstract) (q : ℕ) → q < point_count (abstract_frame a) → AreFewMoves (move_count (abstract_frame a) q)
form_moves a q l = moves_few (game_in a) q l

pub form_reads : (a : Abstract) (game : ValidGame) (ps : List StoredPoint) (q : ℕ) (p : StoredPoint) → game ≡ game_in a
    → map point_of ps ≡ map own_point (frame_in game).points
    → q < point_count (abstract_frame a) → p ≡ get_or ps q p → Reads (abstract_frame a) q p
form_reads a game ps q p e points l is = point_reads (game_in a) ps q p (points ∙ ap (λ (v : ValidGame). map own_point (frame_in v).points) e) l is

-- the points of the game are as many as the frame's
pub form_inside : (a : Abstract) (game : ValidGame) (ps : List StoredPoint) (q : ℕ) → game ≡ game_in a → map point_of ps ≡ map own_point (frame_in game).points
    → q < point_count (abstract_frame a) → q < length ps
form_inside a game ps q e points l =
    omega (arith, length-points (game_in a) ps (points ∙ ap (λ (v : ValidGame). map own_point (frame_in v).points) e), l)

-- where a stored move leads
leads_is : (a : Abstract) (q : ℕ) (p : StoredPoint) (m : ℕ) (x : StoredArrow) → point_of p ≡ own_point (point (abstract_frame a) q) → m < length p.moves.items
    → x ≡ get_or p.moves.items m x
    → target_of x.to ≡ leads_to (abstract_frame a) q m
unfolding leads_to
leads_is a q p m x e l is =
    let out : Arrow = record { letter = 0; to = (abstract_frame a).start } in
    ap (λ (y : StoredArrow). target_of y.to) is ∙ ap (λ (y : Arrow). y.to) (sym (get_or-map arrow_of p.moves.items m x out l))
    ∙ ap (λ (o : OwnPoint). (get_or o.moves m out).to) e

pub form_leads : (a : Abstract) (game : ValidGame) (ps : List StoredPoint) (q : ℕ) (p : StoredPoint) (m : ℕ) (x : StoredArrow) → game ≡ game_in a
    → map point_of ps ≡ map own_point (frame_in game).points
    → q < point_count (abstract_frame a) → p ≡ get_or ps q p → m < move_count (abstract_frame a) q → x ≡ get_or p.moves.items m x
    → target_of x.to ≡ leads_to (abstract_frame a) q m
unfolding move_count
form_leads a game ps q p m x e points l is lm isx =
    let f = abstract_frame a in
    let seen : map point_of ps ≡ map own_point f.points = points ∙ ap (λ (v : ValidGame). map own_point (frame_in v).points) e in
    let out = own_point (point f q) in
    let here : point_of p ≡ own_point (point f q) =
    ap point_of is ∙ sym (get_or-map point_of ps q p out (omega (arith, length-points (game_in a) ps seen, l)))
    ∙ ap (λ (xs : List OwnPoint). get_or xs q out) seen
    ∙ get_or-map own_point f.points q (record { player = 0; round = 1; one = None; two = None; moves = [] }) out l in
    leads_is a q p m x here (omega (arith, (form_reads a game ps q p e points l is).moves, lm)) isx

pub form_class_few : (a : Abstract) → (round : ℕ) → 0 < round → round ≤ last_round (abstract_frame a)
    → class_count (lists_of a) round ≤ 200000
form_class_few a round some top = class_few (game_in a) a.lossless.now.classes.now a.lossless.now.parents round some top

pub form_signals : (a : Abstract) (round : ℕ) → 0 < round → round ≤ last_round (abstract_frame a) → signal_count (abstract_frame a) round ≤ 200000
form_signals a round some top =
    let g = game_in a in
    let r = last_round_of (game_of g.game) in
    omega (arith, signal_count_is (game_of g.game) round some (omega (arith, top, r)), g.limits.signals_in round (omega (arith, top, r)))

-- a round of the signals is one of the frame's
pub form_rounds : (a : Abstract) (s : Signals) → s ≡ a.lossless.now.signals.now → round_count (rules_of s) ≡ last_round (abstract_frame a)
form_rounds a s e = ap (λ (s : Signals). round_count (rules_of s)) e ∙ sym (last_round_of (game_of (game_in a).game))

pub form_count : (a : Abstract) (s : Signals) → s ≡ a.lossless.now.signals.now → (round : ℕ) → 0 < round → round ≤ last_round (abstract_frame a)
    → length (signals (rules_of s) round) ≡ signal_count (abstract_frame a) round
form_count a s e round some top =
    ap (λ (s : Signals). length (signals (rules_of s) round)) e ∙ sym (signal_count_is (game_of (game_in a).game) round some (let r =
    last_round_of (game_of (game_in a).game) in omega (arith, top, r)))
