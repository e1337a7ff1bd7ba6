use Rattle.std.proofs.Common.{◌≡◌, ◌+◌, ◌*◌, ◌≤◌, ℕ, List, length, drop, take, sym, ap, ◌∙◌, subst}
use Rattle.std.specs.Prelude.{IfOk}
use Rattle.gs_game.specs.Games.{game_of}
use Rattle.gs_model.specs.Game.{round_count}
use Rattle.gs_tree.proofs.Parts.{public_part, public_room}
use Rattle.gs_tree.proofs.boards.board_of.Goals as goal

pub part-public-requires : goal.part-public-requires
part-public-requires c =
    let h = c.args.hands.now in
    let P : List ℕ → Type 0 = λ x. c.args.signal * h.public + h.public ≤ length x in
    subst P (sym c.deref.ensures.value) (public_room (game_of c.args.valid.now.game) (round_count (game_of c.args.valid.now.game)) h.paths h.owns.items
    h.publics.items h.own h.public c.requires.hands c.args.signal c.requires.signal_in)

pub returns : goal.returns
returns c =
    let h = c.args.hands.now in
    let same = c.part-public.ensures
    ∙ ap (λ (x : List ℕ). take h.public (drop (c.args.signal * h.public) x)) c.deref.ensures.value
    ∙ public_part (game_of c.args.valid.now.game) (round_count (game_of c.args.valid.now.game)) h.paths h.owns.items h.publics.items h.own h.public
    c.requires.hands c.args.signal c.requires.signal_in in
    subst (λ (x : List ℕ). IfOk c.numbers_of.result (λ v. v.items ≡ x)) same c.numbers_of.ensures
