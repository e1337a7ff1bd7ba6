use Rattle.std.proofs.{Common.{arith, [], sym, ◌∙◌, append-nil}, lemmas.Grind.{common_steps}, lemmas.Bool.{true≢false}}
use Rattle.gs_game.specs.Games.{game_of}
use Rattle.gs_model.specs.Signals.{signal_at}
use Rattle.gs_tree.specs.Texts.{signal_text}
use Rattle.gs_tree.proofs.reading.is_text_of.Goals as goal

pub returns-in-None : goal.returns-in-None
returns-in-None c =
    let whole = signal_text c.args.valid.now.game.deck (signal_at (game_of c.args.valid.now.game) c.args.round c.args.signal) in
    (λ e. absurd (true≢false (sym e)), λ e. absurd (c.in-None.ensures [] (e ∙ sym (append-nil whole))))

pub returns-in-Some : goal.returns-in-Some
returns-in-Some c = grind (arith, common_steps)
