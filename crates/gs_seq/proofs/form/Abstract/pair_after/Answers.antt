use Rattle.gs_game.specs.Games.{game_of}
use Rattle.gs_model.proofs.Ranges.{deals_weigh}
use Rattle.gs_seq.specs.Abstracts.{abstract_frame, lists_of}
use Rattle.gs_seq.proofs.Entries.{after_in_row}
use Rattle.gs_seq.proofs.form.Abstract.pair_after.Goals as goal

pub returns : goal.returns
returns c =
    let a = c.args.self.now in
    after_in_row (abstract_frame a) (lists_of a) c.args.round c.args.one c.args.after c.pairs.result c.first_after.result
    (deals_weigh (game_of a.lossless.now.signals.now.game.now.game)) c.pairs.ensures c.first_after.ensures
