-- What holds of a game and its classes holds of the same ones by another name.
use Rattle.std.proofs.Common.{◌≡◌, subst}
use Rattle.gs_filter.specs.Filter.{Filter}
use Rattle.gs_game.specs.declared.valid.ValidGame.{ValidGame}
use Rattle.gs_model.specs.{Classes.{ClassLists}, Frame.{Frame}}
use Rattle.gs_seq.specs.Games.{frame_in}

pub carried : (g h : ValidGame) (c d : Filter) (P : Frame → ClassLists → Type 0) → g ≡ h → c ≡ d → P (frame_in g) c.lists → P (frame_in h) d.lists
carried g h c d P same alike p = subst (λ (x : ValidGame). P (frame_in x) d.lists) same (subst (λ (x : Filter). P (frame_in g) x.lists) alike p)
