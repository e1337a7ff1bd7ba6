-- What `play` says of a game over classes.
use Rattle.std.specs.Prelude.{ℕ, List}
use Rattle.gs_file.specs.Reading.{FileGame}
use Rattle.gs_model.specs.{Classes.{ClassLists}, Play.{IsFictitiousPlay}}
use Rattle.gs_reply.specs.Replies.{Reply, Prints, Refuses}
use Rattle.gs_seq.specs.{Plans.{class_plan}, declared.plan.Plan.{Plan}}
use Rattle.gs_strategy.specs.Values.{file_frame}
use Rattle.gs_game_commands.specs.Texts.{IsSettledText}

-- the text is that of the strategy of both players' plans after `turns` turns of fictitious play
pub record IsPlayed (turns : ℕ) (g : FileGame) (lists : ClassLists) (text : List ℕ) : Type 0 where
  pub one : Plan
  pub two : Plan
  pub played : IsFictitiousPlay (file_frame g) lists turns (class_plan (file_frame g) lists one) (class_plan (file_frame g) lists two)
  pub told : IsSettledText g lists one two text

-- what `play` says of a game over classes: the strategy after `turns` turns; no game is refused
abbrev pub Plays : ℕ → FileGame → ClassLists → Reply → Type 0
Plays turns g lists (Prints text) = IsPlayed turns g lists text
Plays turns g lists (Refuses why) = ⊥
