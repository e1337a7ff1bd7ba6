-- The law for the games that files can tell.
use Rattle.gs_file.proofs.Dealt.{told_playable}
use Rattle.gs_file.specs.Reading.{file_rules}
use Rattle.gs_model.proofs.{Exchanged.{exchanged_one}, Ranges.{in_range}, Walked.{walked_one, walked_two}}
use Rattle.gs_model.specs.Frame.{frame_of}
use Rattle.gs_real.proofs.{Gaps.{frame_holds}, Moves.{told_moves}}
use Rattle.gs_real.specs.{Laws.{NoPlanGainsMore}, Numbers.{OrderedGroup}}

pub none_gains_more : {A P : Type 0} (G : OrderedGroup A P) → NoPlanGainsMore G
none_gains_more G version g x y value gap1 gap2 told v =
    let rules = file_rules g in
    let play = told_playable version g told in
    frame_holds (frame_of rules) (in_range rules play) (told_moves rules told.rounds) G (walked_one rules play) (walked_two rules play) (exchanged_one rules)
    x y gap1 gap2 v.first_gap v.second_gap
