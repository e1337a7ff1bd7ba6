-- What `duel` says is one.
use Rattle.std.proofs.{Common.{◌≡◌, ℕ, ◌<◌, ◌++◌, List, get_or, sym, ap, ◌∙◌, inl, inr, arith}, lemmas.List.{same_lists}}
use Rattle.gs_raw_commands.specs.{Commands.{Duels, SaysDuel, SaysHands}, Judging.{AreHandValues, hands_text, plan_in}}
use Rattle.gs_file.specs.{Reading.{file_rules}, declared.version.Version.{Version}}
use Rattle.gs_json.specs.FirstLine.{first_line}
use Rattle.gs_model.specs.{Frame.{signal_count, total_weight}, Payoff.{hand_weight}, Plans.{lift}}
use Rattle.gs_reply.specs.{Replies.{OfFile, Reply, Prints}, declared.refusals.Which.TheVariants.{First, Second}, VerdictText.{verdict_text}}
use Rattle.gs_strategy.specs.{Confirmed.{strategy_frame, raw_plan}, Laws.{IsStrategy}, Values.{FractionParts, Numbers, Strategy}}
use Rattle.gs_strategy.proofs.Verdicts.{verdicts_one, hand_one, scale_some}
use Rattle.gs_raw.proofs.Dealing.{hand_some}
use Rattle.gs_file.proofs.Dealt.{told_dealt}
use Rattle.gs_run.proofs.OneStrategy.{over_file}

hands_one : (v w : Version) (one two : Strategy) (hs gs : List FractionParts) → IsStrategy v one → IsStrategy w two → AreHandValues one two hs
    → AreHandValues one two gs
    → hs ≡ gs
hands_one v w one two hs gs is it h k =
    let f = strategy_frame one in
    let d = told_dealt v one.game is.written.game in
    let long = h.long in
    same_lists hs gs (h.long ∙ sym k.long) (λ s e l. (
    let inside : s < signal_count f 1 = omega arith in
    let a = h.each s e inside in
    let b = k.each s e inside in
    let some = scale_some (hand_weight f s) one.one.total two.two.total
    (hand_some (file_rules one.game) d.playable is.written.game.lawful s inside) is.first.plan.total_in.0 it.second.plan.total_in.0 in
    hand_one f (raw_plan one one.one) (raw_plan two two.two) s (get_or hs s e) (get_or gs s e) some a.reduced b.reduced a.value b.value))

duelled_one : (v w : Version) (one two : Strategy) (x y : Reply) → IsStrategy v one → IsStrategy w two → SaysHands one two x → SaysHands one two y → x ≡ y
duelled_one v w one two x y is it (inl (few, (n, a, (hs, h, e)))) (inl (low, (m, b, (gs, k, e')))) =
    let f = strategy_frame one in
    let some = scale_some (total_weight f) one.one.total two.two.total (told_dealt v one.game is.written.game).deals is.first.plan.total_in.0
    it.second.plan.total_in.0 in
    let same = verdicts_one f (lift f one.classes (plan_in one one.one)) (lift f two.classes (plan_in two two.two)) n m some
    a.fractions b.fractions a.verdict b.verdict in
    let hands = hands_one v w one two hs gs is it h k in
    e ∙ ap (λ (z : Numbers). Prints (verdict_text z ++ hands_text one.game.deck (file_rules one.game) hs)) same
    ∙ ap (λ (z : List FractionParts). Prints (verdict_text m ++ hands_text one.game.deck (file_rules one.game) z)) hands ∙ sym e'
duelled_one v w one two x y is it (inl (few, (n, a, r))) (inr (many, e')) = absurd (omega arith)
duelled_one v w one two x y is it (inr (many, e)) (inl (few, (n, a, r))) = absurd (omega arith)
duelled_one v w one two x y is it (inr (many, e)) (inr (more, e')) = e ∙ sym e'

duel_one : (v w : Version) (one two : Strategy) (x y : Reply) → IsStrategy v one → IsStrategy w two → SaysDuel one two x → SaysDuel one two y → x ≡ y
duel_one v w one two x y is it (inl h) (inl k) = h.1 ∙ sym k.1
duel_one v w one two x y is it (inl h) (inr k) = absurd (h.0 k.0)
duel_one v w one two x y is it (inr h) (inl k) = absurd (k.0 h.0)
duel_one v w one two x y is it (inr h) (inr k) = duelled_one v w one two x y is it h.1 k.1

pub duels_one : (bytes : List ℕ) (x y : Reply) → Duels bytes x → Duels bytes y → x ≡ y
duels_one bytes x y = over_file First (λ one. OfFile Second (SaysDuel one) (first_line bytes).1)
    (λ v one a b is. over_file Second (SaysDuel one) (λ w two c d it. duel_one v w one two c d is it) (first_line bytes).1 a b) (first_line bytes).0 x y
