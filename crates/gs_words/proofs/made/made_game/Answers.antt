use Rattle.std.proofs.{Common.{◌≡◌, ◌∙◌, ◌++◌, ◌+◌, ◌<◌, ℕ, List, get_or, length, map, take, ap, sym, rules, arith}, lemmas.Grind.{common_steps}}
use Rattle.std.proofs.lemmas.List.{flat_map_more, map_more}
use Rattle.std.specs.Prelude.{flat_map}
use Rattle.gs_words.specs.{Made.{round_block, three_numbers}, declared.kind.Round.{Round}}
use Rattle.gs_words.proofs.made.made_game.Goals as goal

-- the lines of one round more
one_more : (head : List ℕ) (cap : ℕ) (rounds : List Round) (i : ℕ) (d : Round) (old new : List ℕ) → i < length rounds
    → old ≡ head ++ flat_map (round_block cap) (map three_numbers (take i rounds)) → new ≡ old ++ round_block cap (three_numbers (get_or rounds i d))
    → new ≡ head ++ flat_map (round_block cap) (map three_numbers (take (i + 1) rounds))
one_more head cap rounds i d old new lt before added =
    let block = round_block cap in
    let round = three_numbers (get_or rounds i d) in
    added
    ∙ (ap (λ (text : List ℕ). text ++ block round) before
    ∙ (flat_map_more block head (map three_numbers (take i rounds)) round
    ∙ ap (λ (rs : List (ℕ × ℕ × ℕ)). head ++ flat_map block rs) (sym (map_more three_numbers rounds i d lt))))

pub loop-round-preserved : goal.loop-round-preserved
loop-round-preserved c =
    one_more _ c.args.cap c.rounds-round-items.result.now c.loop-round.round-index _ _ _ c.loop-round-test.true c.loop-round.invariant
    c.in_ok-push_round.ensures

pub loop-round-init : goal.loop-round-init
loop-round-init c = search rules

pub returns : goal.returns
returns c = grind (arith, common_steps)
