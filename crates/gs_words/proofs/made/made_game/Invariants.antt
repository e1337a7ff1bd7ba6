use Rattle.std.proofs.Common.{◌≡◌, ◌++◌, map, take, codes, string_bytes}
use Rattle.std.specs.Prelude.{flat_map}
use Rattle.gs_words.specs.Made.{ante_of, head_text, last, ranking_word, round_block, three_numbers}
use Rattle.gs_words.proofs.made.made_game.Given as goal

abbrev pub invariant-loop-round : goal.invariant-loop-round
invariant-loop-round l = string_bytes l.text ≡ head_text (last l.fn.ranks (codes "23456789TJQKA")) (take l.fn.suits (codes "shdc")) (ranking_word l.fn.kind)
    (ante_of l.fn.kind) ++ flat_map (round_block l.cap) (map three_numbers (take l.round-index l.round-items))
