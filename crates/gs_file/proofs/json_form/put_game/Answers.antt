use Rattle.std.proofs.Common.{◌∙◌, List, ap, map}
use Rattle.serde_json.specs.{Data.{array, string}, View.{items_of}}
use Rattle.gs_file.specs.{JsonForm.{round_data, whole}, Views.{game_view}}
use Rattle.gs_file.proofs.GameMembers.{all_put, letters_small, on_ok}
use Rattle.gs_game.specs.{Games.{round_rules}, declared.game.Round.{Round}}
use Rattle.gs_file.proofs.json_form.put_game.Goals as goal

pub returns : goal.returns
returns c =
    let rounds = ap (λ (rs : List Round). array (items_of (map round_data (map round_rules rs)))) c.deref-2.ensures.value in
    on_ok c.put-7.result c.put-7.ensures.ok (λ last.
    all_put c.args.version (game_view c.args.game.now) _ _ _ _ _ _ _ _ _ _ _ _ _ _ _ _ _ c.requires
    c.in_ok-put.ensures.ok c.from.ensures c.in_ok-put_bonus.ensures c.deref.ensures.value
    c.in_ok-put-2.ensures.ok (c.from-2.ensures ∙ ap string c.in_ok-copies.ensures)
    c.in_ok-put-3.ensures.ok (c.in_ok-ranking.ensures ∙ ap string c.word_of.ensures)
    c.in_ok-put-4.ensures.ok (c.from-3.ensures ∙ ap string (c.in_ok-ranks.ensures ∙ c.ranks.ensures.letters))
    c.in_ok-put-5.ensures.ok (c.in_ok-rounds.ensures ∙ rounds)
    c.in_ok-put-6.ensures.ok (c.from-4.ensures ∙ ap string (c.in_ok-suits.ensures ∙ c.suits.ensures.letters))
    last (c.from-number.ensures ∙ ap whole c.number.ensures))

pub letters_text-requires-2 : goal.letters_text-requires-2
letters_text-requires-2 c = letters_small _ _ c.suits.ensures.letters c.suits.ensures.deck.suit_letters

pub letters_text-requires : goal.letters_text-requires
letters_text-requires c = letters_small _ _ c.ranks.ensures.letters c.ranks.ensures.deck.rank_letters
