-- The cards of a signal, kept behind those of the one before.
use Rattle.std.proofs.{Common.{◌≡◌, ◌+◌, ◌*◌, ◌<◌, ◌≤◌, ◌∙◌, ℕ, List, [], length, take, drop, get_or, ap, arith}, lemmas.List.{length-map}}
use Rattle.std.specs.Prelude.{flat_map}
use Rattle.gs_model.specs.{Deals.{path_weight}, Game.{Game, round_count}, Signals.{Signal, own_cards, public_cards, signal_at, signals}}
use Rattle.gs_tree.specs.{Kept.{AreHands, AreKeptCards}, Walk.{last_count}, declared.kept.Hands.{Hands}}
use Rattle.gs_tree.proofs.Rows.{part_in, part_is, parts_length}

module _ (f : Signal → List ℕ) (each : ℕ) (ss : List Signal) (kept : List ℕ) (is : kept ≡ flat_map f ss) (sized : (i : ℕ) → i < length ss
    → length (f (get_or ss i [])) ≡ each) where
  -- as many cards as there are signals, each with as many
  pub kept_long : length kept ≡ length ss * each
  kept_long = ap (λ (x : List ℕ). length x) is ∙ parts_length f each ss [] sized

  pub kept_room : (i : ℕ) → i < length ss → i * each + each ≤ length kept
  kept_room i l = omega (arith, kept_long, part_in i (length ss) each l)

  -- the cards of one signal
  pub kept_part : (i : ℕ) → i < length ss → take each (drop (i * each) kept) ≡ f (get_or ss i [])
  kept_part i l = ap (λ (x : List ℕ). take each (drop (i * each) x)) is ∙ part_is f each ss [] sized i l

module _ (g : Game) (round : ℕ) (paths owns publics : List ℕ) (own public : ℕ) (h : AreKeptCards g round paths owns publics own public) where
  -- there is a way for each signal
  pub paths_long : length paths ≡ length (signals g round)
  paths_long = ap (λ (x : List ℕ). length x) h.weighed ∙ length-map (signals g round) (path_weight g.copies)

  -- its own cards
  pub own_room : (i : ℕ) → i < length (signals g round) → i * own + own ≤ length owns
  own_room = kept_room own_cards own (signals g round) owns h.owned h.own_each

  pub own_part : (i : ℕ) → i < length (signals g round) → take own (drop (i * own) owns) ≡ own_cards (signal_at g round i)
  own_part = kept_part own_cards own (signals g round) owns h.owned h.own_each

  -- its public cards
  pub public_room : (i : ℕ) → i < length (signals g round) → i * public + public ≤ length publics
  public_room = kept_room public_cards public (signals g round) publics h.shown h.public_each

  pub public_part : (i : ℕ) → i < length (signals g round) → take public (drop (i * public) publics) ≡ public_cards (signal_at g round i)
  public_part = kept_part public_cards public (signals g round) publics h.shown h.public_each

-- the number of ways is that of the last-round signals
pub hands_counted : (g : Game) (h : Hands) (count : ℕ) → AreHands g (round_count g) h → count ≡ length h.paths → count ≡ last_count g
hands_counted g h count are long = long ∙ paths_long g (round_count g) h.paths h.owns.items h.publics.items h.own h.public are
