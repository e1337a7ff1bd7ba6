-- What a signal meets in the rivals on its board comes to what its deals come to.
use Rattle.std.proofs.Common.{◌≡◌, ◌+◌, ◌<◌, ◌≤◌, ◌∙◌, ℕ, ℤ, zero, suc, Bool, true, false, cond, eqb, nat_lt, List, ◌∷◌, map, refl, sym, ap, arith, sum_by}
use Rattle.std.proofs.lemmas.List.Elements.{All-map}
use Rattle.std.specs.{Prelude.{◌==◌, ◌&&◌, All, filter, slice_index}, List.{range_with_len}}
use Rattle.gs_model.specs.{Deals.{Deal, deals}, Game.{Game, round_count}, Signals.{signal_at}, ViewTree.{signal_outcome}}
use Rattle.gs_tree.specs.{Boards.{signals_on}, Plain.{IsPlain}, Walk.{deal_at, last_count, shows_same}}
use Rattle.gs_tree.proofs.{Pairs.{row_deals}, Weighed.{weight_is}}
use Rattle.gs_lossless.specs.{Amounts.{deal_part}, Boards.{PaysOnce, strengths_of}, Rivals.{IsRivalTable, is_other, paid_once, part_against, rival_of}}
use Rattle.gs_lossless.specs.{declared.parts.Part.{Part}, declared.rivals.Rival.{Rival}, declared.rivals.RivalTable.{RivalTable}}
use Rattle.gs_lossless.proofs.{Ranks.{told_once}, Seats.{one_board}, Weighed.{sum_by-passed}}

module _ (g : Game) (plain : IsPlain g) (once : PaysOnce g) (keys : List ℕ) (i : ℕ) (l : i < last_count g) where
  abbrev mine : ℕ
  mine = slice_index (strengths_of g) i

  -- a deal against a signal on the board is what is met in it as a rival
  deal_met : (k : ℕ) → k < last_count g → (deal_at g i k).weight ≡ 1 → deal_part keys true (deal_at g i k) ≡ part_against mine (rival_of g keys k)
  deal_met k m w = triple (slice_index keys k) (signal_outcome g (signal_at g (round_count g) i) (signal_at g (round_count g) k))
      (paid_once mine (slice_index (strengths_of g) k)) (deal_at g i k).weight (told_once g once i k l m) w
    where
      triple : (c : ℕ) (x y : ℤ) (v : ℕ) → x ≡ y → v ≡ 1 → (let p : Part = record { class = c; outcome = x; weight = v } in p)
          ≡ (let p : Part = record { class = c; outcome = y; weight = 1 } in p)
      triple c x y v p q = ap (λ (z : ℤ). let p : Part = record { class = c; outcome = z; weight = v } in p) p
          ∙ ap (λ (n : ℕ). let p : Part = record { class = c; outcome = y; weight = n } in p) q

  -- what is met in a run of signals
  abbrev met : ℕ → ℕ → List Part
  met a n = map (part_against mine) (filter (is_other i) (map (rival_of g keys) (filter (shows_same g i) (range_with_len a n))))

  run_met : (a n : ℕ) → a + n ≤ last_count g → map (deal_part keys true) (filter (λ (d : Deal). nat_lt 0 d.weight) (map (deal_at g i) (range_with_len a n)))
      ≡ met a n
  run_met a zero h = refl
  run_met a (suc n) h = go (shows_same g i a) (eqb a i) (weight_is g plain i a l (omega arith)) (run_met (a + 1) n (omega arith))
      ∙ sym (ap (map (part_against mine)) (spread (shows_same g i a)))
    where
      this : Rival
      this = rival_of g keys a

      dealt : List Deal
      dealt = filter (λ (d : Deal). nat_lt 0 d.weight) (map (deal_at g i) (range_with_len (a + 1) n))

      rest : List ℕ
      rest = filter (shows_same g i) (range_with_len (a + 1) n)

      others : List Rival
      others = filter (is_other i) (map (rival_of g keys) rest)

      spread : (b : Bool) → filter (is_other i) (map (rival_of g keys) (cond b (a ∷ rest) rest))
          ≡ cond b (cond (cond (eqb a i) false true) (this ∷ others) others) others
      spread true = refl
      spread false = refl

      go : (b t : Bool) → (deal_at g i a).weight ≡ cond (b && cond t false true) 1 0 → map (deal_part keys true) dealt ≡ map (part_against mine) others
          → map (deal_part keys true) (cond (nat_lt 0 (deal_at g i a).weight) (deal_at g i a ∷ dealt) dealt)
          ≡ map (part_against mine) (cond b (cond (cond t false true) (this ∷ others) others) others)
      go true true w r = ap (λ (x : ℕ). map (deal_part keys true) (cond (nat_lt 0 x) (deal_at g i a ∷ dealt) dealt)) w ∙ r
      go true false w r = ap (λ (x : ℕ). map (deal_part keys true) (cond (nat_lt 0 x) (deal_at g i a ∷ dealt) dealt)) w
          ∙ ap (λ (p : Part). p ∷ map (deal_part keys true) dealt) (deal_met a (omega arith) w)
          ∙ ap (λ (ps : List Part). part_against mine this ∷ ps) r
      go false t w r = ap (λ (x : ℕ). map (deal_part keys true) (cond (nat_lt 0 x) (deal_at g i a ∷ dealt) dealt)) w ∙ r

  -- each thing that is met has weight
  pub met_some : (rivals : List Rival) → All (λ (p : Part). 0 < p.weight) (map (part_against mine) rivals)
  met_some rivals = All-map (λ (p : Part). 0 < p.weight) (part_against mine) rivals (λ k d m. omega arith)

  -- any total over the rivals on the board is that over the deals
  pub table_met : (table : RivalTable) → IsRivalTable g keys table → shows_same g i table.first ≡ true → (h : Part → ℕ)
      → sum_by h (map (part_against mine) (filter (is_other i) table.rivals.items))
      ≡ sum_by h (map (deal_part keys true) (filter (λ (d : Deal). d.one == i) (deals g)))
  table_met table t same h =
      let rivals : List Rival = table.rivals.items in
      let all : List Rival = map (rival_of g keys) (signals_on g i) in
      let counted : Rival → ℕ = λ r. cond (is_other i r) (h (part_against mine r)) 0 in
      sum_by-passed h (part_against mine) (is_other i) rivals
      ∙ t.rivals counted ∙ ap (λ (s : List ℕ). sum_by counted (map (rival_of g keys) s)) (sym (one_board g i table.first same))
      ∙ sym (sum_by-passed h (part_against mine) (is_other i) all)
      ∙ ap (sum_by h) (sym (run_met 0 (last_count g) (omega arith)) ∙ ap (map (deal_part keys true)) (sym (row_deals g i l)))
