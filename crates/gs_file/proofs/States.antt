-- What the reader of game files accepts is what states a game, both ways.
use Rattle.std.proofs.Common.{◌≡◌, ℕ, suc, ◌≤◌, ◌==◌, Bool, true, false, List, [], ◌∷◌, length, replicate, Option, Some, None, Ok, Err, ℤ, pos, codes, refl}
use Rattle.std.proofs.{Common.{sym, ap, ◌∙◌, subst, inl, inr}, lemmas.Bool.{eq-eqb, eqb-true}}
use Rattle.std.specs.{Prelude.{if◌then◌else◌}, Str.{bytes_eq, is_utf8}}
use Rattle.toml.specs.{Data.{Data, Members, get_member}, Parse.{parse_document}}
use Rattle.gs_card.specs.{DeckFaults.{fault_of as deck_fault_of}, Decks.{DeckValue, deck_of_texts}, declared.faults.DeckFault.{DeckFault}}
use Rattle.gs_game.specs.Refusals.{Refusal}
use Rattle.gs_model.specs.{Betting.{Bet}, Game.{Round as Rules, Ranking, High, Pair, Three}, Outcome.{categories}}
use Rattle.gs_file.specs.{Faults.{range, deck, not_text, not_toml, game}, JsonForm.{ranking_text}, Keys.{key_in, top}, Reading.{values_at}}
use Rattle.gs_file.specs.Reading.{FileGame, Play, Tree_text, Limit_of, Round, Stated, Top, TopValues, bonus_at, counted, deck_at, deck_made, game_at, parsed_at}
use Rattle.gs_file.specs.Reading.{ranking_at, read_at, round_table_at, round_built, round_within, stated_fields_at, utf8_text, typed_at, unless_refused}
use Rattle.gs_file.specs.States.{FileStates, Has, IsNumber, IsRound, OneByOne, StatesBetting, StatesBonus, StatesCopies, StatesDeck, StatesGame, StatesRound}
use Rattle.gs_file.specs.{Tables.{each, array_items, text, within}, declared.fault.Key.{Key}, declared.form.Form.TheVariants.{File}}
use Rattle.gs_file.specs.declared.fault.Key.TheVariants as key
use Rattle.gs_file.proofs.{RoundCounts.{counted_is}, StatedRounds.{round_made_ok, round_ok, same_bytes}}
use Rattle.gs_file.proofs.Stating.{IsTable, IsWhole, after, passing, between, each_is, each_ok, found_ok, never, same_ok, through, within_is, within_ok}
use Rattle.gs_file.proofs.StatedRounds.{PlayHas, PlayIn, PlayMade, RoundHas, RoundIn, RoundMade, round_in_is, round_in_ok, round_is, round_made_is}
use Rattle.gs_file.proofs.StatedTop.{BonusTyped, CopiesTyped, VersionHas, top_is, top_ok, typed_is, typed_ok}
use Rattle.gs_game.proofs.Rules.{kept, not_refused}

none_some : {A : Type 0} (x : A) → None ≡ Some x → ⊥
none_some x e = cc

one_length : {A B : Type 0} (R : A → B → Type 0) (xs : List A) (ys : List B) → OneByOne R xs ys → length xs ≡ length ys
one_length R [] [] h = refl
one_length R [] (y ∷ ys) h = absurd h
one_length R (x ∷ xs) [] h = absurd h
one_length R (x ∷ xs) (y ∷ ys) h = ap suc (one_length R xs ys h.1)

text_ok : (bytes text : List ℕ) → utf8_text bytes ≡ Ok text → (is_utf8 bytes ≡ true) × (bytes ≡ text)
text_ok bytes text e = by (is_utf8 bytes) e
  where
    by : (b : Bool) → (if b then Ok bytes else Err not_text) ≡ Ok text → (b ≡ true) × (bytes ≡ text)
    by true e = (refl, same_ok bytes text e)
    by false e = absurd (never not_text text e)

-- ---- ranges

abbrev IsIn : ℕ → ℕ → ℕ → ℤ → Type 0
IsIn low high n z = (z ≡ pos n) × (low ≤ n) × (n ≤ high)

abbrev BonusIn : Ranking → List ℕ → Option (List ℤ) → Type 0
BonusIn r bonus None = bonus ≡ replicate (categories r) 1
BonusIn r bonus (Some zs) = (length bonus ≡ categories r) × OneByOne (IsIn 1 9) bonus zs

-- a round of the rules stands in a table
abbrev RoundRead : Round ℕ → Members → Type 0
RoundRead w table = (r : Round ℤ) × RoundIn w r × RoundHas r table

record StatedHas (s : Stated) (t : Top) : Type 0 where
  ranking : t.ranking ≡ ranking_text s.ranking
  bonus : BonusIn s.ranking s.bonus t.bonus
  ante : IsIn 1 4096 s.ante t.ante
  rounds : OneByOne RoundRead s.rounds t.rounds

ranking_ok : (word : List ℕ) (r : Ranking) → ranking_at word ≡ Ok r → word ≡ ranking_text r
ranking_ok word r e = by (bytes_eq word (codes "high")) (bytes_eq word (codes "pair")) (bytes_eq word (codes "three")) refl refl refl e
  where
    by : (a b c : Bool) → bytes_eq word (codes "high") ≡ a → bytes_eq word (codes "pair") ≡ b → bytes_eq word (codes "three") ≡ c
        → (if a then Ok High else if b then Ok Pair else if c then Ok Three else Err (range (top key.Ranking))) ≡ Ok r → word ≡ ranking_text r
    by true b c ea eb ec e = subst (λ q. word ≡ ranking_text q) (same_ok High r e) (same_bytes word (codes "high") ea)
    by false true c ea eb ec e = subst (λ q. word ≡ ranking_text q) (same_ok Pair r e) (same_bytes word (codes "pair") eb)
    by false false true ea eb ec e = subst (λ q. word ≡ ranking_text q) (same_ok Three r e) (same_bytes word (codes "three") ec)
    by false false false ea eb ec e = absurd (never (range (top key.Ranking)) r e)

-- the word of a ranking is read as the ranking
pub ranking_is : (r : Ranking) → ranking_at (ranking_text r) ≡ Ok r
ranking_is High = refl
ranking_is Pair = refl
ranking_is Three = refl

bonus_in_ok : (r : Ranking) (o : Option (List ℤ)) (bonus : List ℕ) → bonus_at r o ≡ Ok bonus → BonusIn r bonus o
unfolding bonus_at
bonus_in_ok r None bonus e = sym (same_ok (replicate (categories r) 1) bonus e)
bonus_in_ok r (Some zs) bonus e = by (length zs == categories r) refl e
  where
    by : (b : Bool) → (length zs == categories r) ≡ b → (if b then each (λ n. within (top key.Bonus) 1 9) 1 zs else Err (range (top key.Bonus))) ≡ Ok bonus
        → BonusIn r bonus (Some zs)
    by false same e = absurd (never (range (top key.Bonus)) bonus e)
    by true same e =
        let all = each_ok (λ n. within (top key.Bonus) 1 9) (IsIn 1 9) (λ n z m. within_ok (top key.Bonus) 1 9 z m) 1 zs bonus e in
        (one_length (IsIn 1 9) bonus zs all ∙ eqb-true (length zs) (categories r) same, all)

bonus_in_is : (r : Ranking) (o : Option (List ℤ)) (bonus : List ℕ) → BonusIn r bonus o → bonus_at r o ≡ Ok bonus
unfolding bonus_at
bonus_in_is r None bonus h = ap (λ (l : List ℕ). Ok l) (sym h)
bonus_in_is r (Some zs) bonus (long, all) =
    let same = eq-eqb (length zs) (categories r) (sym (one_length (IsIn 1 9) bonus zs all) ∙ long) in
    let read = each_is (λ n. within (top key.Bonus) 1 9) (IsIn 1 9) (λ n z m h. in_is n z m h) 1 zs bonus all in
    rw same read
  where
    in_is : (n : ℕ) (z : ℤ) (m : ℕ) → IsIn 1 9 m z → within (top key.Bonus) 1 9 z ≡ Ok m
    in_is n z m (same, low, high) = rw same (within_is (top key.Bonus) 1 9 m low high)

stated_ok : (t : Top) (s : Stated) → stated_fields_at File t ≡ Ok s → StatedHas s t
unfolding stated_fields_at
stated_ok t s e =
    passing (counted t.rounds) _ s e (λ u eu e1.
    passing (each (round_table_at File) 1 t.rounds) _ s e1 (λ rs er e2.
    passing (ranking_at t.ranking) _ s e2 (λ ranking ek e3.
    passing (bonus_at ranking t.bonus) _ s e3 (λ bonus eb e4.
    passing (within (top key.Ante) 1 4096 t.ante) _ s e4 (λ ante ea e5.
    passing (each round_within 1 rs) _ s e5 (λ ws ew e6.
    let had = each_ok (round_table_at File) RoundHas (λ n x y. round_ok n x y) 1 t.rounds rs er in
    let ranged = each_ok round_within RoundIn (λ n x y. round_in_ok n x y) 1 rs ws ew in
    subst (λ w. StatedHas w t) (same_ok _ s e6) (record {
      ranking = ranking_ok t.ranking ranking ek;
      bonus = bonus_in_ok ranking t.bonus bonus eb;
      ante = within_ok (top key.Ante) 1 4096 t.ante ante ea;
      rounds = through RoundIn RoundHas RoundRead (λ w r table i h. (r, i, h)) ws rs t.rounds ranged had;
    })))))))

stated_is : (t : Top) (s : Stated) → counted t.rounds ≡ Ok tt → StatedHas s t → stated_fields_at File t ≡ Ok s
unfolding stated_fields_at
stated_is t s few h =
    let (rs, ranged, had) = between RoundIn RoundHas RoundRead (λ w table g. g) s.rounds t.rounds h.rounds in
    let (is, low, high) = h.ante in
    rw (
      few,
      each_is (round_table_at File) RoundHas (λ n x y g. round_is n x y g) 1 t.rounds rs had,
      h.ranking,
      ranking_is s.ranking,
      bonus_in_is s.ranking t.bonus s.bonus h.bonus,
      is,
      within_is (top key.Ante) 1 4096 s.ante low high,
      each_is round_within RoundIn (λ n x y g. round_in_is n x y g) 1 rs s.rounds ranged,
    ) refl

-- ---- the game

pub deck_ok : (d : DeckValue) (o : Option DeckFault) (e : DeckValue) → deck_made d o ≡ Ok e → (o ≡ None) × (d ≡ e)
deck_ok d None e h = (refl, same_ok d e h)
deck_ok d (Some why) e h = absurd (never (deck why) e h)

pub lawful_ok : (g : FileGame) (o : Option Refusal) (h : FileGame) → unless_refused g o ≡ Ok h → (o ≡ None) × (g ≡ h)
lawful_ok g None h e = (refl, same_ok g h e)
lawful_ok g (Some why) h e = absurd (never (game why) h e)

-- what stands at the top says how the bonuses are stated
bonus_states : (r : Ranking) (bonus : List ℕ) (numbers : Option (List ℤ)) (d : Option Data) (table : Members) → VersionHas d table → BonusTyped numbers d
    → BonusIn r bonus numbers → StatesBonus r bonus table
bonus_states r bonus numbers None table (inl (o, h, e)) t i = let none : numbers ≡ None = t in inl (o, h, subst (BonusIn r bonus) none i)
bonus_states r bonus numbers None table (inr (d, o, h, m, e)) t i = absurd (none_some d e)
bonus_states r bonus numbers (Some d) table (inl (o, h, e)) t i = absurd (none_some d (sym e))
bonus_states r bonus numbers (Some d) table (inr (b, o, h, m, e)) (zs, same, (items, found, whole)) i =
    let (long, all) = subst (BonusIn r bonus) same i in
    inr (
      o,
      h,
      (
        d,
        m ∙ sym e,
        (
          items,
          found,
          through (IsIn 1 9) IsWhole (IsNumber 1 9) (λ n z x i w. (w ∙ ap Some i.0, i.1, i.2)) bonus zs
              (array_items items) all whole,
        ),
      ),
      long,
    )

bonus_stages : (r : Ranking) (bonus : List ℕ) (table : Members) → StatesBonus r bonus table
    → (d : Option Data) × (numbers : Option (List ℤ)) × VersionHas d table × BonusTyped numbers d × BonusIn r bonus numbers
bonus_stages r bonus table (inl (o, h, ones)) = (None, None, inl (o, h, refl), refl, ones)
bonus_stages r bonus table (inr (o, h, (d, m, (items, found, all)), long)) =
    let (zs, i, w) = between (IsIn 1 9) IsWhole (IsNumber 1 9) (λ n x g. (pos n, (refl, g.1, g.2), g.0)) bonus (array_items items) all in
    (Some d, Some zs, inr (d, o, h, m, refl), (zs, refl, (items, found, w)), (long, i))

copies_states : (copies : List ℕ) (d : Option Data) (table : Members) → get_member (key_in File key.Copies) table ≡ d → CopiesTyped copies d
    → StatesCopies copies table
copies_states copies None table m t = inl (m, t)
copies_states copies (Some d) table m t = inr (d, m, t)

copies_stages : (copies : List ℕ) (table : Members) → StatesCopies copies table → CopiesTyped copies (get_member (key_in File key.Copies) table)
copies_stages copies table (inl (m, none)) = rw m none
copies_stages copies table (inr (d, m, t)) = rw m t

-- a number in its range stands there as a whole number
number_states : (low high n : ℕ) (k : Key) (table : Members) (z : ℤ) → IsIn low high n z → Has table k (IsWhole z) → Has table k (IsNumber low high n)
number_states low high n k table z (same, l, h) (d, m, w) = (d, m, (w ∙ ap Some same, l, h))

betting_states : (t : Bet) (w : Play ℕ) (r : Play ℤ) (table : Members) → PlayMade t w → PlayIn w r → PlayHas r table → StatesBetting t table
betting_states t (Tree_text text) r table made ranged has = let (o, h) = subst (λ p. PlayHas p table) ranged has in inl (text, o, h, made)
betting_states t (Limit_of bet cap) r table made (same, lb, hb, lc, hc) has =
    let (o, b, c) = subst (λ p. PlayHas p table) same has in
    inr (bet, cap, o, number_states 1 2048 bet key.Bet table (pos bet) (refl, lb, hb) b, number_states 0 8 cap key.Cap table (pos cap) (refl, lc, hc) c, made)

round_states : (b : Rules) (w : Round ℕ) (table : Members) → RoundMade b w → RoundRead w table → StatesRound b table
round_states b w table made (r, ranged, has) = record {
  private = subst (λ n. Has table key.Private (IsNumber 0 2 n)) (sym made.private)
      (number_states 0 2 w.private key.Private table r.private ranged.private has.private);
  public = subst (λ n. Has table key.Public (IsNumber 0 3 n)) (sym made.public)
      (number_states 0 3 w.public key.Public table r.public ranged.public has.public);
  betting = betting_states b.tree w.play r.play table made.tree ranged.play has.play;
}

betting_stages : (t : Bet) (table : Members) → StatesBetting t table → (w : Play ℕ) × (r : Play ℤ) × PlayMade t w × PlayIn w r × PlayHas r table
betting_stages t table (inl (words, o, h, made)) = (Tree_text words, Tree_text words, made, refl, (o, h))
betting_stages t table (inr (bet, most, o, (b, mb, nb), (c, mc, nc), made)) =
    (Limit_of bet most, Limit_of (pos bet) (pos most), made, (refl, nb.1, nb.2, nc.1, nc.2), (o, (b, mb, nb.0), (c, mc, nc.0)))

round_stages : (b : Rules) (table : Members) → StatesRound b table → (w : Round ℕ) × RoundMade b w × RoundRead w table
round_stages b table h =
    let (w, r, made, ranged, has) = betting_stages b.tree table h.betting in
    let (p, mp, np) = h.private in
    let (q, mq, nq) = h.public in (
      record { private = b.private; public = b.public; play = w },
      record { private = refl; public = refl; tree = made },
      (
        record { private = pos b.private; public = pos b.public; play = r },
        record { private = (refl, np.1, np.2); public = (refl, nq.1, nq.2); play = ranged },
        record { private = (p, mp, np.0); public = (q, mq, nq.0); play = has },
      ),
    )

-- what is accepted is stated
table_ok : (table : Members) (g : FileGame) → game_at File table ≡ Ok g → StatesGame g table
unfolding game_at
table_ok table g e =
    passing (values_at File table) _ g e (λ v ev e1.
    passing (typed_at v) _ g e1 (λ t et e2.
    passing (stated_fields_at File t) _ g e2 (λ s es e3.
    passing (deck_at t.ranks t.suits t.copies) _ g e3 (λ cards ec e4.
    passing (each round_built 1 s.rounds) _ g e4 (λ bs eb e5.
    let (no_rule, same) = lawful_ok (record { deck = cards; ranking = s.ranking; bonus = s.bonus; ante = s.ante; rounds = bs }) _ g e5 in
    let (no_fault, same_deck) = deck_ok (deck_of_texts t.ranks t.suits t.copies) (deck_fault_of t.ranks t.suits t.copies) cards ec in
    let hv = top_ok table v ev in
    let ht = typed_ok v t et in
    let hs = stated_ok t s es in
    let (items, found, tables) = ht.rounds in
    let made = each_ok round_built RoundMade (λ n w b. round_made_ok n w b) 1 s.rounds bs eb in
    let rounds = through RoundMade RoundRead StatesRound (λ b w x m r. round_states b w x m r) bs s.rounds t.rounds made hs.rounds in
    let (is, low, high) = hs.ante in
    subst (λ h. StatesGame h table) same (record {
      deck = subst (λ d. StatesDeck d table) same_deck (record {
        ranks = (v.ranks, hv.ranks, ht.ranks);
        suits = (v.suits, hv.suits, ht.suits);
        copies = t.copies;
        copies_are = copies_states t.copies v.copies table hv.copies ht.copies;
        good = no_fault;
        made = refl;
      });
      ranking = (v.ranking, hv.ranking, ht.ranking ∙ ap Some hs.ranking);
      bonus = bonus_states s.ranking s.bonus t.bonus v.bonus table hv.version ht.bonus hs.bonus;
      ante = (v.ante, hv.ante, (ht.ante ∙ ap Some is, low, high));
      rounds = (
        v.rounds,
        hv.rounds,
        (
          items,
          found,
          through StatesRound IsTable IsRound (λ b x d h i. (x, i, h)) bs t.rounds
              (array_items items) rounds tables,
        ),
      );
      lawful = kept _ no_rule;
    }))))))

-- what is stated is accepted
table_is : (table : Members) (g : FileGame) → StatesGame g table → game_at File table ≡ Ok g
unfolding game_at
table_is table g h =
    let (ranks, mr, ir) = h.deck.ranks in
    let (suits, ms, is) = h.deck.suits in
    let (ranking, mk, ik) = h.ranking in
    let (ante, ma, ia) = h.ante in
    let (rounds, mn, (items, found, all)) = h.rounds in
    let (bonus, numbers, version, typed, ranged) = bonus_stages g.ranking g.bonus table h.bonus in
    let (ts, states, tables) = between StatesRound IsTable IsRound (λ b d i. (i.0, i.2, i.1)) g.rounds (array_items items) all in
    let (ws, made, reads) = between RoundMade RoundRead StatesRound (λ b x i. round_stages b x i) g.rounds ts states in
    let v : TopValues = record {
      ranks = ranks;
      suits = suits;
      copies = get_member (key_in File key.Copies) table;
      ranking = ranking;
      bonus = bonus;
      ante =
          ante;
      rounds = rounds;
    } in
    let t : Top = record {
      ranks = g.deck.ranks;
      suits = g.deck.suits;
      copies = h.deck.copies;
      ranking = ranking_text g.ranking;
      bonus = numbers;
      ante =
          pos g.ante;
      rounds = ts;
    } in
    let s : Stated = record { ranking = g.ranking; bonus = g.bonus; ante = g.ante; rounds = ws } in
    let long : length ts ≡ length g.rounds = sym (one_length StatesRound g.rounds ts states) in
    let values = top_is table v (record { version = version; ranks = mr; suits = ms; copies = refl; ranking = mk; ante = ma; rounds = mn }) in
    let types = typed_is v t (record {
      ranks = ir;
      suits = is;
      copies = copies_stages h.deck.copies table h.deck.copies_are;
      ranking = ik;
      bonus = typed;
      ante = ia.0;
      rounds = (items, found, tables);
    }) in
    let stated = stated_is t s (counted_is g ts (not_refused _ h.lawful) long)
    (record { ranking = refl; bonus = ranged; ante = (refl, ia.1, ia.2); rounds = reads }) in
    let built = each_is round_built RoundMade (λ n w b i. round_made_is n w b i) 1 ws g.rounds made in
    let cards : deck_at g.deck.ranks g.deck.suits h.deck.copies ≡ Ok g.deck = rw h.deck.good (ap (λ (d : DeckValue). Ok d) (sym h.deck.made)) in
    rw (values, types, stated, cards, built, not_refused _ h.lawful) refl

-- the bytes of a file
pub states_ok : (bytes : List ℕ) (g : FileGame) → read_at bytes ≡ Ok g → FileStates bytes g
unfolding read_at
states_ok bytes g e =
    let (text, et, e1) = after (utf8_text bytes) _ g e in
    let (table, ep, e2) = after (parsed_at text) _ g e1 in
    let (is_text, same) = text_ok bytes text et in
    (is_text, (table, ap parse_document same ∙ found_ok (parse_document text) not_toml table ep, table_ok table g e2))

pub states_is : (bytes : List ℕ) (g : FileGame) → FileStates bytes g → read_at bytes ≡ Ok g
unfolding read_at
states_is bytes g (is_text, (table, parsed, states)) = rw (is_text, parsed) (table_is table g states)
