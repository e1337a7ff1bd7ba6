-- Reading an act within an act, and going on from a cut byte by byte, are the same.
use Rattle.std.proofs.Common.{◌≡◌, ℕ, zero, suc, ◌+◌, ◌-◌, ◌*◌, ◌<◌, ◌≤◌, List, [], ◌∷◌, length, Result, Ok, Err, refl, sym, ap, subst, ◌∙◌, inl, inr, Bool}
use Rattle.std.proofs.Common.{true, false, cond, eqb, ltb, leb, ◌&&◌, ◌||◌, arith}
use Rattle.std.proofs.lemmas.Bool.{cases_Bool, and_parts, and_right, leb-true, lt-ltb, le-ltb, ne_eqb}
use Rattle.gs_bet.proofs.{ReadingLaws.{more_room}, Steps.{after, is_inside, read}}
use Rattle.gs_bet.specs.{declared.fault.Mistake.{Mistake}, declared.fault.Mistake.TheVariants.{TooDeep, Syntax}, MoveLists.{count, has_letter, push_move}}
use Rattle.gs_bet.specs.{Grammar.{is_letter}, Cuts.{Open, Cut, at_tree, at_bracket, at_letter, at_chips, at_next, whole}, Reading.{outer_at, at_end, all_of}}
use Rattle.gs_bet.specs.Reading.{goes_on, Read, ◌>>=◌, player_digit, expect_at, letter_at, chips_at, move_at, more_at, moves_at, inner_at, act_with, act_at}
use Rattle.gs_model.specs.Betting.{Bet, Moves, act, none, move}

-- what reading a part leads to, where the whole text is read from a cut
abbrev pub LeadsTo : {A : Type 0} → (A → Cut) → Result Bet (Mistake × List ℕ) → Read A → Type 0
LeadsTo next total (Ok x) = total ≡ read (next x.0) x.1
LeadsTo next total (Err e) = total ≡ Err e

-- a part, and then what follows it
pub leads_on : {A B : Type 0} (first : A → Cut) (next : B → Cut) (total : Result Bet (Mistake × List ℕ)) (r : Read A) (f : A × List ℕ → Read B)
    → LeadsTo first total r
    → ((x : A × List ℕ) → r ≡ Ok x → LeadsTo next (read (first x.0) x.1) (f x)) → LeadsTo next total (r >>= f)
leads_on first next total (Ok x) f h g = subst (λ (t : Result Bet (Mistake × List ℕ)). LeadsTo next t (f x)) (sym h) (g x refl)
leads_on first next total (Err e) f h g = h

lead_bracket : (p : ℕ) (outer : List Open) (bytes : List ℕ) → LeadsTo (λ _. at_letter p none outer) (read (at_bracket p outer) bytes) (expect_at 91 bytes)
unfolding expect_at
lead_bracket p outer [] = refl
lead_bracket p outer (b ∷ bytes) = elim (cases_Bool (eqb b 91)) [ inl e ↦ rw e refl | inr e ↦ rw e refl ]

lead_letter : (p : ℕ) (ms : Moves) (outer : List Open) (bytes : List ℕ)
    → LeadsTo (λ l. at_chips record { player = p; moves = ms; letter = l; chips = 0 } outer) (read (at_letter p ms outer) bytes) (letter_at ms bytes)
unfolding letter_at
lead_letter p ms outer [] = refl
lead_letter p ms outer (b ∷ bytes) =
    elim (cases_Bool (is_letter b)) [
      | inl e ↦ elim (cases_Bool (has_letter ms b)) [ inl f ↦ rw (e, f) refl | inr f ↦ rw (e, f) refl ]
      | inr e ↦ rw e refl
    ]

-- the digits end here
abbrev pub Stops : ℕ → List ℕ → Type 0
Stops n [] = Unit {0}
Stops n (b ∷ bytes) = goes_on n b ≡ false

-- no digit is a colon
goes_no_colon : (n b : ℕ) → goes_on n b ≡ true → eqb b 58 ≡ false
goes_no_colon n b h =
    let digit = and_parts (leb 48 b && leb b 57) _ h in
    let top : b ≤ 57 = leb-true b 57 (and_parts (leb 48 b) (leb b 57) digit.0).1 in
    ne_eqb b 58 (λ e. omega arith)

lead_chips : (p : ℕ) (ms : Moves) (l n : ℕ) (outer : List Open) (bytes : List ℕ)
    → read (at_chips record { player = p; moves = ms; letter = l; chips = n } outer) bytes
    ≡ read (at_chips record { player = p; moves = ms; letter = l; chips = (chips_at n bytes).0 } outer) (chips_at n bytes).1
unfolding chips_at
lead_chips p ms l n outer [] = refl
lead_chips p ms l n outer (b ∷ bytes) =
    elim (cases_Bool (goes_on n b)) [
      | inl e ↦
          let so : chips_at n (b ∷ bytes) ≡ chips_at (n * 10 + (b - 48)) bytes = rw e refl in
          let no_colon : eqb b 58 ≡ false = goes_no_colon n b e in
          let one : read (at_chips record { player = p; moves = ms; letter = l; chips = n } outer) (b ∷ bytes)
          ≡ read (at_chips record { player = p; moves = ms; letter = l; chips = n * 10 + (b - 48) } outer) bytes = rw (no_colon, e) refl in
          rw so (one ∙ lead_chips p ms l (n * 10 + (b - 48)) outer bytes)
      | inr e ↦
          let so : chips_at n (b ∷ bytes) ≡ (n, b ∷ bytes) = rw e refl in
          rw so refl
    ]

chips_stop : (n : ℕ) (bytes : List ℕ) → Stops (chips_at n bytes).0 (chips_at n bytes).1
unfolding chips_at
chips_stop n [] = tt
chips_stop n (b ∷ bytes) =
    elim (cases_Bool (goes_on n b)) [
      | inl e ↦ let so : chips_at n (b ∷ bytes) ≡ chips_at (n * 10 + (b - 48)) bytes = rw e refl in
          subst (λ (x : ℕ × List ℕ). Stops x.0 x.1) (sym so) (chips_stop (n * 10 + (b - 48)) bytes)
      | inr e ↦ let so : chips_at n (b ∷ bytes) ≡ (n, b ∷ bytes) = rw e refl in subst (λ (x : ℕ × List ℕ). Stops x.0 x.1) (sym so) e
    ]

lead_colon : (o : Open) (outer : List Open) (bytes : List ℕ) → Stops o.chips bytes
    → LeadsTo (λ _. at_tree (o ∷ outer)) (read (at_chips o outer) bytes) (expect_at 58 bytes)
unfolding expect_at
lead_colon o outer [] h = refl
lead_colon o outer (b ∷ bytes) h = elim (cases_Bool (eqb b 58)) [ inl e ↦ rw e refl | inr e ↦ rw (e, h) refl ]

-- no end stands in front
abbrev pub NoEnd : List Open → List ℕ → Type 0
NoEnd outer [] = Unit {0}
NoEnd outer (b ∷ bytes) = (eqb b 61 ≡ false) × ((eqb b 33 && is_inside outer) ≡ false)

lead_player : (left : ℕ) (outer : List Open) (bytes : List ℕ) → left + length outer ≡ 16 → NoEnd outer bytes
    → LeadsTo (λ p. at_bracket p outer) (read (at_tree outer) bytes) (player_digit left bytes)
unfolding player_digit
lead_player left outer [] room h = refl
lead_player zero outer (b ∷ bytes) room h =
    let full : ltb (length outer) 16 ≡ false = le-ltb _ _ (omega arith) in
    elim (cases_Bool (eqb b 49 || eqb b 50)) [ inl e ↦ rw (h.0, h.1, e, full) refl | inr e ↦ rw (h.0, h.1, e) refl ]
lead_player (suc left) outer (b ∷ bytes) room h =
    let free : ltb (length outer) 16 ≡ true = lt-ltb _ _ (omega arith) in
    let some : eqb (suc left) 0 ≡ false = ne_eqb _ _ (λ z. omega arith) in
    elim (cases_Bool (eqb b 49 || eqb b 50)) [ inl e ↦ rw (h.0, h.1, e, free, some) refl | inr e ↦ rw (h.0, h.1, e) refl ]

-- deeper reads an act where so many are left
abbrev pub ActLeads : ℕ → (List ℕ → Read Bet) → Type 0
ActLeads left deeper = (outer : List Open) (bytes : List ℕ) → left + length outer ≡ 16 → NoEnd outer bytes
    → LeadsTo (after outer) (read (at_tree outer) bytes) (deeper bytes)

lead_inner : (left : ℕ) (deeper : List ℕ → Read Bet) → ActLeads left deeper → (o : Open) (outer : List Open) (bytes : List ℕ) → left + length (o ∷ outer) ≡ 16
    → LeadsTo (after (o ∷ outer)) (read (at_tree (o ∷ outer)) bytes) (inner_at deeper bytes)
unfolding inner_at
lead_inner left deeper act_leads o outer [] room = act_leads (o ∷ outer) [] room tt
lead_inner left deeper act_leads o outer (b ∷ bytes) room =
    elim (cases_Bool (eqb b 61)) [
      | inl e ↦ rw e refl
      | inr e ↦ elim (cases_Bool (eqb b 33)) [
        | inl f ↦ rw (e, f) refl
        | inr f ↦
            let so : inner_at deeper (b ∷ bytes) ≡ deeper (b ∷ bytes) = rw (e, f) refl in
            subst (LeadsTo (after (o ∷ outer)) (read (at_tree (o ∷ outer)) (b ∷ bytes))) (sym so) (act_leads (o ∷ outer) (b ∷ bytes) room (e, rw f refl))
      ]
    ]

lead_move : (left : ℕ) (deeper : List ℕ → Read Bet) → ActLeads left deeper → (p : ℕ) (ms : Moves) (outer : List Open) (bytes : List ℕ)
    → suc (left + length outer) ≡ 16
    → LeadsTo (λ more. at_next p more outer) (read (at_letter p ms outer) bytes) (move_at (inner_at deeper) ms bytes)
unfolding move_at
lead_move left deeper act_leads p ms outer bytes room =
    leads_on _ _ _ _ _ (lead_letter p ms outer bytes) (λ letter _.
    let o : Open = record { player = p; moves = ms; letter = letter.0; chips = (chips_at 0 letter.1).0 } in
    let chips = lead_chips p ms letter.0 0 outer letter.1 in
    rw chips (leads_on _ _ _ _ _ (lead_colon o outer (chips_at 0 letter.1).1 (chips_stop 0 letter.1)) (λ colon _.
    leads_on _ _ _ _ _ (lead_inner left deeper act_leads o outer colon.1 (omega arith)) (λ next _. refl))))

lead_more : (p : ℕ) (ms : Moves) (outer : List Open) (bytes : List ℕ) → LeadsTo (λ more. cond more (at_letter p ms outer) (after outer (act p ms)))
    (read (at_next p ms outer) bytes) (more_at (count ms) bytes)
unfolding more_at
lead_more p ms outer [] = refl
lead_more p ms outer (b ∷ bytes) =
    elim (cases_Bool (eqb b 93)) [
      | inl e ↦ rw e refl
      | inr e ↦ elim (cases_Bool (eqb b 44 && ltb (count ms) 26)) [ inl f ↦ rw (e, f) refl | inr f ↦ rw (e, f) refl ]
    ]

-- the value of a step that did not fail
pub bind_ok : {A B : Type 0} (r : Read A) (f : A × List ℕ → Read B) (y : B × List ℕ) → (r >>= f) ≡ Ok y → (x : A × List ℕ) × (r ≡ Ok x) × (f x ≡ Ok y)
bind_ok (Ok x) f y e = (x, refl, e)
bind_ok (Err d) f y e = absurd cc

pub count_push : (ms : Moves) (l c : ℕ) (t : Bet) → count (push_move ms l c t) ≡ suc (count ms)
count_push none l c t = refl
count_push (move letter chips next ms) l c t = ap suc (count_push ms l c t)

pushed : Read Moves → Moves
pushed (Ok x) = x.0
pushed (Err e) = none

-- a move more
move_count : (tree : List ℕ → Read Bet) (ms : Moves) (bytes : List ℕ) (x : Moves × List ℕ) → move_at tree ms bytes ≡ Ok x → count x.0 ≡ suc (count ms)
unfolding move_at pushed
move_count tree ms bytes x h =
    let a = bind_ok (letter_at ms bytes) _ x h in
    let b = bind_ok (expect_at 58 (chips_at 0 a.0.1).1) _ x a.2 in
    let c = bind_ok (tree b.0.1) _ x b.2 in
    let e : push_move ms a.0.0 (chips_at 0 a.0.1).0 c.0.0 ≡ x.0 = ap pushed c.2 in
    rw (← e) (count_push ms a.0.0 (chips_at 0 a.0.1).0 c.0.0)

player_room : (left : ℕ) (bytes : List ℕ) (x : ℕ × List ℕ) → player_digit left bytes ≡ Ok x → 0 < left
unfolding player_digit
player_room (suc left) bytes x h = omega arith
player_room zero [] x h = absurd cc
player_room zero (b ∷ bytes) x h =
    let no : (t : Bool) → cond {A = Read ℕ} t (Err (TooDeep, b ∷ bytes)) (Err (Syntax, b ∷ bytes)) ≡ Ok x → ⊥ =
    λ t e. elim t as (λ v. cond {A = Read ℕ} v (Err (TooDeep, b ∷ bytes)) (Err (Syntax, b ∷ bytes)) ≡ Ok x
    → ⊥) [ true ↦ λ d. absurd cc | false ↦ λ d. absurd cc ] e in
    absurd (no (eqb b 49 || eqb b 50) h)

lead_behind : (others : Read Moves) (p : ℕ) (more : Moves) (outer : List Open) (t : Bool) (rest : List ℕ)
    → (t ≡ true → LeadsTo (λ ms. after outer (act p ms)) (read (at_letter p more outer) rest) others)
    → LeadsTo (λ ms. after outer (act p ms)) (read (cond t (at_letter p more outer) (after outer (act p more))) rest) (cond t others (Ok (more, rest)))
lead_behind others p more outer true rest h = h refl
lead_behind others p more outer false rest h = refl

lead_moves : (left : ℕ) (deeper : List ℕ → Read Bet) → ActLeads left deeper → (p room : ℕ) (ms : Moves) (outer : List Open) (bytes : List ℕ)
    → suc (left + length outer) ≡ 16 → 26 ≤ room + count ms → count ms < 26
    → LeadsTo (λ more. after outer (act p more)) (read (at_letter p ms outer) bytes) (moves_at (inner_at deeper) room ms bytes)
unfolding moves_at
lead_moves left deeper act_leads p zero ms outer bytes depth enough few = absurd (omega arith)
lead_moves left deeper act_leads p (suc room) ms outer bytes depth enough few =
    leads_on _ _ _ _ _ (lead_move left deeper act_leads p ms outer bytes depth) (λ next is_next.
    leads_on _ _ _ _ _ (lead_more p next.0 outer next.1) (λ more is_more.
    lead_behind _ p next.0 outer more.0 more.1 (λ goes.
    let one_more = move_count (inner_at deeper) ms bytes next is_next in
    let again : more_at (count next.0) next.1 ≡ Ok (true, more.1) = rw goes at is_more in
    lead_moves left deeper act_leads p room next.0 outer more.1 depth (omega (arith, one_more)) (more_room (count next.0) next.1 more.1 again))))

lead_act : (left : ℕ) (deeper : List ℕ → Read Bet) → (0 < left → ActLeads (left - 1) deeper) → ActLeads left (act_with left deeper)
unfolding act_with
lead_act left deeper act_leads outer bytes room no_end =
    leads_on _ _ _ _ _ (lead_player left outer bytes room no_end) (λ player is_player.
    let some = player_room left bytes player is_player in
    leads_on _ _ _ _ _ (lead_bracket player.0 outer player.1) (λ bracket _.
    leads_on _ _ _ _ _ (lead_moves (left - 1) deeper (act_leads some) player.0 26 none outer bracket.1 (omega (arith, some)) (omega arith) (omega arith))
    (λ moves _. refl)))

pub lead_acts : (left : ℕ) → ActLeads left (act_at left)
unfolding act_at
lead_acts zero = lead_act 0 (λ rest. Err (Syntax, rest)) (λ h. absurd (omega arith))
lead_acts (suc left) = let e : left ≡ suc left - 1 = omega arith in lead_act (suc left) (act_at left)
    (λ _. subst (λ k. ActLeads k (act_at left)) e (lead_acts left))

lead_outer : (bytes : List ℕ) → LeadsTo whole (read (at_tree []) bytes) (outer_at bytes)
unfolding outer_at
lead_outer [] = lead_acts 16 [] [] refl tt
lead_outer (b ∷ bytes) =
    elim (cases_Bool (eqb b 61)) [
      | inl e ↦ rw e refl
      | inr e ↦
          let so : outer_at (b ∷ bytes) ≡ act_at 16 (b ∷ bytes) = rw e refl in
          subst (LeadsTo whole (read (at_tree []) (b ∷ bytes))) (sym so) (lead_acts 16 [] (b ∷ bytes) refl (e, and_right (eqb b 33) false refl))
    ]

value_of : Read Bet → Result Bet (Mistake × List ℕ)
value_of (Ok x) = Ok x.0
value_of (Err e) = Err e

-- what is read of all of the bytes is what is read from a cut before them
pub reads_as_cut : (bytes : List ℕ) → LeadsTo {A = Bet} (λ t. whole t) (read (at_tree []) bytes) (all_of bytes)
unfolding all_of
reads_as_cut bytes = leads_on _ _ _ _ _ (lead_outer bytes) (λ x _. at_ends x.0 x.1)
  where
    at_ends : (t : Bet) (rest : List ℕ) → LeadsTo {A = Bet} (λ u. whole u) (read (whole t) rest) (at_end (t, rest))
    at_ends t [] = refl
    at_ends t (b ∷ rest) = refl
