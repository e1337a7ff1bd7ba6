-- Each cut can be completed, and a tree's text is read to its end.
use Rattle.std.proofs.Common.{◌≡◌, ℕ, zero, suc, ◌+◌, ◌-◌, ◌*◌, ◌/◌, ◌%◌, ◌<◌, ◌≤◌, List, [], ◌∷◌, ◌++◌, length, Ok, refl, ap, ◌∙◌, inl, inr, Bool, true, false}
use Rattle.std.proofs.Common.{not, eqb, ◌&&◌, ◌||◌, arith, append_assoc, zero-add}
use Rattle.std.proofs.{lemmas.Fmt.{decimal_by_steps}, lemmas.Bool.{false≢true, or_parts, and_parts, le-leb, lt-ltb, ne_eqb}}
use Rattle.std.specs.Fmt.{decimal}
use Rattle.gs_model.specs.Betting.{Bet, Moves, act, fold, even, none, move}
use Rattle.gs_bet.specs.MoveLists.{count, has_move, has_letter, push_move}
use Rattle.gs_bet.specs.Grammar.{chips_text, tree_text, moves_text, is_letter, is_player, is_sound, are_sound, is_fold}
use Rattle.gs_bet.specs.{Cuts.{Open, Cut, at_tree, at_bracket, at_letter, at_chips, at_next, whole, act_front, IsAct, IsOpen, IsCut}, Reading.{goes_on}}
use Rattle.gs_bet.proofs.{Steps.{after, is_inside, run}, CutText.{sound_push, swapped}, ReadsAsCut.{count_push}, Letters.{First, first, at_most_26, spare}}
use Rattle.gs_bet.proofs.Players.{player_cases}

-- ---- completion

pub record Completes (s : Cut) : Type 0 where
  pub rest : List ℕ
  pub tree : Bet
  pub ends : run s rest ≡ Ok (whole tree)

closes : (outer : List Open) (t : Bet) → Completes (after outer t)
closes [] t = record { rest = []; tree = t; ends = refl }
closes (o ∷ outer) t =
    let c = closes outer (act o.player (push_move o.moves o.letter o.chips t)) in
    record { rest = 93 ∷ c.rest; tree = c.tree; ends = c.ends }

from_tree : (outer : List Open) → Completes (at_tree outer)
from_tree outer = let c = closes outer even in record { rest = 61 ∷ c.rest; tree = c.tree; ends = c.ends }

from_chips : (o : Open) (outer : List Open) → Completes (at_chips o outer)
from_chips o outer = let c = from_tree (o ∷ outer) in record { rest = 58 ∷ c.rest; tree = c.tree; ends = c.ends }

from_letter : (p : ℕ) (ms : Moves) (outer : List Open) → are_sound (15 - length outer) ms ≡ true → count ms < 26 → Completes (at_letter p ms outer)
from_letter p ms outer sound few =
    let l = spare (15 - length outer) ms sound few in
    let c = from_chips record { player = p; moves = ms; letter = l.0; chips = 0 } outer in
    record { rest = l.0 ∷ c.rest; tree = c.tree; ends = rw (l.1, l.2) c.ends }

-- each cut that is reached can go on to a whole tree
pub completes : (s : Cut) → IsCut s → Completes s
completes (at_tree outer) h = from_tree outer
completes (at_bracket p outer) h = let c = from_letter p none outer refl (omega arith) in record { rest = 91 ∷ c.rest; tree = c.tree; ends = c.ends }
completes (at_letter p ms outer) h = from_letter p ms outer h.0.moves h.1
completes (at_chips o outer) h = from_chips o outer
completes (at_next p ms outer) h = let c = closes outer (act p ms) in record { rest = 93 ∷ c.rest; tree = c.tree; ends = c.ends }
completes (whole t) h = record { rest = []; tree = t; ends = refl }

-- ---- a tree's text

-- moves, and further ones behind them
abbrev join : Moves → Moves → Moves
join none more = more
join (move letter chips next moves) more = move letter chips next (join moves more)

join_none : (ms : Moves) → join ms none ≡ ms
join_none none = refl
join_none (move letter chips next ms) = ap (move letter chips next) (join_none ms)

join_push : (ms : Moves) (l c : ℕ) (t : Bet) (more : Moves) → join (push_move ms l c t) more ≡ join ms (move l c t more)
join_push none l c t more = refl
join_push (move letter chips next ms) l c t more = ap (move letter chips next) (join_push ms l c t more)

count_join : (ms more : Moves) → count (join ms more) ≡ count ms + count more
count_join none more = omega arith
count_join (move letter chips next ms) more = omega (arith, count_join ms more)

has_join : (ms : Moves) (l c : ℕ) (t : Bet) (more : Moves) (b : ℕ) → has_letter (join ms (move l c t more)) b ≡ false → eqb l b ≡ false
has_join none l c t more b h = (or_parts (eqb l b) (has_letter more b) h).0
has_join (move letter chips next ms) l c t more b h = has_join ms l c t more b (or_parts (eqb letter b) (has_letter (join ms (move l c t more)) b) h).1

-- a move behind others
middle : (left : ℕ) (ms : Moves) (l c : ℕ) (t : Bet) (more : Moves) → are_sound left (join ms (move l c t more)) ≡ true
    → First left l c t more × (has_letter ms l ≡ false)
middle left none l c t more h = (first left l c t more h, refl)
middle left (move letter chips next ms) l c t more h =
    let f = first left letter chips next (join ms (move l c t more)) h in
    let m = middle left ms l c t more f.others in
    (m.0, rw (swapped l letter (has_join ms l c t more letter f.fresh), m.1) refl)

-- the digits of chips
abbrev with_chips : Open → ℕ → Open
with_chips o n = record o { chips = n }

goes : (n d : ℕ) → d < 10 → 0 < n * 10 + d → n * 10 + d ≤ 4096 → goes_on n (48 + d) ≡ true
goes n d lt some few =
    let same : n * 10 + (48 + d - 48) ≡ n * 10 + d = omega arith in
    rw same (rw (le-leb 48 (48 + d) (omega arith), le-leb (48 + d) 57 (omega arith), lt-ltb 0 (n * 10 + d) some, le-leb (n * 10 + d) 4096 few) refl)

runs_digit : (o : Open) (outer : List Open) (n d : ℕ) (bytes : List ℕ) → d < 10 → 0 < n * 10 + d → n * 10 + d ≤ 4096
    → run (at_chips (with_chips o n) outer) ((48 + d) ∷ bytes) ≡ run (at_chips (with_chips o (n * 10 + d)) outer) bytes
runs_digit o outer n d bytes lt some few =
    let no_colon : eqb (48 + d) 58 ≡ false = ne_eqb (48 + d) 58 (λ e. omega arith) in
    let same : n * 10 + (48 + d - 48) ≡ n * 10 + d = omega arith in
    rw (no_colon, goes n d lt some few, same) refl

runs_decimal : (o : Open) (outer : List Open) (n : ℕ) → 0 < n → n ≤ 4096 → (bytes : List ℕ)
    → run (at_chips (with_chips o 0) outer) (decimal n ++ bytes) ≡ run (at_chips (with_chips o n) outer) bytes
runs_decimal o outer n some few =
    let P : ℕ → List ℕ → Type 0 = λ n ds. 0 < n → n ≤ 4096 → (bytes : List ℕ)
    → run (at_chips (with_chips o 0) outer) (ds ++ bytes) ≡ run (at_chips (with_chips o n) outer) bytes in
    decimal_by_steps P
    (λ n lt some few bytes. runs_digit o outer 0 n bytes lt (omega arith) (omega arith)
    ∙ ap (λ (k : ℕ). run (at_chips (with_chips o k) outer) bytes) (zero-add n))
    (λ n ds ge before some few bytes.
    let whole_of : n / 10 * 10 + n % 10 ≡ n = omega arith in
    let front = before (omega arith) (omega arith) ((48 + n % 10) ∷ bytes) in
    let last = runs_digit o outer (n / 10) (n % 10) bytes (omega arith) (omega arith) (omega arith) in
    ap (run (at_chips (with_chips o 0) outer)) (append_assoc ds ((48 + n % 10) ∷ []) bytes) ∙ front ∙ last
    ∙ ap (λ (k : ℕ). run (at_chips (with_chips o k) outer) bytes) whole_of)
    n (omega arith) some few

runs_chips : (o : Open) (outer : List Open) (n : ℕ) (bytes : List ℕ) → n ≤ 4096
    → run (at_chips (with_chips o 0) outer) (chips_text n ++ bytes) ≡ run (at_chips (with_chips o n) outer) bytes
runs_chips o outer zero bytes few = refl
runs_chips o outer (suc n) bytes few = runs_decimal o outer (suc n) (omega arith) few bytes

-- reading t, whatever stands behind it
abbrev RunsTree : Bet → Type 0
RunsTree t = (outer : List Open) (rest : List ℕ) → is_sound (16 - length outer) t ≡ true → (is_inside outer || not (is_fold t)) ≡ true
    → run (at_tree outer) (tree_text t ++ rest) ≡ run (after outer t) rest

runs_move : (l c : ℕ) (t : Bet) → RunsTree t → (p : ℕ) (ms : Moves) (outer : List Open) (front tail : List ℕ) → length outer < 16 → is_letter l ≡ true
    → has_letter ms l ≡ false → c ≤ 4096 → is_sound (15 - length outer) t ≡ true
    → run (at_letter p ms outer) ((l ∷ (chips_text c ++ (58 ∷ (tree_text t ++ front)))) ++ tail) ≡ run (at_next p (push_move ms l c t) outer) (front ++ tail)
runs_move l c t runs p ms outer front tail depth letter fresh few sound =
    let o : Open = record { player = p; moves = ms; letter = l; chips = c } in
    let left : 16 - length (o ∷ outer) ≡ 15 - length outer = omega arith in
    let first : run (at_letter p ms outer) ((l ∷ (chips_text c ++ (58 ∷ (tree_text t ++ front)))) ++ tail)
    ≡ run (at_chips (with_chips o 0) outer) ((chips_text c ++ (58 ∷ (tree_text t ++ front))) ++ tail) = rw (letter, fresh) refl in
    let second : run (at_chips (with_chips o 0) outer) ((chips_text c ++ (58 ∷ (tree_text t ++ front))) ++ tail)
    ≡ run (at_chips o outer) (58 ∷ ((tree_text t ++ front) ++ tail)) =
    ap (run (at_chips (with_chips o 0) outer)) (append_assoc (chips_text c) (58 ∷ (tree_text t ++ front)) tail)
    ∙ runs_chips o outer c (58 ∷ ((tree_text t ++ front) ++ tail)) few in
    let third : run (at_tree (o ∷ outer)) ((tree_text t ++ front) ++ tail) ≡ run (after (o ∷ outer) t) (front ++ tail) =
    ap (run (at_tree (o ∷ outer))) (append_assoc (tree_text t) front tail) ∙ runs (o ∷ outer) (front ++ tail) (rw left sound) refl in
    first ∙ second ∙ third

or_false : (x : Bool) → (x || false) ≡ true → x ≡ true
or_false true h = refl
or_false false h = h

-- the front of an act
runs_front : (p : ℕ) (outer : List Open) (bytes : List ℕ) → length outer < 16 → is_player p ≡ true
    → run (at_tree outer) ((48 + p) ∷ 91 ∷ bytes) ≡ run (at_letter p none outer) bytes
runs_front p outer bytes depth player =
    elim (player_cases p player) [
      | inl e ↦ rw (e, lt-ltb (length outer) 16 depth) refl
      | inr e ↦ rw (e, lt-ltb (length outer) 16 depth) refl
    ]

-- an act has a place, and is sound within
pub depth_of : (k p : ℕ) (ms : Moves) → is_sound k (act p ms) ≡ true → (0 < k) × (is_player p ≡ true) × (has_move ms ≡ true) × (are_sound (k - 1) ms ≡ true)
depth_of zero p ms h = absurd (false≢true h)
depth_of (suc k) p ms h =
    let a = and_parts (is_player p) (has_move ms && are_sound k ms) h in
    let b = and_parts (has_move ms) (are_sound k ms) a.1 in
    let e : k ≡ suc k - 1 = omega arith in
    (omega arith, a.0, b.0, rw (← e) b.1)

mutual
  pub runs_tree : (t : Bet) → RunsTree t
  runs_tree (act p ms) outer rest sound no_fold =
      let d = depth_of (16 - length outer) p ms sound in
      let left : 16 - length outer - 1 ≡ 15 - length outer = omega arith in
      ap (run (at_tree outer)) (append_assoc ((48 + p) ∷ moves_text 91 ms) (93 ∷ []) rest)
      ∙ runs_act ms p outer (93 ∷ rest) (omega (arith, d.0)) d.1 d.2 (rw left at d.3)
  runs_tree fold outer rest sound no_fold = rw (or_false (is_inside outer) no_fold) refl
  runs_tree even outer rest sound no_fold = refl

  -- an act up to its `]`
  pub runs_act : (ms : Moves) (p : ℕ) (outer : List Open) (tail : List ℕ) → length outer < 16 → is_player p ≡ true → has_move ms ≡ true
      → are_sound (15 - length outer) ms ≡ true
      → run (at_tree outer) (((48 + p) ∷ moves_text 91 ms) ++ tail) ≡ run (at_next p ms outer) tail
  runs_act none p outer tail depth player some sound = absurd (false≢true some)
  runs_act (move l c t more) p outer tail depth player some sound =
      let f = first (15 - length outer) l c t more sound in
      let front = runs_front p outer ((l ∷ (chips_text c ++ (58 ∷ (tree_text t ++ moves_text 44 more)))) ++ tail) depth player in
      let one = runs_move l c t (runs_tree t) p none outer (moves_text 44 more) tail depth f.letter refl f.chips f.next in
      let others = runs_moves more p (move l c t none) outer tail depth sound in
      front ∙ one ∙ others

  runs_moves : (more : Moves) (p : ℕ) (ms : Moves) (outer : List Open) (tail : List ℕ) → length outer < 16
      → are_sound (15 - length outer) (join ms more) ≡ true
      → run (at_next p ms outer) (moves_text 44 more ++ tail) ≡ run (at_next p (join ms more) outer) tail
  runs_moves none p ms outer tail depth sound = rw join_none refl
  runs_moves (move l c t more) p ms outer tail depth sound =
      let m = middle (15 - length outer) ms l c t more sound in
      let room : count ms < 26 = omega (arith, at_most_26 (15 - length outer) (join ms (move l c t more)) sound, count_join ms (move l c t more)) in
      let joined = join_push ms l c t more in
      let comma : run (at_next p ms outer) (moves_text 44 (move l c t more) ++ tail)
      ≡ run (at_letter p ms outer) ((l ∷ (chips_text c ++ (58 ∷ (tree_text t ++ moves_text 44 more)))) ++ tail) = rw (lt-ltb (count ms) 26 room) refl in
      let one = runs_move l c t (runs_tree t) p ms outer (moves_text 44 more) tail depth m.0.letter m.1 m.0.chips m.0.next in
      let others = runs_moves more p (push_move ms l c t) outer tail depth (rw joined sound) in
      comma ∙ one ∙ others ∙ ap (λ (x : Moves). run (at_next p x outer) tail) joined

-- ---- a cut's text leads to the cut

-- an act up to its next letter
pub runs_to_letter : (ms : Moves) (p : ℕ) (outer : List Open) (tail : List ℕ) → IsAct p ms outer → count ms < 26
    → run (at_tree outer) (act_front p ms ++ tail) ≡ run (at_letter p ms outer) tail
runs_to_letter none p outer tail h few = runs_front p outer tail h.depth h.player
runs_to_letter (move l c t more) p outer tail h few =
    let ms = move l c t more in
    let comma : run (at_next p ms outer) (44 ∷ tail) ≡ run (at_letter p ms outer) tail = rw (lt-ltb (count ms) 26 few) refl in
    ap (run (at_tree outer)) (append_assoc ((48 + p) ∷ moves_text 91 ms) (44 ∷ []) tail) ∙ runs_act ms p outer (44 ∷ tail) h.depth h.player refl h.moves
    ∙ comma

sound_fresh : (left : ℕ) (ms : Moves) (l : ℕ) → are_sound left ms ≡ true → is_letter l ≡ true → has_letter ms l ≡ false
    → are_sound left (push_move ms l 0 even) ≡ true
sound_fresh left ms l sound letter fresh = sound_push left ms l 0 even sound letter fresh (omega arith) refl

few_moves : (o : Open) (outer : List Open) → IsOpen o outer → count o.moves < 26
few_moves o outer h =
    let more = sound_fresh (15 - length outer) o.moves o.letter h.act.moves h.letter h.fresh in
    omega (arith, at_most_26 (15 - length outer) (push_move o.moves o.letter 0 even) more, count_push o.moves o.letter 0 even)

-- an open act up to its chips
pub runs_to_chips : (o : Open) (outer : List Open) (tail : List ℕ) → IsOpen o outer
    → run (at_tree outer) ((act_front o.player o.moves ++ (o.letter ∷ chips_text o.chips)) ++ tail) ≡ run (at_chips o outer) tail
runs_to_chips o outer tail h =
    let text : (act_front o.player o.moves ++ (o.letter ∷ chips_text o.chips)) ++ tail
    ≡ act_front o.player o.moves ++ (o.letter ∷ (chips_text o.chips ++ tail)) =
    append_assoc (act_front o.player o.moves) (o.letter ∷ chips_text o.chips) tail in
    let letter : run (at_letter o.player o.moves outer) (o.letter ∷ (chips_text o.chips ++ tail))
    ≡ run (at_chips (with_chips o 0) outer) (chips_text o.chips ++ tail) = rw (h.letter, h.fresh) refl in
    ap (run (at_tree outer)) text ∙ runs_to_letter o.moves o.player outer (o.letter ∷ (chips_text o.chips ++ tail)) h.act (few_moves o outer h) ∙ letter
    ∙ runs_chips o outer o.chips tail h.chips
