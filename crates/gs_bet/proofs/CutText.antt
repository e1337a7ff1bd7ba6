-- What has been read at a cut, and that each step adds its byte.
use Rattle.std.proofs.Common.{◌≡◌, ℕ, zero, suc, ◌+◌, ◌-◌, ◌*◌, ◌/◌, ◌%◌, ◌<◌, ◌≤◌, List, [], ◌∷◌, ◌++◌, length, Result, Ok, Err, refl, sym, ap, subst, ◌∙◌}
use Rattle.std.proofs.{Common.{inl, inr, true, false, not, eqb, ltb, leb, ◌&&◌, ◌||◌, arith, append_assoc}, lemmas.Bool.{eqb-true, eqb-false, ne_eqb}}
use Rattle.std.proofs.{lemmas.Fmt.{decimal_digit, decimal_step}, lemmas.List.{append-nil}}
use Rattle.std.proofs.lemmas.Bool.{cases_Bool, false≢true, or_left, or_right, and_parts, and_from, or_parts, or_cases, not-true, leb-true, le-leb, ltb-true}
use Rattle.std.specs.Fmt.{decimal}
use Rattle.gs_bet.specs.{declared.fault.Mistake.{Mistake}, MoveLists.{count, has_move, has_letter, push_move}, Cuts.{IsCut}, Reading.{goes_on}}
use Rattle.gs_bet.specs.Grammar.{chips_text, tree_text, moves_text, is_letter, is_player, is_sound, are_sound, is_fold}
use Rattle.gs_bet.specs.Cuts.{Open, Cut, at_tree, at_bracket, at_letter, at_chips, at_next, whole, act_front, mark, open_text, cut_text, IsAct, IsOpen, AreOpen}
use Rattle.gs_model.specs.Betting.{Bet, Moves, act, fold, even, none, move}
use Rattle.gs_bet.proofs.Steps.{after, is_inside, step, step_tree, step_letter, step_chips, step_next, step_then, run}

-- ---- one more move

mark_44 : (ms : Moves) → mark 44 ms ≡ 44
mark_44 none = refl
mark_44 (move letter chips next ms) = refl

pub moves_push : (before : ℕ) (ms : Moves) (l c : ℕ) (t : Bet) → moves_text before (push_move ms l c t)
    ≡ moves_text before ms ++ (mark before ms ∷ l ∷ (chips_text c ++ (58 ∷ tree_text t)))
moves_push before none l c t = rw append-nil refl
moves_push before (move letter chips next ms) l c t =
    rw (moves_push 44 ms l c t, mark_44) (simp append_assoc)

has_push : (ms : Moves) (l c : ℕ) (t : Bet) (b : ℕ) → has_letter ms b ≡ false → eqb l b ≡ false → has_letter (push_move ms l c t) b ≡ false
has_push none l c t b h e = rw e refl
has_push (move letter chips next ms) l c t b h e =
    let p = or_parts (eqb letter b) (has_letter ms b) h in
    rw (p.0, has_push ms l c t b p.1 e) refl

pub swapped : (a b : ℕ) → eqb a b ≡ false → eqb b a ≡ false
swapped a b h = ne_eqb b a (λ e. eqb-false a b h (sym e))

pub sound_push : (left : ℕ) (ms : Moves) (l c : ℕ) (t : Bet) → are_sound left ms ≡ true → is_letter l ≡ true → has_letter ms l ≡ false → c ≤ 4096
    → is_sound left t ≡ true → are_sound left (push_move ms l c t) ≡ true
sound_push left none l c t sound letter fresh few next = rw (letter, le-leb c 4096 few, next) refl
sound_push left (move letter chips next ms) l c t sound is_l fresh few is_t =
    let p = and_parts (is_letter letter && not (has_letter ms letter)) _ sound in
    let q = and_parts (is_letter letter) (not (has_letter ms letter)) p.0 in
    let r = and_parts (leb chips 4096) (is_sound left next && are_sound left ms) p.1 in
    let s = and_parts (is_sound left next) (are_sound left ms) r.1 in
    let f = or_parts (eqb letter l) (has_letter ms l) fresh in
    let others : has_letter (push_move ms l c t) letter ≡ false = has_push ms l c t letter (not-true (has_letter ms letter) q.1) (swapped letter l f.0) in
    rw (q.0, others, r.0, s.0, sound_push left ms l c t s.1 is_l f.1 few is_t) refl

pub has_move_push : (ms : Moves) (l c : ℕ) (t : Bet) → has_move (push_move ms l c t) ≡ true
has_move_push none l c t = refl
has_move_push (move letter chips next ms) l c t = refl

-- ---- where a tree ends

pub after_text : (outer : List Open) (t : Bet) → cut_text (after outer t) ≡ open_text outer ++ tree_text t
after_text [] t = refl
after_text (o ∷ outer) t = rw (moves_push 91 o.moves o.letter o.chips t) (simp append_assoc)

pub after_is : (outer : List Open) (t : Bet) → AreOpen outer → is_sound (16 - length outer) t ≡ true → (is_inside outer || not (is_fold t)) ≡ true
    → IsCut (after outer t)
after_is [] t h sound no_fold = and_from (not (is_fold t)) (is_sound 16 t) no_fold sound
after_is (o ∷ outer) t h sound no_fold =
    let left : 16 - length (o ∷ outer) ≡ 15 - length outer = omega arith in (
      record {
        player = h.0.act.player;
        depth = h.0.act.depth;
        moves = sound_push (15
            - length outer) o.moves o.letter o.chips t h.0.act.moves h.0.letter h.0.fresh h.0.chips (rw left at sound);
      },
      has_move_push o.moves o.letter o.chips t,
      h.1,
    )

-- ---- digits

chips_some : (n : ℕ) → 0 < n → chips_text n ≡ decimal n
chips_some zero h = absurd (omega arith)
chips_some (suc n) h = refl

pub digit_text : (n b : ℕ) → goes_on n b ≡ true → chips_text (n * 10 + (b - 48)) ≡ chips_text n ++ b ∷ []
digit_text n b h =
    let p = and_parts (leb 48 b && leb b 57) (ltb 0 (n * 10 + (b - 48)) && leb (n * 10 + (b - 48)) 4096) h in
    let d = and_parts (leb 48 b) (leb b 57) p.0 in
    let low : 48 ≤ b = leb-true 48 b d.0 in
    let high : b ≤ 57 = leb-true b 57 d.1 in
    let q = and_parts (ltb 0 (n * 10 + (b - 48))) (leb (n * 10 + (b - 48)) 4096) p.1 in
    let some : 0 < n * 10 + (b - 48) = ltb-true 0 _ q.0 in
    let few : n * 10 + (b - 48) ≤ 4096 = leb-true _ 4096 q.1 in
    go n b low high some few
  where
    go : (n b : ℕ) → 48 ≤ b → b ≤ 57 → 0 < n * 10 + (b - 48) → n * 10 + (b - 48) ≤ 4096 → chips_text (n * 10 + (b - 48)) ≡ chips_text n ++ b ∷ []
    go zero b low high some few =
        let e : 48 + (0 * 10 + (b - 48)) ≡ b = omega arith in
        chips_some _ some ∙ decimal_digit _ (omega arith) ∙ ap (λ (k : ℕ). k ∷ []) e
    go (suc n) b low high some few =
        let quot : (suc n * 10 + (b - 48)) / 10 ≡ suc n = omega arith in
        let rest : 48 + (suc n * 10 + (b - 48)) % 10 ≡ b = omega arith in
        chips_some _ some ∙ decimal_step _ (omega arith) (omega arith) ∙ rw (quot, rest) refl

-- ---- a step

-- what holds of the cut that a step leads to
abbrev pub OkAnd : (Cut → Type 0) → Result Cut Mistake → Type 0
OkAnd P (Ok s) = P s
OkAnd P (Err m) = Unit {0}

-- one more byte was read
pub record Grows (s : Cut) (b : ℕ) (next : Cut) : Type 0 where
  pub text : cut_text next ≡ cut_text s ++ b ∷ []
  pub is : IsCut next

mark_some : (ms : Moves) → has_move ms ≡ true → mark 91 ms ≡ 44
mark_some none h = absurd (false≢true h)
mark_some (move letter chips next ms) h = refl

player_byte : (b : ℕ) → (eqb b 49 || eqb b 50) ≡ true → 48 + (b - 48) ≡ b
player_byte b h = elim (or_cases (eqb b 49) (eqb b 50) h) [ inl e ↦ rw (eqb-true b 49 e) refl | inr e ↦ rw (eqb-true b 50 e) refl ]

player_is : (b : ℕ) → (eqb b 49 || eqb b 50) ≡ true → is_player (b - 48) ≡ true
player_is b h = elim (or_cases (eqb b 49) (eqb b 50) h) [ inl e ↦ rw (eqb-true b 49 e) refl | inr e ↦ rw (eqb-true b 50 e) refl ]

goes_few : (n b : ℕ) → goes_on n b ≡ true → n * 10 + (b - 48) ≤ 4096
goes_few n b h =
    let p = and_parts (leb 48 b && leb b 57) (ltb 0 (n * 10 + (b - 48)) && leb (n * 10 + (b - 48)) 4096) h in
    leb-true _ 4096 (and_parts (ltb 0 (n * 10 + (b - 48))) (leb (n * 10 + (b - 48)) 4096) p.1).1

grows_tree : (outer : List Open) (b : ℕ) → AreOpen outer → OkAnd (Grows (at_tree outer) b) (step_tree outer b)
grows_tree outer b h =
    elim (cases_Bool (eqb b 61)) [
      | inl e ↦ rw e record {
        text = after_text outer even ∙ ap (λ (k : ℕ). open_text outer ++ k ∷ []) (sym (eqb-true b 61 e));
        is = after_is outer even h refl (or_right (is_inside outer) true refl);
      }
      | inr e ↦ elim (cases_Bool (eqb b 33 && is_inside outer)) [
        | inl f ↦
            let parts = and_parts (eqb b 33) (is_inside outer) f in
            rw (e, f) record {
              text = after_text outer fold ∙ ap (λ (k : ℕ). open_text outer ++ k ∷ []) (sym (eqb-true b 33 parts.0));
              is = after_is outer fold h refl (or_left (is_inside outer) false parts.1);
            }
        | inr f ↦ elim (cases_Bool (eqb b 49 || eqb b 50)) [
          | inl g ↦ elim (cases_Bool (ltb (length outer) 16)) [
            | inl k ↦
                let same : 48 + (b - 48) ≡ b = player_byte b g in
                rw (e, f, g, k) record {
                  text = ap (λ (i : ℕ). open_text outer ++ i ∷ []) same;
                  is = (record { player = player_is b g; depth = ltb-true (length outer) 16 k; moves = refl }, h);
                }
            | inr k ↦ rw (e, f, g, k) tt
          ]
          | inr g ↦ rw (e, f, g) tt
        ]
      ]
    ]

grows_letter : (p : ℕ) (ms : Moves) (outer : List Open) (b : ℕ) → IsAct p ms outer × (count ms < 26) × AreOpen outer
    → OkAnd (Grows (at_letter p ms outer) b) (step_letter p ms outer b)
grows_letter p ms outer b h =
    elim (cases_Bool (is_letter b)) [
      | inl e ↦ elim (cases_Bool (has_letter ms b)) [
        | inl f ↦ rw (e, f) tt
        | inr f ↦ rw (e, f) record { text = simp append_assoc; is = (record { act = h.0; letter = e; fresh = f; chips = omega arith }, h.2) }
      ]
      | inr e ↦ rw e tt
    ]

grows_chips : (o : Open) (outer : List Open) (b : ℕ) → IsOpen o outer × AreOpen outer → OkAnd (Grows (at_chips o outer) b) (step_chips o outer b)
grows_chips o outer b h =
    elim (cases_Bool (eqb b 58)) [
      | inl e ↦ rw e record { text = rw (eqb-true b 58 e) (simp append_assoc); is = h }
      | inr e ↦ elim (cases_Bool (goes_on o.chips b)) [
        | inl f ↦ rw (e, f) record {
          text = ap (λ (x : List ℕ). open_text outer ++ (act_front o.player o.moves ++ (o.letter ∷ x))) (digit_text o.chips b f) ∙ simp append_assoc;
          is = (record { act = h.0.act; letter = h.0.letter; fresh = h.0.fresh; chips = goes_few o.chips b f }, h.1);
        }
        | inr f ↦ rw (e, f) tt
      ]
    ]

grows_next : (p : ℕ) (ms : Moves) (outer : List Open) (b : ℕ) → IsAct p ms outer × (has_move ms ≡ true) × AreOpen outer
    → OkAnd (Grows (at_next p ms outer) b) (step_next p ms outer b)
grows_next p ms outer b h =
    elim (cases_Bool (eqb b 93)) [
      | inl e ↦
          let left : 16 - length outer ≡ suc (15 - length outer) = omega (arith, h.0.depth) in
          let text : cut_text (after outer (act p ms)) ≡ (open_text outer ++ ((48 + p) ∷ moves_text 91 ms)) ++ 93 ∷ [] =
          after_text outer (act p ms) ∙ simp append_assoc in
          rw e record {
            text = text ∙ ap (λ (k : ℕ). (open_text outer ++ ((48 + p) ∷ moves_text 91 ms)) ++ k ∷ []) (sym (eqb-true b 93 e));
            is = after_is outer (act p ms) h.2 (rw left (rw (h.0.player, h.1, h.0.moves) refl)) (or_right (is_inside outer) true refl);
          }
      | inr e ↦ elim (cases_Bool (eqb b 44 && ltb (count ms) 26)) [
        | inl f ↦
            let parts = and_parts (eqb b 44) (ltb (count ms) 26) f in
            rw (e, f) record { text = rw (mark_some ms h.1, eqb-true b 44 parts.0) (simp append_assoc); is = (h.0, ltb-true (count ms) 26 parts.1, h.2) }
        | inr f ↦ rw (e, f) tt
      ]
    ]

pub grows : (s : Cut) (b : ℕ) → IsCut s → OkAnd (Grows s b) (step s b)
grows (at_tree outer) b h = grows_tree outer b h
grows (at_bracket p outer) b h =
    elim (cases_Bool (eqb b 91)) [ inl e ↦ rw e record { text = rw (eqb-true b 91 e) (simp append_assoc); is = (h.0, omega arith, h.1) } | inr e ↦ rw e tt ]
grows (at_letter p ms outer) b h = grows_letter p ms outer b h
grows (at_chips o outer) b h = grows_chips o outer b h
grows (at_next p ms outer) b h = grows_next p ms outer b h
grows (whole t) b h = tt

-- ---- many bytes

abbrev pub reached : Cut → Result Cut (Mistake × List ℕ)
reached s = Ok s

pub reached-is : (x y : Cut) → reached x ≡ reached y → x ≡ y
reached-is x y e = cc

-- the rest grows the cut that a step leads to
behind : (s : Cut) (b : ℕ) (bytes : List ℕ) (next : Cut) → ((x : Cut) → IsCut x → run x bytes ≡ Ok next → (cut_text next ≡ cut_text x ++ bytes) × IsCut next)
    → (r : Result Cut Mistake) → OkAnd (Grows s b) r → step_then r (λ x. run x bytes) (b ∷ bytes) ≡ Ok next
    → (cut_text next ≡ cut_text s ++ (b ∷ bytes)) × IsCut next
behind s b bytes next go (Ok x) g e =
    let more = go x g.is e in
    (more.0 ∙ ap (λ (t : List ℕ). t ++ bytes) g.text ∙ append_assoc (cut_text s) (b ∷ []) bytes, more.1)
behind s b bytes next go (Err m) g e = absurd cc

-- reading on from a cut
pub run_grows : (bytes : List ℕ) (s next : Cut) → IsCut s → run s bytes ≡ Ok next → (cut_text next ≡ cut_text s ++ bytes) × IsCut next
run_grows [] s next h e =
    let same : s ≡ next = reached-is s next e in
    subst (λ (x : Cut). (cut_text x ≡ cut_text s ++ []) × IsCut x) same (sym (append-nil (cut_text s)), h)
run_grows (b ∷ bytes) s next h e = behind s b bytes next (λ x is go. run_grows bytes x next is go) (step s b) (grows s b h) e
