-- What reading all of a text says of it.
use Rattle.std.proofs.Common.{◌≡◌, ℕ, zero, suc, ◌+◌, ◌-◌, ◌<◌, ◌≤◌, List, [], ◌∷◌, ◌++◌, length, take, Some, None, Result, Ok, Err, refl, sym, ap, subst, ◌∙◌}
use Rattle.std.proofs.{Common.{inl, inr, not, eqb, ltb, ◌&&◌, ◌||◌, arith, append_assoc}, lemmas.Bool.{cases_Bool, cases_lt, lt-ltb, le-ltb, and_parts}}
use Rattle.std.proofs.{lemmas.List.{append-nil, length-append}, Math.Seq.{take-append_seam, take-append-add}}
use Rattle.std.specs.Prelude.{slice_get, IsTrue}
use Rattle.gs_bet.specs.{declared.fault.Mistake.{Mistake}, declared.fault.Mistake.TheVariants.{Syntax}, MoveLists.{count, has_letter}}
use Rattle.gs_bet.specs.Grammar.{tree_text, moves_text, chips_text, is_letter, is_sound, is_fold, is_tree, BeginsTree, IsLongest}
use Rattle.gs_bet.specs.Cuts.{Open, Cut, at_tree, at_bracket, at_letter, at_chips, at_next, whole, act_front, open_text, cut_text, AreOpen, IsCut}
use Rattle.gs_bet.specs.{Reading.{goes_on}, Faults.{mistake_at, IsMistake}}
use Rattle.gs_model.specs.Betting.{Bet}
use Rattle.gs_bet.proofs.{Steps.{is_inside, step, step_then, run, read, ended}, CutText.{run_grows, reached, reached-is}}
use Rattle.gs_bet.proofs.{Runs.{completes, runs_tree, runs_act, runs_to_letter, runs_to_chips}, Players.{player_cases}}

-- ---- runs and prefixes

front_behind : (b : ℕ) (front rest : List ℕ) (next : Cut) → ((x : Cut) → run x (front ++ rest) ≡ Ok next
    → (middle : Cut) × (run x front ≡ Ok middle) × (run middle rest ≡ Ok next))
    → (r : Result Cut Mistake) → step_then r (λ x. run x (front ++ rest)) (b ∷ (front ++ rest)) ≡ Ok next
    → (middle : Cut) × (step_then r (λ x. run x front) (b ∷ front) ≡ Ok middle) × (run middle rest ≡ Ok next)
front_behind b front rest next go (Ok x) h = go x h
front_behind b front rest next go (Err m) h = absurd cc

run_front : (front rest : List ℕ) (s next : Cut) → run s (front ++ rest) ≡ Ok next → (middle : Cut) × (run s front ≡ Ok middle) × (run middle rest ≡ Ok next)
run_front [] rest s next h = (s, refl, h)
run_front (b ∷ front) rest s next h = front_behind b front rest next (λ x go. run_front front rest x next go) (step s b) h

on_behind : (b : ℕ) (front rest : List ℕ) (middle : Cut) → ((x : Cut) → run x front ≡ Ok middle → run x (front ++ rest) ≡ run middle rest)
    → (r : Result Cut Mistake) → step_then r (λ x. run x front) (b ∷ front) ≡ Ok middle
    → step_then r (λ x. run x (front ++ rest)) (b ∷ (front ++ rest)) ≡ run middle rest
on_behind b front rest middle go (Ok x) h = go x h
on_behind b front rest middle go (Err m) h = absurd cc

run_on : (front rest : List ℕ) (s middle : Cut) → run s front ≡ Ok middle → run s (front ++ rest) ≡ run middle rest
run_on [] rest s middle h = ap (λ (x : Cut). run x rest) (reached-is s middle h)
run_on (b ∷ front) rest s middle h = on_behind b front rest middle (λ x go. run_on front rest x middle go) (step s b) h

-- what is read to its end is a tree's text
pub is_text : (text : List ℕ) (t : Bet) → run (at_tree []) text ≡ Ok (whole t) → (text ≡ tree_text t) × IsTrue (is_tree t)
is_text text t h = let g = run_grows text (at_tree []) (whole t) tt h in (sym g.0, g.1)

-- a tree's text is read to its end
pub reads_text : (t : Bet) → IsTrue (is_tree t) → run (at_tree []) (tree_text t) ≡ Ok (whole t)
reads_text t h =
    let p = and_parts (not (is_fold t)) (is_sound 16 t) h in
    ap (run (at_tree [])) (sym (append-nil (tree_text t))) ∙ runs_tree t [] [] p.1 p.0

pub begins_from_run : (bytes : List ℕ) (s : Cut) → run (at_tree []) bytes ≡ Ok s → BeginsTree bytes
begins_from_run bytes s h =
    let g = run_grows bytes (at_tree []) s tt h in
    let c = completes s g.1 in
    let all = is_text (bytes ++ c.rest) c.tree (run_on bytes c.rest (at_tree []) s h ∙ c.ends) in
    record { tree = c.tree; rest = c.rest; is = all.1; text = all.0 }

pub run_from_begins : (bytes : List ℕ) → BeginsTree bytes → (s : Cut) × (run (at_tree []) bytes ≡ Ok s)
run_from_begins bytes b =
    let f = run_front bytes b.rest (at_tree []) (whole b.tree) (ap (run (at_tree [])) b.text ∙ reads_text b.tree b.is) in
    (f.0, f.1)

-- ---- all of a text

read_ok : (bytes : List ℕ) (s : Cut) (t : Bet) → read s bytes ≡ Ok t → run s bytes ≡ Ok (whole t)
read_ok [] s t h = ap (λ (x : Cut). reached x) (ended_is s t h)
  where
    ended_is : (s : Cut) (t : Bet) → ended s ≡ Ok t → s ≡ whole t
    ended_is (whole u) t h = cc
    ended_is (at_tree outer) t h = absurd cc
    ended_is (at_bracket p outer) t h = absurd cc
    ended_is (at_letter p ms outer) t h = absurd cc
    ended_is (at_chips o outer) t h = absurd cc
    ended_is (at_next p ms outer) t h = absurd cc
read_ok (b ∷ bytes) s t h = ok_behind b bytes t (λ x go. read_ok bytes x t go) (step s b) h
  where
    ok_behind : (b : ℕ) (bytes : List ℕ) (t : Bet) → ((x : Cut) → read x bytes ≡ Ok t → run x bytes ≡ Ok (whole t))
        → (r : Result Cut Mistake) → step_then r (λ x. read x bytes) (b ∷ bytes) ≡ Ok t → step_then r (λ x. run x bytes) (b ∷ bytes) ≡ Ok (whole t)
    ok_behind b bytes t go (Ok x) h = go x h
    ok_behind b bytes t go (Err m) h = absurd cc

read_from_run : (bytes : List ℕ) (s next : Cut) → run s bytes ≡ Ok next → read s bytes ≡ ended next
read_from_run [] s next h = ap ended (reached-is s next h)
read_from_run (b ∷ bytes) s next h = from_behind b bytes next (λ x go. read_from_run bytes x next go) (step s b) h
  where
    from_behind : (b : ℕ) (bytes : List ℕ) (next : Cut) → ((x : Cut) → run x bytes ≡ Ok next → read x bytes ≡ ended next)
        → (r : Result Cut Mistake) → step_then r (λ x. run x bytes) (b ∷ bytes) ≡ Ok next → step_then r (λ x. read x bytes) (b ∷ bytes) ≡ ended next
    from_behind b bytes next go (Ok x) h = go x h
    from_behind b bytes next go (Err m) h = absurd cc

-- the text ends at this cut too early, or its next byte cannot stand there
abbrev pub Stuck : Cut → List ℕ → Mistake → Type 0
Stuck s [] m = m ≡ Syntax
Stuck s (b ∷ rest) m = step s b ≡ Err m

pub record Stops (s : Cut) (bytes : List ℕ) (m : Mistake) (rest : List ℕ) : Type 0 where
  pub front : List ℕ
  pub place : Cut
  pub text : bytes ≡ front ++ rest
  pub run_to : run s front ≡ Ok place
  pub stuck : Stuck place rest m

abbrev failed : Mistake × List ℕ → Result Bet (Mistake × List ℕ)
failed e = Err e

err_is : (e f : Mistake × List ℕ) → failed e ≡ failed f → e ≡ f
err_is e f h = cc

failed_is : (m n : Mistake) (rest more : List ℕ) → failed (m, rest) ≡ failed (n, more) → (m ≡ n) × (rest ≡ more)
failed_is m n rest more h =
    let e = err_is (m, rest) (n, more) h in
    (ap (λ (x : Mistake × List ℕ). x.0) e, ap (λ (x : Mistake × List ℕ). x.1) e)

ended_err : (s : Cut) (m : Mistake) (rest : List ℕ) → ended s ≡ Err (m, rest) → (Syntax ≡ m) × ([] ≡ rest)
ended_err (whole u) m rest h = absurd cc
ended_err (at_tree outer) m rest h = failed_is Syntax m [] rest h
ended_err (at_bracket p outer) m rest h = failed_is Syntax m [] rest h
ended_err (at_letter p ms outer) m rest h = failed_is Syntax m [] rest h
ended_err (at_chips o outer) m rest h = failed_is Syntax m [] rest h
ended_err (at_next p ms outer) m rest h = failed_is Syntax m [] rest h

here : (s : Cut) (bytes : List ℕ) (n m : Mistake) (rest : List ℕ) → Stuck s bytes n → (n ≡ m) × (bytes ≡ rest) → Stops s bytes m rest
here s bytes n m rest stuck e =
    let at_n : Stops s bytes n bytes = record { front = []; place = s; text = refl; run_to = refl; stuck = stuck } in
    subst (λ (x : Mistake). Stops s bytes x rest) e.0 (subst (Stops s bytes n) e.1 at_n)

err_behind : (s : Cut) (b : ℕ) (bytes : List ℕ) (m : Mistake) (rest : List ℕ) → ((x : Cut) → read x bytes ≡ Err (m, rest) → Stops x bytes m rest)
    → (r : Result Cut Mistake) → step s b ≡ r → step_then r (λ x. read x bytes) (b ∷ bytes) ≡ Err (m, rest) → Stops s (b ∷ bytes) m rest
err_behind s b bytes m rest go (Ok x) e h =
    let f = go x h in
    record { front = b ∷ f.front; place = f.place; text = ap (λ (t : List ℕ). b ∷ t) f.text; run_to = rw e f.run_to; stuck = f.stuck }
err_behind s b bytes m rest go (Err n) e h = here s (b ∷ bytes) n m rest e (failed_is n m (b ∷ bytes) rest h)

read_err : (bytes : List ℕ) (s : Cut) (m : Mistake) (rest : List ℕ) → read s bytes ≡ Err (m, rest) → Stops s bytes m rest
read_err [] s m rest h = let e = ended_err s m rest h in here s [] Syntax m rest refl e
read_err (b ∷ bytes) s m rest h = err_behind s b bytes m rest (λ x go. read_err bytes x m rest go) (step s b) refl h

-- ---- which mistake

abbrev ErrAnd : (Mistake → Type 0) → Result Cut Mistake → Type 0
ErrAnd P (Ok s) = Unit {0}
ErrAnd P (Err m) = P m

at_most_16 : (outer : List Open) → AreOpen outer → length outer ≤ 16
at_most_16 [] h = omega arith
at_most_16 (o ∷ outer) h = omega (arith, h.0.act.depth)

named : (s : Cut) (b : ℕ) → IsCut s → ErrAnd (λ m. m ≡ mistake_at s (Some b)) (step s b)
named (at_tree outer) b h =
    elim (cases_Bool (eqb b 61)) [
      | inl e ↦ rw e tt
      | inr e ↦ elim (cases_Bool (eqb b 33 && is_inside outer)) [
        | inl f ↦ rw (e, f) tt
        | inr f ↦ elim (cases_Bool (eqb b 49 || eqb b 50)) [
          | inl g ↦ elim (cases_lt (length outer) 16) [
            | inl k ↦ rw (e, f, g, lt-ltb (length outer) 16 k) tt
            | inr k ↦ let full : length outer ≡ 16 = omega (arith, at_most_16 outer h) in rw (e, f, g, le-ltb (length outer) 16 k, full) refl
          ]
          | inr g ↦ rw (e, f, g) refl
        ]
      ]
    ]
named (at_bracket p outer) b h = elim (cases_Bool (eqb b 91)) [ inl e ↦ rw e tt | inr e ↦ rw e refl ]
named (at_letter p ms outer) b h =
    elim (cases_Bool (is_letter b)) [
      | inl e ↦ elim (cases_Bool (has_letter ms b)) [ inl f ↦ rw (e, f) refl | inr f ↦ rw (e, f) tt ]
      | inr e ↦ rw e refl
    ]
named (at_chips o outer) b h =
    elim (cases_Bool (eqb b 58)) [ inl e ↦ rw e tt | inr e ↦ elim (cases_Bool (goes_on o.chips b)) [ inl f ↦ rw (e, f) tt | inr f ↦ rw (e, f) refl ] ]
named (at_next p ms outer) b h =
    elim (cases_Bool (eqb b 93)) [
      | inl e ↦ rw e tt
      | inr e ↦ elim (cases_Bool (eqb b 44 && ltb (count ms) 26))
          [ inl f ↦ rw (e, f) tt | inr f ↦ rw (e, f) refl ]
    ]
named (whole t) b h = refl

at_end : (s : Cut) → Syntax ≡ mistake_at s None
at_end (at_tree outer) = refl
at_end (at_bracket p outer) = refl
at_end (at_letter p ms outer) = refl
at_end (at_chips o outer) = refl
at_end (at_next p ms outer) = refl
at_end (whole t) = refl

stuck_named : (s : Cut) (rest : List ℕ) (m : Mistake) → IsCut s → Stuck s rest m → m ≡ mistake_at s (slice_get rest 0)
stuck_named s [] m h stuck = stuck ∙ at_end s
stuck_named s (b ∷ rest) m h stuck = subst (ErrAnd (λ n. n ≡ mistake_at s (Some b))) stuck (named s b h)

get_seam : (front rest : List ℕ) → slice_get (front ++ rest) (length front) ≡ slice_get rest 0
get_seam [] rest = refl
get_seam (b ∷ front) rest = get_seam front rest

-- ---- the longest prefix

stuck_ends : (front : List ℕ) (place : Cut) (b : ℕ) (rest : List ℕ) (m : Mistake) → run (at_tree []) front ≡ Ok place → step place b ≡ Err m
    → BeginsTree (front ++ (b ∷ rest)) → ⊥
stuck_ends front place b rest m to stuck begins =
    let r = run_from_begins (front ++ (b ∷ rest)) begins in
    let e : run place (b ∷ rest) ≡ Ok r.0 = sym (run_on front (b ∷ rest) (at_tree []) place to) ∙ r.1 in
    absurd (not_both r.0 m (b ∷ rest) (sym e ∙ rw stuck refl))
  where
    not_both : (s : Cut) (m : Mistake) (rest : List ℕ) → reached s ≡ Err (m, rest) → ⊥
    not_both s m rest h = absurd cc

not_longer : (front rest : List ℕ) (place : Cut) (m : Mistake) → run (at_tree []) front ≡ Ok place → Stuck place rest m → (k : ℕ) → 0 < k → k ≤ length rest
    → BeginsTree (front ++ take k rest) → ⊥
not_longer front [] place m to stuck k some within begins = absurd (omega arith)
not_longer front (b ∷ rest) place m to stuck zero some within begins = absurd (omega arith)
not_longer front (b ∷ rest) place m to stuck (suc k) some within begins = stuck_ends front place b (take k rest) m to stuck begins

longest : (front rest : List ℕ) (place : Cut) (m : Mistake) → run (at_tree []) front ≡ Ok place → Stuck place rest m
    → IsLongest (front ++ rest) (length front)
longest front rest place m to stuck = record {
  within = omega (arith, length-append front rest);
  begins = rw take-append_seam (begins_from_run front place to);
  longest = λ n more within begins.
      let k : length front + (n - length front) ≡ n = omega arith in
      let cut : take n (front ++ rest) ≡ front ++ take (n - length front) rest =
      ap (λ (i : ℕ). take i (front ++ rest)) (sym k) ∙ take-append-add front rest (n - length front) in
      not_longer front rest place m to stuck (n - length front) (omega arith) (omega (arith, length-append front rest)) (rw cut at begins);
}

-- what reading gives where it fails
pub is_mistake : (text : List ℕ) (m : Mistake) (rest : List ℕ) → read (at_tree []) text ≡ Err (m, rest) → IsMistake text (length text - length rest) m
is_mistake text m rest h =
    let f = read_err text (at_tree []) m rest h in
    let at : length text - length rest ≡ length f.front = omega (arith, ap (length {A = ℕ}) f.text, length-append f.front rest) in
    let is : IsCut f.place = (run_grows f.front (at_tree []) f.place tt f.run_to).1 in
    let there : IsMistake (f.front ++ rest) (length f.front) m = record {
      longest = longest f.front rest f.place m f.run_to f.stuck;
      place = f.place;
      is = is;
      reached = rw take-append_seam (run_grows f.front (at_tree []) f.place tt f.run_to).0;
      mistake = rw get_seam (stuck_named f.place rest m is f.stuck);
    } in
    rw at (subst (λ (t : List ℕ). IsMistake t (length f.front) m) (sym f.text) there)

pub is_read : (text : List ℕ) (t : Bet) → read (at_tree []) text ≡ Ok t → (text ≡ tree_text t) × IsTrue (is_tree t)
is_read text t h = is_text text t (read_ok text (at_tree []) t h)

pub reads : (t : Bet) → IsTrue (is_tree t) → read (at_tree []) (tree_text t) ≡ Ok t
reads t h = read_from_run (tree_text t) (at_tree []) (whole t) (reads_text t h)

pub left_within : (text : List ℕ) (m : Mistake) (rest : List ℕ) → read (at_tree []) text ≡ Err (m, rest) → length rest ≤ length text
left_within text m rest h = let f = read_err text (at_tree []) m rest h in omega (arith, ap (length {A = ℕ}) f.text, length-append f.front rest)

-- ---- a cut's text leads to the cut

behind_open : (outer : List Open) (tail : List ℕ) (s : Cut) → run (at_tree []) (open_text outer) ≡ Ok (at_tree outer) → run (at_tree outer) tail ≡ Ok s
    → run (at_tree []) (open_text outer ++ tail) ≡ Ok s
behind_open outer tail s open_is h = run_on (open_text outer) tail (at_tree []) (at_tree outer) open_is ∙ h

open_runs : (outer : List Open) → AreOpen outer → run (at_tree []) (open_text outer) ≡ Ok (at_tree outer)
open_runs [] h = refl
open_runs (o ∷ outer) h =
    let text : act_front o.player o.moves ++ (o.letter ∷ (chips_text o.chips ++ 58 ∷ []))
    ≡ (act_front o.player o.moves ++ (o.letter ∷ chips_text o.chips)) ++ 58 ∷ [] =
    sym (append_assoc (act_front o.player o.moves) (o.letter ∷ chips_text o.chips) (58 ∷ [])) in
    behind_open outer (act_front o.player o.moves ++ (o.letter ∷ (chips_text o.chips ++ 58 ∷ []))) (at_tree (o ∷ outer)) (open_runs outer h.1)
    (ap (run (at_tree outer)) text ∙ runs_to_chips o outer (58 ∷ []) h.0)

-- up to the end of a text
to_end : (s : Cut) (text : List ℕ) (u : Cut) → run s (text ++ []) ≡ run u [] → run s text ≡ Ok u
to_end s text u h = ap (run s) (sym (append-nil text)) ∙ h

pub cut_runs : (s : Cut) → IsCut s → run (at_tree []) (cut_text s) ≡ Ok s
cut_runs (at_tree outer) h = open_runs outer h
cut_runs (at_bracket p outer) h =
    let one : run (at_tree outer) ((48 + p) ∷ []) ≡ Ok (at_bracket p outer) =
    elim (player_cases p h.0.player) [ inl e ↦ rw (e, lt-ltb (length outer) 16 h.0.depth) refl | inr e ↦ rw (e, lt-ltb (length outer) 16 h.0.depth) refl ]
    in
    behind_open outer ((48 + p) ∷ []) (at_bracket p outer) (open_runs outer h.1) one
cut_runs (at_letter p ms outer) h = behind_open outer (act_front p ms) (at_letter p ms outer) (open_runs outer h.2)
    (to_end (at_tree outer) (act_front p ms) (at_letter p ms outer) (runs_to_letter ms p outer [] h.0 h.1))
cut_runs (at_chips o outer) h =
    behind_open outer (act_front o.player o.moves ++ (o.letter ∷ chips_text o.chips)) (at_chips o outer) (open_runs outer h.1)
    (to_end (at_tree outer) (act_front o.player o.moves ++ (o.letter ∷ chips_text o.chips)) (at_chips o outer) (runs_to_chips o outer [] h.0))
cut_runs (at_next p ms outer) h =
    behind_open outer ((48 + p) ∷ moves_text 91 ms) (at_next p ms outer) (open_runs outer h.2)
    (to_end (at_tree outer) ((48 + p) ∷ moves_text 91 ms) (at_next p ms outer) (runs_act ms p outer [] h.0.depth h.0.player h.1 h.0.moves))
cut_runs (whole t) h = reads_text t h

-- a text is the text of one cut
pub one_cut : (s u : Cut) → IsCut s → IsCut u → cut_text s ≡ cut_text u → s ≡ u
one_cut s u is_s is_u e = reached-is s u (sym (cut_runs s is_s) ∙ ap (run (at_tree [])) e ∙ cut_runs u is_u)

-- what begins a tree's text is the text of a cut
pub cut_of : (bytes : List ℕ) → BeginsTree bytes → (s : Cut) × IsCut s × (cut_text s ≡ bytes)
cut_of bytes b =
    let r = run_from_begins bytes b in
    let g = run_grows bytes (at_tree []) r.0 tt r.1 in
    (r.0, g.1, g.0)

-- and each cut's text begins a tree's text
pub cut_begins : (s : Cut) → IsCut s → BeginsTree (cut_text s)
cut_begins s h = begins_from_run (cut_text s) s (cut_runs s h)
