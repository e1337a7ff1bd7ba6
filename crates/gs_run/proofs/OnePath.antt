-- What `path` says is one.
use Rattle.std.proofs.Common.{◌≡◌, ℕ, suc, ◌+◌, ◌<◌, ◌++◌, List, [], ◌∷◌, length, slice_index_or, codes, ℤ, pos, ◌*ℤ◌, ◌<ℤ◌, refl, sym, ap, ◌∙◌, subst, arith}
use Rattle.std.specs.Fmt.{decimal}
use Rattle.gs_frac.specs.{Texts.{number_line}, declared.value.Fraction.{Fraction}}
use Rattle.gs_file.specs.{Reading.{file_rules}, declared.version.Version.TheVariants.{Two}}
use Rattle.gs_model.proofs.{Ranges.{in_range}, Walked.{walked_one, walked_two}}
use Rattle.gs_reply.specs.{Refusals.{Refusal}, Replies.{Reply, Prints, Refuses}}
use Rattle.gs_simplex.proofs.{Agree.{Agree, enters_same, leaves_same, lists_same, paths_agree}, OneStop.{stops_agree}, Opening.{path_trail}}
use Rattle.gs_simplex.specs.{Path.{IsPath, IsPivot, Leaves, States, Stops, ends}, Program.{IsOpening, IsRowsOf, Listing}, declared.program.Program.{Program}}
use Rattle.gs_simplex.specs.{Trace.{IsAimValue, IsShown, IsShownOf}, declared.answer.Path.{Path}, declared.answer.Turn.{Turn}}
use Rattle.gs_game_commands.specs.{Paths.{ShowsPath, path_text, turn_line, turn_lines}, Settling.{Settles}}
use Rattle.gs_solve.specs.Solutions.{most_pivots}
use Rattle.gs_strategy.specs.{Values.{file_frame}, Views.{parts_of}}
use Rattle.gs_words.specs.declared.request.Grouping.{Grouping}
use Rattle.gs_file.proofs.Dealt.{told_playable}
use Rattle.gs_run.proofs.{OneProgram.{Same, SameParts, ratio_one, stop_over}, OneSettled.{SaysOne, settles_one}}
use Rattle.gs_run.proofs.OneSolve.{ended_or_stopped, path_one, stopped_one}

-- ---- one path

same_ends : (n m : ℕ) (l k : Listing) → ends n l ≡ ends m k → n ≡ m
same_ends n m l k e = cc

-- at a step the same columns enter and leave
pub record SameTurn (e f c d : ℕ) : Type 0 where
  pub enters : e ≡ f
  pub leaves : c ≡ d

turn_one : (p : Program) (o : Listing) (t u : ℕ) (x y : States) → IsOpening p o → IsPath p o t x → IsPath p o u y → (d : ℕ) → length o + d < t
    → length o + d < u → SameTurn (x.entering (length o + d)) (y.entering (length o + d)) (x.leaving (length o + d)) (y.leaving (length o + d))
turn_one p o t u x y ok h g d lt lu =
    let k = length o + d in
    let same = lists_same ok h g d (omega arith) (omega arith) in
    let agree = paths_agree ok h g d (omega arith) (omega arith) in
    let full = (path_trail ok h d (omega arith)).0 in
    let one = h.pivots k (omega arith) lt in
    let two : IsPivot p (x.lists k) (y.rows k) (y.aim k) (y.lists (suc k)) (y.entering k) (y.leaving k) =
    subst (λ (l : Listing). IsPivot p l (y.rows k) (y.aim k) (y.lists (suc k)) (y.entering k) (y.leaving k)) (sym same) (g.pivots k (omega arith) lu) in
    let e = enters_same agree one.enters two.enters in
    let leaves : Leaves p (x.lists k) (y.rows k) (x.entering k) two.place.1 (y.leaving k) =
    subst (λ (i : ℕ). Leaves p (x.lists k) (y.rows k) i two.place.1 (y.leaving k)) (sym e) two.place.4 in
    let rc = leaves_same full.is_list one.enters.column agree one.place.4 leaves in
    record { enters = e; leaves = rc.1 }

-- ---- the lines of a path

same_line : (n : ℕ) (a b : Turn) → a.enter ≡ b.enter → a.leave ≡ b.leave → turn_line n a ≡ turn_line n b
same_line n a b e h = line n a.enter b.enter a.leave b.leave e h
  where
    line : (n e f c d : ℕ) → e ≡ f → c ≡ d → decimal n ++ codes " enters " ++ decimal e ++ codes " leaves " ++ decimal c ++ codes "\n"
        ≡ decimal n ++ codes " enters " ++ decimal f ++ codes " leaves " ++ decimal d ++ codes "\n"
    line n e f c d a b =
        ap (λ (i : ℕ). decimal n ++ codes " enters " ++ decimal i ++ codes " leaves " ++ decimal c ++ codes "\n") a
        ∙ ap (λ (i : ℕ). decimal n ++ codes " enters " ++ decimal f ++ codes " leaves " ++ decimal i ++ codes "\n") b

lines_one : (n : ℕ) (ts us : List Turn) → length ts ≡ length us → ((k : ℕ) (d e : Turn) → k < length ts
    → ((slice_index_or ts k d).enter ≡ (slice_index_or us k e).enter) × ((slice_index_or ts k d).leave ≡ (slice_index_or us k e).leave))
    → turn_lines n ts ≡ turn_lines n us
lines_one n [] [] e h = refl
lines_one n [] (u ∷ us) e h = absurd (omega arith)
lines_one n (t ∷ ts) [] e h = absurd (omega arith)
lines_one n (t ∷ ts) (u ∷ us) e h =
    let here = h 0 t u (omega arith) in
    let rest = lines_one (n + 1) ts us (omega arith) (λ k d f l. h (suc k) d f (omega arith)) in
    ap (λ (l : List ℕ). l ++ turn_lines (n + 1) ts) (same_line (n + 1) t u here.0 here.1) ∙ ap (λ (l : List ℕ). turn_line (n + 1) u ++ l) rest

same_number : (words : List ℕ) (x y : Fraction) → SameParts x y → number_line words (parts_of x) ≡ number_line words (parts_of y)
same_number words x y (e, h) = line words x.num y.num x.den y.den e h
  where
    pair : ℤ → ℤ → ℤ × ℤ
    pair a b = (a, b)

    line : (words : List ℕ) (a b c d : ℤ) → a ≡ b → c ≡ d → number_line words (pair a c) ≡ number_line words (pair b d)
    line words a b c d e h = ap (λ (v : ℤ). number_line words (pair v c)) e ∙ ap (λ (v : ℤ). number_line words (pair b v)) h

value_one : (p : Program) (a b : ℕ → ℤ) (x y : Fraction) → a p.cols ≡ b p.cols → a (p.cols + 1) ≡ b (p.cols + 1) → pos 0 <ℤ a (p.cols + 1) → IsAimValue p a x
    → IsAimValue p b y → SameParts x y
value_one p a b x y e h some one two =
    ratio_one x y (a (p.cols + 1)) (a p.cols) some one (ap (λ v. y.num *ℤ v) h ∙ two ∙ ap (λ v. v *ℤ y.den) (sym e))

text_one : (p : Program) (o : Listing) (n m : ℕ) (l k : Listing) (x y : States) (t u : Path) → IsOpening p o
    → Stops p o most_pivots (length o + n) x (ends n l) → Stops p o most_pivots (length o + m) y (ends m k) → IsShownOf p o n x t → IsShownOf p o m y u
    → path_text t ≡ path_text u
text_one p o n m l k x y t u ok h g a b =
    let count : n ≡ m = same_ends n m l k (stops_agree p o most_pivots (ends n l) (ends m k) ok (record { stops = (length o + n, x, h) })
    (record { stops = (length o + m, y, g) })) in
    let one = h.0.path in
    let two = g.0.path in
    let la = a.turns_long in
    let lb = b.turns_long in
    let first = paths_agree ok one two in
    let begin : length o + 0 ≡ length o = omega arith in
    let start_agree : Agree p (x.rows (length o)) (y.rows (length o)) (x.aim (length o)) (y.aim (length o)) =
    subst (λ (i : ℕ). Agree p (x.rows i) (y.rows i) (x.aim i) (y.aim i)) begin (first 0 (omega arith) (omega arith)) in
    let end_agree = first n (omega arith) (omega arith) in
    let some = λ (i : ℕ) (r : IsRowsOf p (x.lists i) (x.rows i) (x.aim i)). multiple p (x.lists i) (x.rows i) (x.aim i) r in
    let start = value_one p (x.aim (length o)) (y.aim (length o)) t.start u.start (start_agree.aim p.cols (omega arith))
    (start_agree.aim (p.cols + 1) (omega arith)) (some (length o) (one.rows (length o) (omega arith))) a.start b.start in
    let aim_there : IsAimValue p (y.aim (length o + n)) u.aim = subst (λ (i : ℕ). IsAimValue p (y.aim (length o + i)) u.aim) (sym count) b.aim in
    let aim = value_one p (x.aim (length o + n)) (y.aim (length o + n)) t.aim u.aim (end_agree.aim p.cols (omega arith))
    (end_agree.aim (p.cols + 1) (omega arith)) (some (length o + n) (one.rows (length o + n) (omega arith))) a.aim aim_there in
    let turns = lines_one 0 t.turns.items u.turns.items (omega arith) (λ i d e li. (
    let same = turn_one p o (length o + n) (length o + m) x y ok one two i (omega arith) (omega arith) in
    let here = a.turns i (omega arith) d in
    let there = b.turns i (omega arith) e in
    (here.0 ∙ ap (λ (j : ℕ). j + 1) same.enters ∙ sym there.0, here.1 ∙ ap (λ (j : ℕ). j + 1) same.leaves ∙ sym there.1))) in
    let A = number_line (codes "opening") (parts_of t.start) in
    let B = number_line (codes "aim") (parts_of t.aim) in
    ap (λ (v : List ℕ). v ++ turn_lines 0 t.turns.items ++ B) (same_number (codes "opening") t.start u.start start)
    ∙ ap (λ (v : List ℕ). number_line (codes "opening") (parts_of u.start) ++ v ++ B) turns
    ∙ ap (λ (v : List ℕ). number_line (codes "opening") (parts_of u.start) ++ turn_lines 0 u.turns.items ++ v) (same_number (codes "aim") t.aim u.aim aim)
  where
    multiple : (p : Program) (l : Listing) (R : ℕ → ℕ → ℤ) (a : ℕ → ℤ) → IsRowsOf p l R a → pos 0 <ℤ a (p.cols + 1)
    multiple p l R a r = let next : suc p.cols ≡ p.cols + 1 = omega arith in subst (λ (k : ℕ). pos 0 <ℤ a k) next r.aim_row.2.multiple

of_over : (p q : Program) (s : Same p q) (o : Listing) (n : ℕ) (x : States) (t : Path) → IsShownOf p o n x t → IsShownOf q o n x t
of_over p q s o n x t h = record {
  turns_long = h.turns_long;
  turns = h.turns;
  start = subst (λ (c : ℕ). t.start.num *ℤ x.aim (length o) (c + 1) ≡ x.aim (length o) c *ℤ t.start.den) s.cols h.start;
  aim = subst (λ (c : ℕ). t.aim.num *ℤ x.aim (length o + n) (c + 1) ≡ x.aim (length o + n) c *ℤ t.aim.den) s.cols h.aim;
}

-- the path that is shown, of one program and opening and of the other
pub record Shown (p : Program) (o : Listing) (t : Path) : Type 0 where
  pub count : ℕ
  pub list : Listing
  pub at : States
  pub stops : Stops p o most_pivots (length o + count) at (ends count list)
  pub shows : IsShownOf p o count at t

shown_over : (p q : Program) (o l : Listing) (t : Path) → Same p q → o ≡ l → IsShown p o most_pivots t → Shown q l t
shown_over p q o l t s e h =
    let (n, k, x, stops, shows) = h.path in
    subst (λ (i : Listing). Shown q i t) e (record {
      count = n;
      list = k;
      at = x;
      stops = stop_over p q s o most_pivots (length o + n) x (ends n k) stops;
      shows = of_over p q s o n x t shows;
    })

shown_one : (p : Program) (o : Listing) (t u : Path) → IsOpening p o → Shown p o t → IsShown p o most_pivots u → path_text t ≡ path_text u
shown_one p o t u ok h g =
    let (m, k, y, stops, shows) = g.path in
    text_one p o h.count m h.list k h.at y t u ok h.stops stops h.shows shows

-- ---- `path`

shown_path : SaysOne ShowsPath
shown_path g lists (Prints a) (Prints b) t c h i =
    let p = told_playable Two g t in
    let s = path_one (file_frame g) lists (in_range (file_rules g) p) (walked_one (file_rules g) p) (walked_two (file_rules g) p) c h.program
    h.opening i.program
    i.opening h.path i.path in
    let there = shown_over h.program i.program h.opening i.opening h.found s.programs s.openings h.shown in
    let text : a ≡ b = h.printed ∙ shown_one i.program i.opening h.found i.found i.path.opens there i.shown ∙ sym i.printed in
    ap (λ (x : List ℕ). Prints x) text
shown_path g lists (Prints a) (Refuses w) t c h i =
    let p = told_playable Two g t in
    let (n, l, x, stops, shows) = h.shown.path in
    absurd (ended_or_stopped g lists (in_range (file_rules g) p) (walked_one (file_rules g) p) (walked_two (file_rules g) p) c w h.program
    h.opening n l i h.path
    h.shown.small (record { stops = (length h.opening + n, x, stops) }))
shown_path g lists (Refuses v) (Prints b) t c h i =
    let p = told_playable Two g t in
    let (n, l, x, stops, shows) = i.shown.path in
    absurd (ended_or_stopped g lists (in_range (file_rules g) p) (walked_one (file_rules g) p) (walked_two (file_rules g) p) c v i.program
    i.opening n l h i.path
    i.shown.small (record { stops = (length i.opening + n, x, stops) }))
shown_path g lists (Refuses v) (Refuses w) t c h i =
    let p = told_playable Two g t in
    ap (λ (x : Refusal). Refuses x) (stopped_one g lists (in_range (file_rules g) p) (walked_one (file_rules g) p) (walked_two (file_rules g) p) c v w h i)

pub paths_one : (grouping : Grouping) (bytes : List ℕ) (one two : Reply) → Settles ShowsPath grouping bytes one → Settles ShowsPath grouping bytes two
    → one ≡ two
paths_one = settles_one ShowsPath shown_path
