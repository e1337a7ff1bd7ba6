-- Class totals and worths as lists of lines: their places, and what one that is written changes.
use Rattle.std.proofs.Common.{◌≡◌, ◌≢◌, ℕ, ◌+◌, ◌-◌, ◌*◌, ◌<◌, ◌≤◌, List, length, set, refl, sym, ap, ◌∙◌, arith, ⊎_elim, get_or-set_other, get_or-set_same}
use Rattle.std.specs.Prelude.{ℤ, ◌+ℤ◌}
use Rattle.std.proofs.{lemmas.Bool.{cases_eq, cases_lt}, Math.Nat.{mul-le-mul_right}}
use Rattle.gs_model.specs.{BestAnswers.{Values}, Classes.{ClassLists, IsClass}, Frame.{Frame, leads_to, move_count, point_count, round_of}}
use Rattle.gs_model.specs.{FrameFacts.{IsInside, IsWalked}, Positions.{Target, at_end, at_point}}
use Rattle.gs_best.specs.{Tables.{classes_at, moves_of, start_of}, ClassTotals.{earlier_class, total_worth}}
use Rattle.gs_best.proofs.{Placed.{row_later, row_start}, PointStarts.{place_before}}
use Rattle.gs_play.specs.{Lines.{flat, line_at, wrapped}, Plots.{cell_place, worth_place, worth_start}, Tallies.{HasTallyRoom, HasWorths, part_table}}
use Rattle.gs_play.specs.{declared.line.Line.{Line}, declared.tally.Tally.{Tally}}
use Rattle.gs_play.proofs.{OneWay.{one_way}, Settling.{IsChanged, fed_elsewhere, fed_here}, Wrapped.{wrapped_sum}}

-- ---- places

pub record IsOnePlace (q j p i : ℕ) : Type 0 where
  pub row : q ≡ p
  pub place : j ≡ i

pub one_place : (width : ℕ → ℕ) (q j p i : ℕ) → j < width q → i < width p → row_start width q + j ≡ row_start width p + i → IsOnePlace q j p i
one_place width q j p i lj li e = ⊎_elim
    (λ (same : q ≡ p). record { row = same; place = (let g : row_start width q ≡ row_start width p = ap (row_start width) same in omega (arith, e, g)) })
    (λ (other : q ≡ p → ⊥). ⊎_elim
    (λ (less : q < p). absurd (let n = row_later width q (row_start width q) (width q) p refl refl less in omega (arith, n, lj, e)))
    (λ (from : p ≤ q). absurd (let n = row_later width p (row_start width p) (width p) q refl refl (omega (arith, from, other)) in omega (arith, n, li, e)))
    (cases_lt q p))
    (cases_eq q p)

-- a class and a move of a row by its place
pub one_move : (n a m b k : ℕ) → m < n → k < n → a * n + m ≡ b * n + k → IsOnePlace a m b k
one_move n a m b k lm lk e = ⊎_elim
    (λ (same : a ≡ b). record { row = same; place = (let g : a * n ≡ b * n = ap (λ i. i * n) same in omega (arith, e, g)) })
    (λ (other : a ≡ b → ⊥). ⊎_elim
    (λ (less : a < b). absurd (let g : (a + 1) * n ≤ b * n = mul-le-mul_right n (omega (arith, less)) in omega (arith, g, lm, e)))
    (λ (from : b ≤ a). absurd (let g : (b + 1) * n ≤ a * n = mul-le-mul_right n (omega (arith, from, other)) in omega (arith, g, lk, e)))
    (cases_lt a b))
    (cases_eq a b)

within_row : (n a count m : ℕ) → a < count → m < n → a * n + m < count * n
within_row n a count m l lm = let g : (a + 1) * n ≤ count * n = mul-le-mul_right n (omega (arith, l)) in omega (arith, g, lm)

module _ (f : Frame) (lists : ClassLists) where
  -- a point and a class by their cell
  pub cell_one : (q c p e : ℕ) → IsClass lists (round_of f (at_point q)) c → IsClass lists (round_of f (at_point p)) e
      → cell_place f lists q c ≡ cell_place f lists p e → IsOnePlace q c p e
  cell_one q c p e lc le same =
      let o = one_place (classes_at f lists) q (c - 1) p (e - 1) (omega (arith, lc.0, lc.1)) (omega (arith, le.0, le.1)) same in
      record { row = o.row; place = omega (arith, lc.0, le.0, o.place) }

  pub cells_apart : (q c p e : ℕ) → IsClass lists (round_of f (at_point q)) c → IsClass lists (round_of f (at_point p)) e → (q ≡ p → c ≡ e → ⊥)
      → cell_place f lists q c ≢ cell_place f lists p e
  cells_apart q c p e lc le other same = (let o = cell_one q c p e lc le same in other o.row o.place)

  worths_apart : (q c m p e l : ℕ) → IsClass lists (round_of f (at_point q)) c → IsClass lists (round_of f (at_point p)) e → m < move_count f q
      → l < move_count f p
      → (q ≡ p → c ≡ e → m ≡ l → ⊥) → worth_place f lists q c m ≢ worth_place f lists p e l
  worths_apart q c m p e l lc le lm ll other same =
      let o = one_place (λ i. classes_at f lists i * move_count f i) q ((c - 1) * move_count f q + m) p ((e - 1) * move_count f p + l)
      (within_row (move_count f q) (c - 1) (classes_at f lists q) m (omega (arith, lc.0, lc.1)) lm)
      (within_row (move_count f p) (e - 1) (classes_at f lists p) l (omega (arith, le.0, le.1)) ll) same in
      let moves : move_count f p ≡ move_count f q = ap (move_count f) (sym o.row) in
      let here : (c - 1) * move_count f q + m ≡ (e - 1) * move_count f q + l = o.place ∙ ap (λ n. (e - 1) * n + l) moves in
      let w = one_move (move_count f q) (c - 1) m (e - 1) l lm (omega (arith, ll, moves)) here in
      other o.row (omega (arith, lc.0, le.0, w.row)) w.place

  -- the worths of a class of a point stand before those of a later point
  pub worths_before : (q c later : ℕ) → IsClass lists (round_of f (at_point q)) c → q < later
      → worth_place f lists q c 0 + move_count f q ≤ worth_start f lists later
  worths_before q c later lc l =
      let n = move_count f q in
      let up : (c - 1 + 1) * n ≤ classes_at f lists q * n = mul-le-mul_right n (omega (arith, lc.0, lc.1)) in
      let in_all = row_later (λ p. classes_at f lists p * move_count f p) q (worth_start f lists q) (classes_at f lists q * n) later refl refl l in
      omega (arith, up, in_all)

  pub worth_before : (q c m later : ℕ) → IsClass lists (round_of f (at_point q)) c → m < move_count f q → q < later
      → worth_place f lists q c m < worth_start f lists later
  worth_before q c m later lc lm l = omega (arith, worths_before q c later lc l, lm)

  -- the place of a worth is inside
  pub worth_inside : (q c m : ℕ) (t : Tally) → q < point_count f → IsClass lists (round_of f (at_point q)) c → m < move_count f q → HasTallyRoom f lists t
      → worth_place f lists q c m < length t.worths.items
  worth_inside q c m t lq lc lm room = omega (arith, worth_before q c m (point_count f) lc lm lq, room.worths)

  -- and so is the place of a cell
  pub cell_inside : (q c : ℕ) (t : Tally) → q < point_count f → IsClass lists (round_of f (at_point q)) c
      → length t.dues.turns.items ≡ start_of f lists (point_count f) → cell_place f lists q c < length t.dues.turns.items
  cell_inside q c t lq lc long = omega (arith, place_before f lists q c (point_count f) lc lq, long)

  -- what a cell has in a list, when another cell is written
  pub other_cell : (xs ys : List ℕ) (q c v p e : ℕ) → ys ≡ set xs (cell_place f lists q c) v → IsClass lists (round_of f (at_point q)) c
      → IsClass lists (round_of f (at_point p)) e → (p ≡ q → e ≡ c → ⊥) → moves_of f lists ys p e ≡ moves_of f lists xs p e
  other_cell xs ys q c v p e is lc le apart =
      ap (λ zs. moves_of f lists zs p e) is
      ∙ get_or-set_other xs (cell_place f lists q c) (cell_place f lists p e) v 0 (cells_apart p e q c le lc apart)

  -- ---- a class total that is written

  pub changed_table : (part : Line → ℤ) (ends : ℕ → ℕ → ℤ) (lines : List Line) (q c : ℕ) (x : Line) (more : ℤ) → IsClass lists (round_of f (at_point q)) c
      → cell_place f lists q c < length lines → part x ≡ part (line_at lines (cell_place f lists q c)) +ℤ more
      → IsChanged f lists (part_table f lists part ends lines) (part_table f lists part ends (set lines (cell_place f lists q c) x)) (at_point q) c more
  changed_table part ends lines q c x more lc inside is = record {
    here = ap part (get_or-set_same lines (cell_place f lists q c) x flat inside) ∙ is;
    elsewhere = other;
  }
    where
      other : (t : Target) (e : ℕ) → IsInside f t → IsClass lists (round_of f t) e → (t ≡ at_point q → e ≡ c → ⊥)
          → part_table f lists part ends (set lines (cell_place f lists q c) x) t e ≡ part_table f lists part ends lines t e
      other (at_point p) e lt le apart =
          ap part (get_or-set_other lines (cell_place f lists q c) (cell_place f lists p e) x flat (cells_apart p e q c le lc (λ s i. apart (ap at_point s) i)))
      other (at_end z) e lt le apart = refl

  -- ---- and what it counts for

  module _ (player : ℕ) (walked : IsWalked f player) (part : Line → ℤ) (v w : Values) (g : Target) (e : ℕ) (more : ℤ) (inside : IsInside f g)
      (le : IsClass lists (round_of f g) e) (changed : IsChanged f lists v w g e more) (worths : List Line) (has : HasWorths f lists part v worths) where
    -- at the worth of the move that leads there, to the class above. Wrapping around on the way changes nothing
    pub worths_fed : (q m : ℕ) → q < point_count f → m < move_count f q → leads_to f q m ≡ g
        → let up = earlier_class f lists (round_of f g) (round_of f (at_point q)) e in IsClass lists (round_of f (at_point q)) up
        → worth_place f lists q up m < length worths → (x : Line) (by : ℤ) → wrapped by ≡ wrapped more
        → part x ≡ wrapped (part (line_at worths (worth_place f lists q up m)) +ℤ by)
        → HasWorths f lists part w (set worths (worth_place f lists q up m) x)
    worths_fed q m lq lm leads lup room x by wraps is p c k lp lc lk =
        let up = earlier_class f lists (round_of f g) (round_of f (at_point q)) e in
        let place = worth_place f lists q up m in
        let kept : (p ≡ q → c ≡ up → k ≡ m → ⊥) → part (line_at (set worths place x) (worth_place f lists p c k)) ≡ wrapped
        (total_worth f lists w p k c) = λ apart.
        ap part (get_or-set_other worths place (worth_place f lists p c k) x flat (worths_apart p c k q up m lc lup lk lm apart)) ∙ has p c k lp lc lk
        ∙ ap wrapped (sym (fed_elsewhere f lists v w g e more changed p k c (walked.inside p k lp lk)
        (λ to above. let o = one_way f player walked p k q m lp lq lk lm (to ∙ sym leads) in
        apart o.point (sym above ∙ ap (λ i. earlier_class f lists (round_of f g) (round_of f (at_point i)) e) o.point) o.choice))) in
        ⊎_elim
        (λ (sp : p ≡ q). ⊎_elim
        (λ (sc : c ≡ up). ⊎_elim
        (λ (sk : k ≡ m).
        let at_place : worth_place f lists p c k ≡ place = ap (λ i. worth_place f lists i c k) sp ∙ ap (λ i. worth_place f lists q i k) sc
        ∙ ap (λ i. worth_place f lists q up i) sk in
        let worth_is : total_worth f lists w p k c ≡ total_worth f lists w q m up = ap (λ i. total_worth f lists w i k c) sp
        ∙ ap (λ i. total_worth f lists w q k i) sc
        ∙ ap (λ i. total_worth f lists w q i up) sk in
        ap (λ i. part (line_at (set worths place x) i)) at_place ∙ ap part (get_or-set_same worths place x flat room) ∙ is
        ∙ wrapped_sum (part (line_at worths place)) (total_worth f lists v q m up) by more (has q up m lq lup lm) wraps
        ∙ ap wrapped (sym (fed_here f lists v w g e more changed q m leads inside le) ∙ sym worth_is))
        (λ (no_k : k ≡ m → ⊥). kept (λ a b d. no_k d))
        (cases_eq k m))
        (λ (no_c : c ≡ up → ⊥). kept (λ a b d. no_c b))
        (cases_eq c up))
        (λ (no_p : p ≡ q → ⊥). kept (λ a b d. no_p a))
        (cases_eq p q)

    -- where no move leads there, it counts for nothing
    pub worths_stay : ((q m : ℕ) → q < point_count f → m < move_count f q → leads_to f q m ≡ g → ⊥) → HasWorths f lists part w worths
    worths_stay none q c m lq lc lm =
        has q c m lq lc lm ∙ ap wrapped (sym (fed_elsewhere f lists v w g e more changed q m c (walked.inside q m lq lm) (λ to above. none q m lq lm to)))
