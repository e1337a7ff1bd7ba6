-- Where worths start, how many there are, and the moves that lead to positions.
use Rattle.std.proofs.Common.{◌≡◌, ℕ, ◌+◌, ◌-◌, ◌*◌, ◌^◌, ◌<◌, ◌≤◌, List, length, replicate, get_or, min, max, set, sym, ap, ◌∙◌, subst, arith, cond}
use Rattle.std.proofs.{Common.{⊎_elim, get_or-set_other, get_or-set_same, Option, Some, None, inl, inr}, lemmas.Bool.{cases_eq, cases_lt}}
use Rattle.std.specs.Prelude.{[], ◌∷◌, ◌++◌, ◌⊎◌, option_map}
use Rattle.std.proofs.lemmas.List.{get_or_append_left, get_or_default, get_or_past, get_or_push, get_or-replicate, length-append, length-replicate}
use Rattle.std.proofs.{Math.ListN.{length-set}, Math.Seq.{get_or-append_right}, lemmas.Bool.Decides.{Decides-eqb}}
use Rattle.gs_game.specs.{Seen.{step_of}, declared.positions.Step.{Step as StoredStep}, declared.valid.ValidGame.{ValidGame}}
use Rattle.gs_model.specs.{Classes.{ClassLists}, Frame.{Frame, end_count, last_step, leads_to, move_count, player_at, point_count}, FrameFacts.{IsInside}}
use Rattle.gs_model.specs.Positions.{Step, Target, at_end, at_point}
use Rattle.gs_seq.specs.{Abstracts.{abstract_frame, game_in, lists_of}, Games.{frame_in}, Slots.{slots_at}, declared.form.Abstract.{Abstract}}
use Rattle.gs_seq.proofs.{Forms.{one_or_two}, Points.{players}, SlotLaws.{sum_range_le}}
use Rattle.gs_best.proofs.{Placed.{row_next}, Ranges.{range_add, range_le}}
use Rattle.gs_best.specs.Tables.{classes_at, start_of}
use Rattle.gs_play.proofs.Clear.{same_at}
use Rattle.gs_play.specs.Plots.{AreCells, AreRowsBefore, AreSpans, AreMovesNoted, AreWider, HasEnd, IsCellOf, IsMoveNoted, IsMoveTo, IsRowIn, MatchMove}
use Rattle.gs_play.specs.{Plots.{span_in, way_to, worth_start}, declared.plot.PointRow.{PointRow}, declared.plot.Span.{Span}}

-- ---- worths

abbrev pub worths_wide : Frame → ClassLists → ℕ → ℕ
worths_wide f lists q = classes_at f lists q * move_count f q

-- a point has a worth for each slot of its player there
wide_le : (a : Abstract) (q : ℕ) → q < point_count (abstract_frame a) → worths_wide (abstract_frame a) (lists_of a) q
    ≤ slots_at (abstract_frame a) (lists_of a) 1 q + slots_at (abstract_frame a) (lists_of a) 2 q
wide_le a q l =
    let f = abstract_frame a in
    let n = classes_at f (lists_of a) q in
    ⊎_elim
    (λ (one : player_at f q ≡ 1). omega (arith, ap (λ b. cond b (n * move_count f q) 0) ((Decides-eqb (player_at f q) 1).1 one)))
    (λ (two : player_at f q ≡ 2). omega (arith, ap (λ b. cond b (n * move_count f q) 0) ((Decides-eqb (player_at f q) 2).1 two)))
    (players (game_in a) q l)

-- all worths of a game are few
pub worths_few : (a : Abstract) (q : ℕ) → q ≤ point_count (abstract_frame a) → worth_start (abstract_frame a) (lists_of a) q ≤ 2 ^ 31
worths_few a q l =
    let f = abstract_frame a in
    let lists = lists_of a in
    let n = point_count f in
    let all = range_le (worths_wide f lists) (λ p. slots_at f lists 1 p + slots_at f lists 2 p) n (wide_le a) in
    omega (arith, sum_range_le (worths_wide f lists) q n l, all, range_add (slots_at f lists 1) (slots_at f lists 2) n, a.few.one, a.few.two)

-- the worths of one more point
pub worths_next : (f : Frame) (lists : ClassLists) (q start count : ℕ) → start ≡ worth_start f lists q → count ≡ classes_at f lists q * move_count f q
    → start + count ≡ worth_start f lists (q + 1)
worths_next f lists q start count at e = row_next (worths_wide f lists) q start count at e

-- ---- rows

-- the row of one more point
pub rows_more : (f : Frame) (lists : ClassLists) (rows : List PointRow) (r : PointRow) (q : ℕ) → length rows ≡ q → r.point ≡ q → IsRowIn f lists r
    → AreRowsBefore f lists q rows → AreRowsBefore f lists (q + 1) (rows ++ r ∷ [])
rows_more f lists rows r q long at is all p l =
    let none : PointRow = record { point = 0; player = 0; round = 0; moves = 0; cell = 0; worth = 0 } in
    ⊎_elim
    (λ (before : p < q). subst (λ (x : PointRow). (x.point ≡ p) × IsRowIn f lists x) (sym (get_or_append_left rows (r ∷ []) none p (omega (arith, before, long))))
    (all p before))
    (λ (behind : q ≤ p).
    let e : p ≡ q = omega (arith, l, behind) in
    subst (λ (x : PointRow). (x.point ≡ p) × IsRowIn f lists x) (sym (get_or_push rows r none p (omega (arith, e, long)))) (at ∙ sym e, is))
    (cases_lt p q)

-- ---- cells

-- one more point's cells
pub cells_more : (f : Frame) (lists : ClassLists) (points : List ℕ) (q n : ℕ) → q < point_count f → length points ≡ start_of f lists q
    → n ≡ classes_at f lists q → AreCells f lists points → AreCells f lists (points ++ replicate n q)
cells_more f lists points q n lq long wide all cell l = ⊎_elim
    (λ (before : cell < length points). subst (λ i. IsCellOf f lists i cell) (sym (get_or_append_left points (replicate n q) 0 cell before)) (all cell before))
    (λ (behind : length points ≤ cell).
    let inside : cell - length points < n = omega (arith, behind, l, length-append points (replicate n q), length-replicate n q) in
    let at : get_or (points ++ replicate n q) cell 0 ≡ q =
    get_or-append_right points (replicate n q) cell 0 behind ∙ get_or-replicate n (cell - length points) q 0 inside in
    subst (λ i. IsCellOf f lists i cell) (sym at)
    (record { inside = lq; from = omega (arith, behind, long); below = omega (arith, inside, long, wide, behind) }))
    (cases_lt cell (length points))

-- ---- moves that lead to positions

abbrev number : Target → ℕ
number (at_point i) = i
number (at_end i) = i

abbrev kind : Target → ℕ
kind (at_point i) = 0
kind (at_end i) = 1

-- there is room to note a move at a position
abbrev pub IsRoom : Target → List (Option StoredStep) → List (Option StoredStep) → Type 0
IsRoom (at_point q) points ends = q < length points
IsRoom (at_end z) points ends = z < length ends

-- what is noted at a position after one more move
laid_here : (s : StoredStep) (g : Target) (points ends new_points new_ends : List (Option StoredStep)) → IsMoveNoted s g points ends new_points new_ends
    → IsRoom g points ends → way_to new_points new_ends g ≡ Some s
laid_here s (at_point q) points ends new_points new_ends h room = ap (λ xs. get_or xs q None) h.0 ∙ get_or-set_same points q (Some s) None room
laid_here s (at_end z) points ends new_points new_ends h room = ap (λ xs. get_or xs z None) h.1 ∙ get_or-set_same ends z (Some s) None room

laid_other : (s : StoredStep) (g t : Target) (points ends new_points new_ends : List (Option StoredStep)) → IsMoveNoted s g points ends new_points new_ends
    → (t ≡ g → ⊥) → way_to new_points new_ends t ≡ way_to points ends t
laid_other s (at_point q) (at_point p) points ends new_points new_ends h apart =
    ap (λ xs. get_or xs p None) h.0 ∙ get_or-set_other points q p (Some s) None (λ e. apart (ap at_point e))
laid_other s (at_point q) (at_end z) points ends new_points new_ends h apart = ap (λ xs. get_or xs z None) h.1
laid_other s (at_end z) (at_point p) points ends new_points new_ends h apart = ap (λ xs. get_or xs p None) h.0
laid_other s (at_end z) (at_end y) points ends new_points new_ends h apart =
    ap (λ xs. get_or xs y None) h.1 ∙ get_or-set_other ends z y (Some s) None (λ e. apart (ap at_end e))

same_target : (t g : Target) → (t ≡ g) ⊎ (t ≡ g → ⊥)
same_target (at_point p) (at_point q) = ⊎_elim (λ (e : p ≡ q). inl (ap at_point e)) (λ (n : p ≡ q → ⊥). inr (λ e. n (ap number e))) (cases_eq p q)
same_target (at_point p) (at_end z) = inr (λ e. absurd (let k : kind (at_point p) ≡ kind (at_end z) = ap kind e in omega (arith, k)))
same_target (at_end z) (at_point p) = inr (λ e. absurd (let k : kind (at_end z) ≡ kind (at_point p) = ap kind e in omega (arith, k)))
same_target (at_end z) (at_end y) = ⊎_elim (λ (e : z ≡ y). inl (ap at_end e)) (λ (n : z ≡ y → ⊥). inr (λ e. n (ap number e))) (cases_eq z y)

some_is : (s t : StoredStep) → Some s ≡ Some t → s ≡ t
some_is s t e = cc

one_is : (u v : Step) → Some u ≡ Some v → u ≡ v
one_is u v e = cc

not_none : (o : Option StoredStep) (s : StoredStep) → o ≡ Some s → o ≡ None → ⊥
not_none o s e n = absurd (cc)

module _ (f : Frame) (q m : ℕ) (s : StoredStep) (lq : q < point_count f) (lm : m < move_count f q) (is : step_of s ≡ record { point = q; choice = m })
    (points ends new_points new_ends : List (Option StoredStep)) (room : IsRoom (leads_to f q m) points ends)
    (laid : IsMoveNoted s (leads_to f q m) points ends new_points new_ends) (ways : AreMovesNoted f q m points ends) where
  stays : (t : Target) → (way_to points ends t ≡ None → ⊥) → way_to new_points new_ends t ≡ None → ⊥
  stays t h = ⊎_elim
      (λ (e : t ≡ leads_to f q m). not_none (way_to new_points new_ends t) s
      (ap (way_to new_points new_ends) e ∙ laid_here s (leads_to f q m) points ends new_points new_ends laid room))
      (λ (n : t ≡ leads_to f q m → ⊥). λ none. h (sym (laid_other s (leads_to f q m) t points ends new_points new_ends laid n) ∙ none))
      (same_target t (leads_to f q m))

  -- one more move
  pub ways_more : AreMovesNoted f q (m + 1) new_points new_ends
  ways_more = record {
    leads = λ t u e. ⊎_elim
        (λ (same : t ≡ leads_to f q m).
        let here = laid_here s (leads_to f q m) points ends new_points new_ends laid room in
        let noted = some_is s u (sym here ∙ ap (way_to new_points new_ends) (sym same) ∙ e) in
        let step : record { point = q; choice = m } ≡ step_of u = sym is ∙ ap step_of noted in
        subst (IsMoveTo f t) step (record { inside = lq; choice = lm; leads = sym same }))
        (λ (apart : t ≡ leads_to f q m → ⊥). ways.leads t u (sym (laid_other s (leads_to f q m) t points ends new_points new_ends laid apart) ∙ e))
        (same_target t (leads_to f q m));
    before = λ p l lp ll. stays (leads_to f p l) (ways.before p l lp ll);
    here = λ l ll. ⊎_elim
        (λ (e : l ≡ m). not_none (way_to new_points new_ends (leads_to f q l)) s
        (ap (λ i. way_to new_points new_ends (leads_to f q i)) e ∙ laid_here s (leads_to f q m) points ends new_points new_ends laid room))
        (λ (n : l ≡ m → ⊥). stays (leads_to f q l) (ways.here l (omega (arith, ll, n))))
        (cases_eq l m);
  }

-- all moves of one more point
pub ways_next : (f : Frame) (q n : ℕ) (points ends : List (Option StoredStep)) → move_count f q ≤ n → AreMovesNoted f q n points ends
    → AreMovesNoted f (q + 1) 0 points ends
ways_next f q n points ends all ways = record {
  leads = ways.leads;
  before = λ p l lp ll. ⊎_elim
      (λ (e : p ≡ q). subst (λ i. way_to points ends (leads_to f i l) ≡ None → ⊥) (sym e)
      (ways.here l (let k : move_count f p ≡ move_count f q = ap (move_count f) e in omega (arith, ll, k, all))))
      (λ (n : p ≡ q → ⊥). ways.before p l (omega (arith, lp, n)) ll)
      (cases_eq p q);
  here = λ l ll. absurd (omega (arith, ll));
}

-- none yet
abbrev unset : Option StoredStep
unset = None

pub ways_none : (f : Frame) (n k : ℕ) → AreMovesNoted f 0 0 (replicate n unset) (replicate k unset)
ways_none f n k = record {
  leads = λ t u e. absurd (not_none (way_to (replicate n unset) (replicate k unset) t) u e (none t));
  before = λ p l lp. absurd (omega (arith, lp));
  here = λ l ll. absurd (omega (arith, ll));
}
  where
    none : (t : Target) → way_to (replicate n unset) (replicate k unset) t ≡ None
    none (at_point q) = same_at n q unset
    none (at_end z) = same_at k z unset

-- at last what is noted is right for each position
pub ways_match : (f : Frame) (n : ℕ) (points ends : List (Option StoredStep)) → point_count f ≤ n → AreMovesNoted f n 0 points ends → (t : Target)
    → MatchMove f t (way_to points ends t)
ways_match f n points ends all ways t = record {
  some = λ s is. ways.leads t s is;
  none = λ is q m lq lm leads. ways.before q m (omega (arith, lq, all)) lm (ap (way_to points ends) leads ∙ is);
}

-- there is room for a move that leads inside
pub room_inside : (f : Frame) (t : Target) (points ends : List (Option StoredStep)) → length points ≡ point_count f → length ends ≡ end_count f → IsInside f t
    → IsRoom t points ends
room_inside f (at_point q) points ends many all l = omega (arith, many, l)
room_inside f (at_end z) points ends many all l = omega (arith, all, l)

-- ---- spans

-- a player's last step before an end, as the game of the form has it
pub last_is : (a : Abstract) (player z : ℕ) (g : ValidGame) (made : Option StoredStep) → g ≡ game_in a
    → option_map step_of made ≡ last_step (frame_in g) player (at_end z) → last_step (abstract_frame a) player (at_end z) ≡ option_map step_of made
last_is a player z g made is h = sym (subst (λ v. option_map step_of made ≡ last_step (frame_in v) player (at_end z)) is h)

-- with no step no end is asked for
pub has_none : (f : Frame) (player z : ℕ) (spans : List Span) → last_step f player (at_end z) ≡ None → HasEnd f player z spans
has_none f player z spans none = λ u e. absurd (cc)

-- wider spans have what the spans have
has_wider : (f : Frame) (player z : ℕ) (old new : List Span) → AreWider old new → HasEnd f player z old → HasEnd f player z new
has_wider f player z old new w h = λ u e. (omega (arith, (h u e).0, (w u.point).0), omega (arith, (h u e).1, (w u.point).1))

-- spans stay right where they become wider
pub spans_wider : (f : Frame) (count : ℕ) (old new : List Span) → length new ≡ length old
    → ((q : ℕ) → q < point_count f → (span_in new q).stop ≤ end_count f) → AreWider old new → AreSpans f count old → AreSpans f count new
spans_wider f count old new long within w h = record {
  long = long ∙ h.long;
  within = within;
  all = λ z player l some two. has_wider f player z old new w (h.all z player l some two);
}

-- one more end
pub spans_more : (f : Frame) (z : ℕ) (spans middle : List Span) → AreSpans f z spans → HasEnd f 1 z middle → AreWider middle spans → HasEnd f 2 z spans
    → AreSpans f (z + 1) spans
spans_more f z spans middle h one w two = record {
  long = h.long;
  within = h.within;
  all = λ y player l some few. ⊎_elim
      (λ (e : y ≡ z). subst (λ i. HasEnd f player i spans) (sym e) (⊎_elim
      (λ (first : player ≡ 1). subst (λ i. HasEnd f i z spans) (sym first) (has_wider f 1 z middle spans w one))
      (λ (second : player ≡ 2). subst (λ i. HasEnd f i z spans) (sym second) two)
      (one_or_two player some few)))
      (λ (n : y ≡ z → ⊥). h.all y player (omega (arith, l, n)) some few)
      (cases_eq y z);
}

-- the span of a point, changed
abbrev pub widened : List Span → ℕ → ℕ → ℕ → List Span
widened spans p first stop = set spans p (record { first = first; stop = stop })

-- the span of a point is widened, so that it has one more end
module _ (spans : List Span) (p : ℕ) (d : Span) (first stop z : ℕ) (inside : p < length spans) (low : first ≡ min (get_or spans p d).first z)
    (high : stop ≡ max (get_or spans p d).stop (z + 1)) where
  here : span_in (widened spans p first stop) p ≡ record { first = first; stop = stop }
  here = get_or-set_same spans p (record { first = first; stop = stop }) (record { first = 0; stop = 0 }) inside

  elsewhere : (q : ℕ) → (q ≡ p → ⊥) → span_in (widened spans p first stop) q ≡ span_in spans q
  elsewhere q n = get_or-set_other spans p q (record { first = first; stop = stop }) (record { first = 0; stop = 0 }) n

  was : get_or spans p d ≡ span_in spans p
  was = get_or_default spans p d (record { first = 0; stop = 0 }) inside

  pub widened_wider : AreWider spans (widened spans p first stop)
  widened_wider q = ⊎_elim
      (λ (e : q ≡ p). subst (λ i. ((span_in (widened spans p first stop) i).first ≤ (span_in spans i).first)
      × ((span_in spans i).stop ≤ (span_in (widened spans p first stop) i).stop)) (sym e) (
        omega (arith, ap (λ (x : Span). x.first) here, ap (λ (x : Span). x.first) was, low),
        omega (arith, ap (λ (x : Span). x.stop) here, ap (λ (x : Span). x.stop) was, high),
      ))
      (λ (n : q ≡ p → ⊥). (
        omega (arith, ap (λ (x : Span). x.first) (elsewhere q n)),
        omega (arith, ap (λ (x : Span). x.stop) (elsewhere q n)),
      ))
      (cases_eq q p)

  within : (f : Frame) → z < end_count f → AreSpans f z spans → (q : ℕ) → q < point_count f
      → (span_in (widened spans p first stop) q).stop ≤ end_count f
  within f l h q lq = ⊎_elim
      (λ (e : q ≡ p). subst (λ i. (span_in (widened spans p first stop) i).stop ≤ end_count f) (sym e)
      (omega (arith, ap (λ (x : Span). x.stop) here, ap (λ (x : Span). x.stop) was, high, l, h.within p (omega (arith, inside, h.long)))))
      (λ (n : q ≡ p → ⊥). omega (arith, ap (λ (x : Span). x.stop) (elsewhere q n), h.within q lq))
      (cases_eq q p)

  pub widened_spans : (f : Frame) → z < end_count f → AreSpans f z spans → AreSpans f z (widened spans p first stop)
  widened_spans f l h = spans_wider f z spans (widened spans p first stop) (length-set spans p (record { first = first; stop = stop })) (within f l h)
      widened_wider h

  pub widened_here : (f : Frame) (player : ℕ) (s : StoredStep) → last_step f player (at_end z) ≡ Some (step_of s) → s.point ≡ p
      → HasEnd f player z (widened spans p first stop)
  widened_here f player s made at = λ u e.
      let same : u.point ≡ p = ap (λ (v : Step). v.point) (one_is u (step_of s) (sym e ∙ made)) ∙ at in
      subst (λ i. ((span_in (widened spans p first stop) i).first ≤ z) × (z < (span_in (widened spans p first stop) i).stop)) (sym same) (
        omega (arith, ap (λ (x : Span). x.first) here, low),
        omega (arith, ap (λ (x : Span). x.stop) here, high),
      )

-- spans as they are at first, that end at once
pub no_ends_in : (n q first : ℕ) → (span_in (replicate n (record { first = first; stop = 0 })) q).stop ≡ 0
no_ends_in n q first =
    let none : Span = record { first = first; stop = 0 } in
    let past_all : Span = record { first = 0; stop = 0 } in
    ⊎_elim
    (λ (l : q < n). ap (λ (s : Span). s.stop) (get_or-replicate n q none past_all l))
    (λ (past : n ≤ q). ap (λ (s : Span). s.stop) (get_or_past (replicate n none) q past_all (omega (arith, length-replicate n none, past))))
    (cases_lt q n)
