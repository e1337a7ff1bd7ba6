-- All pairs of each row as one pair: that they fit, and that they are those of the classes.
use Rattle.std.proofs.Common.{◌≡◌, ◌+◌, ◌-◌, ◌<◌, ◌≤◌, ◌∙◌, ℕ, ℤ, List, [], ◌∷◌, Vec, get_or, length, map, take, sum_by, sym, ap, subst, arith}
use Rattle.std.proofs.{lemmas.List.{get_or-map, length-map}, lemmas.List.Sums.{sum_by-cons, sum_by_more}}
use Rattle.std.specs.{declared.alloc.Global.{Global}, Prelude.{All, ◌+ℤ◌}}
use Rattle.gs_filter.specs.Filter.{Filter}
use Rattle.gs_game.specs.declared.valid.ValidGame.{ValidGame}
use Rattle.gs_model.specs.{Classes.{ClassLists}, Frame.{Frame, last_round}}
use Rattle.gs_model.proofs.Sparse.{sum_z-more}
use Rattle.gs_seq.specs.{Games.{frame_in}, Rows.{AreRows, AreRowsIn, AreWholes, AreWholesIn, IsRow, IsSlim, together, whole_row}, declared.pair.Pair.{Pair}}
use Rattle.gs_seq.proofs.{RowFacts.{class_weight, classes_weigh, row_signed, row_weighs}, RowRoom.{table}, Sizes.{modest}, SlotLaws.{over}}

-- a pair more
pub whole_more : (row : List Pair) (i : ℕ) (d : Pair) → i < length row → together (whole_row (take i row)) (get_or row i d) ≡ whole_row (take (i + 1) row)
whole_more row i d l =
    let one : ℕ → ℤ → Pair = λ n z. record { two = 0; weight = n; signed = z } in
    let p : Pair = get_or row i d in
    ap (λ n. one n ((whole_row (take i row)).signed +ℤ p.signed)) (sym (sum_by_more (λ (q : Pair). q.weight) row i d l))
    ∙ ap (λ z. one (sum_by (λ (q : Pair). q.weight) (take (i + 1) row)) z) (sym (sum_z-more (λ (q : Pair). q.signed) row i d l))

-- an item of a list that has one
some_item : {X : Type 0} (xs : List X) → 0 < length xs → X
some_item [] l = absurd (omega arith)
some_item (x ∷ xs) l = x

-- the pairs of each row are few and moderate
pub rows_slim : (g : ValidGame) (c : Filter) → c.parents ≡ (frame_in g).parents → (rows : List (Vec (Vec Pair Global) Global))
    → AreRows (frame_in g) c.lists rows
    → All (λ (v : Vec (Vec Pair Global) Global). All (λ (r : Vec Pair Global). IsSlim r.items) v.items) rows
rows_slim g c e rows are i d l j b m =
    let f : Frame = frame_in g in
    let k = over f c e in
    let at : i + 1 - 1 ≡ i = omega arith in
    let in_round = subst (λ n. AreRowsIn f c.lists (i + 1) (get_or rows n d).items) at (are.in_round (i + 1) d (omega arith) (omega (arith, l))) in
    let top : i + 1 ≤ last_round f = omega (arith, l, are.most) in
    let place : j + 1 - 1 ≡ j = omega arith in
    slim (i + 1) (omega arith) top (j + 1) (get_or (get_or rows i d).items j b).items
    (subst (λ n. IsRow f c.lists (i + 1) (j + 1) (get_or (get_or rows i d).items n b).items) place
    (in_round.row (j + 1) b (omega arith, omega (arith, m, in_round.long))))
  where
    slim : (round : ℕ) → 0 < round → round ≤ last_round (frame_in g) → (class : ℕ) (row : List Pair) → IsRow (frame_in g) c.lists round class row → IsSlim row
    slim round some top class row is =
        let f : Frame = frame_in g in
        let k = over f c e in
        let weigh = class_weight f (table g) c.lists k round some top in
        record {
          few = omega (
            arith,
            row_weighs f (table g) c.lists k round some top class row is,
            classes_weigh f (table g) c.lists k round some top class 1,
            sum_by-cons weigh class [],
            g.limits.weight_in,
          );
          moderate = λ h a n. omega (arith, row_signed f (table g) c.lists k round some top class row is (modest g).outcomes h a n);
        }

-- those of a round are those of its classes
pub wholes_long : (rows : List (Vec (Vec Pair Global) Global)) (wholes : List (Vec Pair Global)) → AreWholes rows wholes → length wholes ≡ length rows
wholes_long rows wholes is =
    sym (length-map wholes (λ (v : Vec Pair Global). v.items)) ∙ ap length is
    ∙ length-map rows (λ (v : Vec (Vec Pair Global) Global). map (λ (r : Vec Pair Global). whole_row r.items) v.items)

pub wholes_in_round : (f : Frame) (lists : ClassLists) (rows : List (Vec (Vec Pair Global) Global)) (wholes : List (Vec Pair Global)) → AreRows f lists rows
    → AreWholes rows wholes → (round : ℕ) (d : Vec Pair Global) → 0 < round → round ≤ length rows
    → AreWholesIn f lists round (get_or wholes (round - 1) d).items
wholes_in_round f lists rows wholes are is round d some top =
    let items : Vec Pair Global → List Pair = λ v. v.items in
    let wholes_of : Vec (Vec Pair Global) Global → List Pair = λ v. map (λ (r : Vec Pair Global). whole_row r.items) v.items in
    let long : length wholes ≡ length rows = wholes_long rows wholes is in
    let b : Vec (Vec Pair Global) Global = some_item rows (omega (arith, long, some, top)) in
    let own : List (Vec Pair Global) = (get_or rows (round - 1) b).items in
    let here : (get_or wholes (round - 1) d).items ≡ map (λ (r : Vec Pair Global). whole_row r.items) own =
    sym (get_or-map items wholes (round - 1) d [] (omega (arith, some, top, long))) ∙ ap (λ xs. get_or xs (round - 1) []) is
    ∙ get_or-map wholes_of rows (round - 1) b [] (omega (arith, some, top, long)) in
    let in_round = are.in_round round b some (omega (arith, top, long)) in
    record {
      long = ap length here ∙ length-map own (λ (r : Vec Pair Global). whole_row r.items) ∙ in_round.long;
      each = λ c e class.
          (let inside : c - 1 < length own = omega (arith, class.0, class.1, in_round.long) in
          let r : Vec Pair Global = some_item own (omega (arith, inside)) in (
            (get_or own (c - 1) r).items,
            in_round.row c r class,
            ap (λ xs. get_or xs (c - 1) e) here
                ∙ get_or-map (λ (v : Vec Pair Global). whole_row v.items) own (c - 1) r e inside,
          ));
    }
