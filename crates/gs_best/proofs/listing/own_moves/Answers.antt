use Rattle.std.proofs.{Common.{◌≡◌, ◌+◌, ◌<◌, ◌≤◌, ◌++◌, ℕ, List, drop, take, length, ap, sym, ◌∙◌, subst, arith, Vec}, lemmas.List.{get_or_read}}
use Rattle.std.specs.declared.alloc.Global.{Global}
use Rattle.gs_model.specs.{Classes.{class_count}, Frame.{player_at, point_count}}
use Rattle.gs_best.specs.{Tables.{classes_at, moves_of, start_of}, Sides.{frame_at, lists_at}, Answers.{choices_before}}
use Rattle.gs_best.proofs.{MemberValues.{filled_best, filled_values}, PointStarts.{starts_le, starts_more}}
use Rattle.gs_best.proofs.Listed.{AreListed, choices_none, listed_more, listed_same, longer}
use Rattle.gs_best.proofs.listing.own_moves.Goals.{then-chooser-side+in_ok-push_row, else-chooser-side}
use Rattle.gs_best.proofs.listing.own_moves.Goals as goal

pub push_row-requires : goal.push_row-requires
push_row-requires c =
    let d = c.args.side.now in
    let f = frame_at d in
    let q = c.loop-point.point in
    let filled = c.requires.filled in
    let inside : q < point_count f = omega (arith, c.loop-point-test.true, c.point_total-point-end.ensures) in
    let start : c.index.result.now ≡ start_of f (lists_at d) q = get_or_read c.args.table.now.starts.items q _ (omega (arith, inside, filled.laid.holds.starts))
    c.index.ensures 0 ∙ filled.laid.places q inside in
    let all : c.class_total-count.result ≡ classes_at f (lists_at d) q = c.class_total-count.ensures.value
    ∙ ap (class_count (lists_at d)) c.round_at.ensures.value in
    omega (
      arith,
      start,
      all,
      starts_more f (lists_at d) q,
      starts_le f (lists_at d) (q + 1) (point_count f) (omega (arith, inside)),
      filled.laid.holds.picks,
      ap (λ (l : List ℕ). length l) c.deref.ensures.value,
    )

pub loop-point-preserved : goal.loop-point-preserved
loop-point-preserved c =
    let d = c.args.side.now in
    let f = frame_at d in
    let q = c.loop-point.point in
    let p = d.player in
    let filled = c.requires.filled in
    let picks = c.args.table.now.picks.items in
    let i = c.loop-point.invariant in
    let xs = c.loop-point.moves.items in
    let inside : q < point_count f = omega (arith, c.loop-point-test.true, c.point_total-point-end.ensures) in
    elim c.if-chooser-side.branch [
      | then-chooser-side+in_ok-push_row w ↦
          let own : player_at f q ≡ p = sym c.chooser.ensures ∙ w.if-chooser-side.true in
          let from = w.index.result.now in
          let count = w.class_total-count.result in
          let start : from ≡ start_of f (lists_at d) q = get_or_read c.args.table.now.starts.items q _ (omega (arith, inside, filled.laid.holds.starts))
          w.index.ensures 0 ∙ filled.laid.places q inside in
          let all : count ≡ classes_at f (lists_at d) q = w.class_total-count.ensures.value ∙ ap (class_count (lists_at d)) w.round_at.ensures.value in
          let room : from + count ≤ length picks = omega (
            arith,
            start,
            all,
            starts_more f (lists_at d) q,
            starts_le f (lists_at d) (q + 1) (point_count f)
                (omega (arith, inside)),
            filled.laid.holds.picks,
          ) in
          let same : c.if-chooser-side.moves.items ≡ xs ++ take count (drop from picks) = ap (λ (v : Vec ℕ Global). v.items) w.moves-is
          ∙ w.in_ok-push_row.ensures ∙ ap (λ (l : List ℕ). xs ++ take count (drop from l)) w.deref.ensures.value in
          record {
            long = ap (λ (zs : List ℕ). length zs) same ∙ longer f (lists_at d) p picks xs q from count own i.long start all room;
            listed = subst (λ zs. AreListed f (lists_at d) p picks zs (q + 1)) (sym same)
                (listed_more f (lists_at d) p picks xs q from count own i.long start all room i.listed);
          }
      | else-chooser-side w ↦
          let other = λ (e : player_at f q ≡ p). w.if-chooser-side.false (c.chooser.ensures ∙ e) in
          let same : c.if-chooser-side.moves.items ≡ xs = ap (λ (v : Vec ℕ Global). v.items) w.moves-is in
          record {
            long = ap (λ (zs : List ℕ). length zs) same ∙ i.long ∙ sym (choices_none f (lists_at d) p q other);
            listed = subst (λ zs. AreListed f (lists_at d) p picks zs (q + 1)) (sym same) (listed_same f (lists_at d) p picks xs q other i.listed);
          }
    ]

pub returns : goal.returns
returns c =
    let d = c.args.side.now in
    let f = frame_at d in
    let t = c.args.table.now in
    let whole : c.loop-point.point ≡ point_count f = omega (arith, c.loop-point-test.false, c.point_total-point-end.ensures, c.loop-point.auto.point-end) in
    record {
      values = filled_values d t c.requires.filled;
      move = moves_of f (lists_at d) t.picks.items;
      best = filled_best d t c.requires.filled;
      long = c.loop-point.invariant.long ∙ ap (choices_before f (lists_at d) d.player) whole;
      at = λ q e l own h. c.loop-point.invariant.listed q e (omega (arith, l, whole)) own h;
    }

pub class_total-count-requires-clause-top : goal.class_total-count-requires-clause-top
class_total-count-requires-clause-top c = omega arith

pub round_at-requires : goal.round_at-requires
round_at-requires c = grind arith

pub overflow_cast-count : goal.overflow_cast-count
overflow_cast-count c = grind arith

pub chooser-requires : goal.chooser-requires
chooser-requires c = grind arith
