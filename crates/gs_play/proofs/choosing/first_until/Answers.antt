use Rattle.std.proofs.Common.{ℕ, ◌+◌, ◌<◌, ◌≤◌, List, length, sym, subst, arith}
use Rattle.gs_play.specs.declared.line.Line.{Line}
use Rattle.gs_play.proofs.{Firsts.{Before, by_first, fewer, first_by, no_more, one_more}, choosing.first_until.Goals.{then-place-best, else-place-best}}
use Rattle.gs_play.proofs.choosing.first_until.Goals as goal

pub loop-place-preserved : goal.loop-place-preserved
loop-place-preserved c =
    let lines = c.args.lines.now in
    let best = c.args.best in
    let now = c.args.now in
    let n = c.loop-place.place in
    let left = c.loop-place.left in
    let last = c.args.last in
    let i = c.loop-place.invariant in
    let same : left ≤ left = omega arith in
    elim c.if-place-best.branch [
      | then-place-best w ↦
          let e = w.until-left.ensures in
          let less = w.until-left.result in
          record {
            stays = subst (Before lines best now (n + 1)) (sym w.left-is) (one_more lines best now n left less e.most i.stays (λ ne. e.stays));
            greatest = subst (λ t. t < last → Before lines best now (n + 1) (t + 1) → ⊥) (sym w.left-is)
                (no_more lines best now n last left less e.most i.greatest (λ l h. e.greatest l (h w.if-place-best.true)));
            some = λ s. let k = i.some s in let j = e.some k in omega (arith, w.left-is, j);
            most = (let a = e.most in let b = i.most in omega (arith, w.left-is, a, b));
            least = (let a = e.least in omega (arith, w.left-is, a));
          }
      | else-place-best w ↦
          record {
            stays = subst (Before lines best now (n + 1)) (sym w.left-is)
                (one_more lines best now n left left same i.stays (λ ne. absurd (ne w.if-place-best.false)));
            greatest = subst (λ t. t < last → Before lines best now (n + 1) (t + 1) → ⊥) (sym w.left-is)
                (λ l h. i.greatest l (fewer lines best now n (left + 1) h));
            some = λ s. let k = i.some s in omega (arith, w.left-is, k);
            most = (let b = i.most in omega (arith, w.left-is, b));
            least = (let a = i.least in omega (arith, w.left-is, a));
          }
    ]

all_here : (lines : List Line) (best now n until : ℕ) → length lines ≤ n → Before lines best now n until → Before lines best now (length lines) until
all_here lines best now n until l h m lm = h m (omega (arith, lm, l))

none_past : (lines : List Line) (best now n until : ℕ) → n ≤ length lines → Before lines best now (length lines) until → Before lines best now n until
none_past lines best now n until l h m lm = h m (omega (arith, lm, l))

pub returns-clause-stays : goal.returns-clause-stays
returns-clause-stays c = first_by c.args.lines.now c.args.best c.args.now c.loop-place.left c.requires.first.in_range
    (all_here c.args.lines.now c.args.best c.args.now c.loop-place.place c.loop-place.left (omega arith) c.loop-place.invariant.stays)

pub returns-clause-greatest : goal.returns-clause-greatest
returns-clause-greatest c = λ l h. c.loop-place.invariant.greatest l
    (none_past c.args.lines.now c.args.best c.args.now c.loop-place.place (c.loop-place.left + 1) (omega arith)
    (by_first c.args.lines.now c.args.best c.args.now (c.loop-place.left + 1) h))

pub until-left-requires-clause-behind : goal.until-left-requires-clause-behind
until-left-requires-clause-behind c = grind arith

pub loop-place-init : goal.loop-place-init
loop-place-init c = grind arith
