use Rattle.std.proofs.Common.{◌≡◌, ◌-◌, ◌<◌, ◌≤◌, List, length, map, ap, sym, ◌∙◌, subst, arith}
use Rattle.std.specs.Prelude.{◌==◌, All, filter}
use Rattle.gs_filter.proofs.ClassLaws.{greatest_within}
use Rattle.gs_game.specs.Games.{game_of}
use Rattle.gs_model.specs.{Classes.{class_count, list_of}, Deals.{Deal, deals}, Frame.{last_round}}
use Rattle.gs_tree.specs.{Trees.{rules_of}, Walk.{last_count}, declared.signals.Signals.{Signals}}
use Rattle.gs_seq.specs.{Abstracts.{abstract_frame, lists_of}, Rows.{IsRow, IsSingleIn}, Singles.{IsSlight, deal_pair}, declared.pair.Pair.{Pair}}
use Rattle.gs_seq.proofs.{Singles.{count_is, made_row, slight}, SlotLaws.{over}, form.Abstract.pairs.Goals.{After-deals_of, After-signals}}
use Rattle.gs_seq.proofs.form.Abstract.pairs.Goals as goal

-- what holds of a round with no rows
record IsLast (c : After-signals) : Type 0 where
  pub last : c.args.round ≡ last_round (abstract_frame c.args.self.now)
  pub single : IsSingleIn (lists_of c.args.self.now) (last_round (abstract_frame c.args.self.now))

is_last : (c : After-signals) → IsLast c
is_last c =
    let a = c.args.self.now in
    let less : length a.rows.items < c.args.round = omega (arith, c.if-from-len.false, c.from.ensures, c.len.ensures, a.rows.ok.0) in
    let last : c.args.round ≡ last_round (abstract_frame a) = omega (arith, less, c.requires.top, a.paired.fewest) in
    record { last = last; single = a.paired.single (omega (arith, less, last)) }

-- the deals of the class's signal
made_of : (c : After-deals_of) → c.deals_of.result ≡ filter (λ (d : Deal). d.one == c.args.one - 1)
    (deals (game_of c.args.self.now.lossless.now.signals.now.game.now.game))
made_of c = c.deals_of.ensures ∙ ap (λ (x : Signals). filter (λ (d : Deal). d.one == c.args.one - 1) (deals (game_of x.game.now.game))) c.signals.ensures.held

pub deals_of-requires : goal.deals_of-requires
deals_of-requires c =
    let at = goal.at.deals_of-requires c in
    let g = c.args.self.now.lossless.now.signals.now.game.now in
    let cls = c.args.self.now.lossless.now.classes.now in
    let f = abstract_frame c.args.self.now in
    let l = is_last at.After-signals in
    let e = c.args.self.now.lossless.now.parents in
    let k = over f cls e in
    let some : 0 < last_round f = omega (arith, c.requires.some, l.last) in
    let most = greatest_within (list_of cls.lists (last_round f)) (k.numbered (last_round f) some (omega arith)) in
    let class : c.args.one ≤ class_count cls.lists (last_round f) = omega (arith, c.requires.class.1, ap (class_count cls.lists) l.last) in
    let same = ap (λ (x : Signals). last_count (rules_of x)) c.signals.ensures.held in
    omega (arith, most, class, k.lengths (last_round f) some (omega arith), count_is g cls e l.single, same, c.requires.class.0)

pub made-requires : goal.made-requires
made-requires c =
    let at = goal.at.made-requires c in
    let lossless = c.args.self.now.lossless.now in
    subst (All IsSlight) (sym (made_of at.After-deals_of))
    (slight lossless.signals.now.game.now lossless.classes.now lossless.parents (is_last at.After-signals).single (c.args.one - 1))

pub returns : goal.returns
returns c =
    let at = goal.at.returns c in
    let lossless = c.args.self.now.lossless.now in
    let g = lossless.signals.now.game.now in
    let f = abstract_frame c.args.self.now in
    let one = c.args.one in
    let l = is_last at.After-signals in
    let row : IsRow f lossless.classes.now.lists (last_round f) one (map deal_pair (filter (λ (d : Deal). d.one == one - 1) (deals (game_of g.game)))) =
    made_row g lossless.classes.now lossless.parents l.single one (one - 1) (omega (arith, c.requires.class.0)) in
    let P : List Pair → Type 0 = IsRow f lossless.classes.now.lists c.args.round one in
    subst P (sym (c.made.ensures ∙ ap (map deal_pair) (made_of at.After-deals_of)))
    (subst (λ r. IsRow f lossless.classes.now.lists r one (map deal_pair (filter (λ (d : Deal). d.one == one - 1) (deals (game_of g.game))))) (sym l.last) row)
