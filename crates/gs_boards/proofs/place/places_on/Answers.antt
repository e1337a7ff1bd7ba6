use Rattle.std.proofs.lemmas.Result.{IfOk-from_err}
use Rattle.std.proofs.{Common.{◌-◌, ◌<◌, ◌∙◌, ◌++◌, ◌∷◌, [], ◌≡◌, ℕ, List, length, map, subst, sym, ap, arith, get_or}, lemmas.List.{map-append, map-id}}
use Rattle.std.proofs.lemmas.List.Elements.{All-nil, All-push}
use Rattle.std.specs.Prelude.{All}
use Rattle.gs_model.specs.Game.{Game}
use Rattle.gs_tree.specs.{Trees.{rules_of}, Walk.{last_count}}
use Rattle.gs_tree.proofs.Chain.{IsOnChain, chain_end, chain_more, chain_start}
use Rattle.gs_boards.specs.{Boards.{IsPlace}, declared.place.Place.{Place}}
use Rattle.gs_boards.proofs.place.places_on.Goals as goal

abbrev signal_of : Place → ℕ
signal_of p = p.signal

pub loop-signal-init : goal.loop-signal-init
loop-signal-init c =
    let g : Game = rules_of c.args.signals.now in
    let P : List Place → Type 0 = λ ps. IsOnChain g (λ k. k) c.args.first (get_or c.boards.result.0.now c.args.first 0) (map signal_of ps) in
    record {
      each = subst (All (IsPlace g)) (sym c.in_ok-places.ensures.items) (All-nil (IsPlace g));
      chain = subst P (sym c.in_ok-places.ensures.items)
          (chain_start g (λ k. k) c.boards.result.0.now c.boards.result.1.now c.boards.ensures c.args.first c.requires);
    }

pub place_of-requires : goal.place_of-requires
place_of-requires c = omega (arith, c.loop-signal-test.true, c.boards.ensures.nexts_long)

pub loop-signal-preserved : goal.loop-signal-preserved
loop-signal-preserved c =
    let g : Game = rules_of c.args.signals.now in
    let s : ℕ = c.loop-signal.signal in
    let old : List Place = c.loop-signal.places.items in
    let place : Place = c.place_of.result in
    let signals : map signal_of c.push.new.self.items ≡ map signal_of old ++ s ∷ [] =
    ap (map signal_of) c.in_ok-push.ensures.items ∙ map-append signal_of old (place ∷ [])
    ∙ ap (λ (x : ℕ). map signal_of old ++ x ∷ []) c.place_of.ensures.signal in
    let in' : s < last_count g = omega (arith, c.loop-signal-test.true, c.boards.ensures.nexts_long) in
    record {
      each = subst (All (IsPlace g)) (sym c.in_ok-push.ensures.items) (All-push (IsPlace g) old place c.loop-signal.invariant.each c.place_of.ensures.place);
      chain = subst (IsOnChain g (λ k. k) c.args.first (get_or c.boards.result.1.now s 0)) (sym signals)
          (chain_more g (λ k. k) c.boards.result.0.now c.boards.result.1.now c.boards.ensures c.args.first s (map signal_of old) in'
          c.loop-signal.invariant.chain);
    }

pub loop-signal-smaller : goal.loop-signal-smaller
loop-signal-smaller c =
    let s : ℕ = c.loop-signal.signal in
    let nexts : List ℕ = c.boards.result.1.now in
    let later : s < get_or nexts s 0 = c.boards.ensures.next_later s (omega (arith, c.loop-signal-test.true, c.boards.ensures.nexts_long)) in
    let less : length nexts - get_or nexts s 0 < length nexts - s = omega (arith, c.loop-signal-test.true, later) in
    less

pub returns-clause-all : goal.returns-clause-all
returns-clause-all c =
    let g : Game = rules_of c.args.signals.now in
    chain_end g (λ k. k) c.args.first c.loop-signal.signal (map signal_of c.loop-signal.places.items)
    (omega (arith, c.loop-signal-test.false, c.boards.ensures.nexts_long)) c.loop-signal.invariant.chain ∙ map-id _

pub overflow_cast-signal-in-loop-signal-2 : goal.overflow_cast-signal-in-loop-signal-2
overflow_cast-signal-in-loop-signal-2 c = grind arith

pub returns-in_err-places : goal.returns-in_err-places
returns-in_err-places c = let failed = c.from_residual.ensures.0 in record {
  each = IfOk-from_err _ _ failed;
  all = IfOk-from_err _ _ failed;
}

pub returns-in_err-push : goal.returns-in_err-push
returns-in_err-push c = let failed = c.from_residual-in_err-push.ensures.0 in record {
  each = IfOk-from_err _ _ failed;
  all = IfOk-from_err _ _ failed;
}
