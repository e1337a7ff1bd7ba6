use Rattle.std.proofs.{Common.{◌-◌, ◌<◌, ◌∙◌, ◌++◌, ◌∷◌, [], ◌≡◌, ℕ, List, length, subst, sym, ap, arith, get_or}, lemmas.List.{length-map}}
use Rattle.gs_model.specs.{Game.{Game, round_count}, Signals.{signals}, ViewTree.{signal_strength}}
use Rattle.gs_tree.specs.{Trees.{rules_of}, Walk.{last_count}}
use Rattle.gs_lossless.specs.{Rivals.{rival_of}, declared.rivals.Rival.{Rival}}
use Rattle.gs_tree.proofs.Chain.{IsOnChain, chain_end, chain_more, chain_smaller, chain_start}
use Rattle.gs_lossless.proofs.rivals.rivals_beside.Goals as goal

pub loop-signal-init : goal.loop-signal-init
loop-signal-init c =
    let g : Game = rules_of c.args.signals.now in
    let h : ℕ → Rival = rival_of g c.args.keys.now in
    let P : List Rival → Type 0 = IsOnChain g h c.args.first (get_or c.boards.result.0.now c.args.first 0) in
    subst P (sym c.in_ok-rivals.ensures.items) (chain_start g h c.boards.result.0.now c.boards.result.1.now c.boards.ensures c.args.first c.requires.first_in)

pub bounds-strengths-signal : goal.bounds-strengths-signal
bounds-strengths-signal c =
    let g : Game = rules_of c.args.signals.now in
    let long : length c.strengths-strengths.result.now ≡ last_count g = ap (λ (xs : List ℕ). length xs) c.strengths-strengths.ensures
    ∙ length-map (signals g (round_count g)) (signal_strength g) in
    omega (arith, c.loop-signal-test.true, c.boards.ensures.nexts_long, long)

pub loop-signal-preserved : goal.loop-signal-preserved
loop-signal-preserved c =
    let g : Game = rules_of c.args.signals.now in
    let s : ℕ = c.loop-signal.signal in
    let keys : List ℕ = c.args.keys.now in
    let old : List Rival = c.loop-signal.rivals.items in
    let P : List Rival → Type 0 = IsOnChain g (rival_of g keys) c.args.first (get_or c.boards.result.1.now s 0) in
    let in' : s < last_count g = omega (arith, c.loop-signal-test.true, c.boards.ensures.nexts_long) in
    let rival : (old ++ (let one : Rival = record { class = get_or keys s 0; strength = get_or c.strengths-strengths.result.now s 0; signal = s } in one) ∷ [])
    ≡ old ++ rival_of g keys s ∷ [] =
    ap (λ (xs : List ℕ). old ++ (let one : Rival = record { class = get_or keys s 0; strength = get_or xs s 0; signal = s } in one) ∷ [])
    c.strengths-strengths.ensures in
    subst P (sym (c.in_ok-push.ensures.items ∙ rival)) (chain_more g (rival_of g keys) c.boards.result.0.now c.boards.result.1.now c.boards.ensures
    c.args.first s old in' c.loop-signal.invariant)

pub loop-signal-smaller : goal.loop-signal-smaller
loop-signal-smaller c = chain_smaller (rules_of c.args.signals.now) c.boards.ensures c.loop-signal.signal c.loop-signal-test.true

pub returns : goal.returns
returns c =
    let g : Game = rules_of c.args.signals.now in
    chain_end g (rival_of g c.args.keys.now) c.args.first c.loop-signal.signal c.loop-signal.rivals.items
    (omega (arith, c.loop-signal-test.false, c.boards.ensures.nexts_long)) c.loop-signal.invariant

pub overflow_cast-signal-in-loop-signal-4 : goal.overflow_cast-signal-in-loop-signal-4
overflow_cast-signal-in-loop-signal-4 c = grind arith

pub offset_bounds-nexts-signal : goal.offset_bounds-nexts-signal
offset_bounds-nexts-signal c = grind arith
