use Rattle.std.proofs.lemmas.Result.{IfOk-from_err}
use Rattle.std.proofs.Common.{◌≡◌, ◌+◌, ◌<◌, ◌∙◌, ℕ, List, Vec, ap, arith, get_or, length, subst, sym}
use Rattle.std.proofs.lemmas.List.{with_items_is}
use Rattle.std.specs.declared.alloc.Global.{Global}
use Rattle.gs_model.specs.Game.{Game}
use Rattle.gs_tree.specs.{Trees.{rules_of}, Walk.{last_count, shows_same}}
use Rattle.gs_boards.specs.Boards.{IsFirstOn}
use Rattle.gs_boards.proofs.{BoardRemainders.{AreDoneBefore, all_done, board_done, none_done, none_more_done}, Telling.{first_here}}
use Rattle.gs_boards.proofs.remainders.deal_remainders.Goals as goal
use Rattle.gs_boards.proofs.remainders.deal_remainders.Goals.{then-first-signal+in_ok-board_remainders, else-first-signal}

pub loop-signal-init : goal.loop-signal-init
loop-signal-init c =
    none_done (rules_of c.args.signals.now) c.boards.result.0.now c.boards.result.1.now c.boards.ensures c.args.numbers.now c.in_ok-sums.sums.items
    (omega (arith, c.in_ok-sums.ensures.len, c.in_ok-sums.sums.ok.0, c.boards.ensures.firsts_long))

pub board_remainders-requires-clause-first : goal.board_remainders-requires-clause-first
board_remainders-requires-clause-first c =
    let n : ℕ = c.loop-signal.signal in
    let own : get_or c.boards.result.0.now n 0 ≡ n = omega (arith, c.if-first-signal.true) in
    let within : n < last_count (rules_of c.args.signals.now) = omega (arith, c.loop-signal-test.true, c.boards.ensures.firsts_long) in
    subst (λ k. IsFirstOn (rules_of c.args.signals.now) k k) (sym own) (first_here c.boards.ensures n within own)

pub loop-signal-preserved : goal.loop-signal-preserved
loop-signal-preserved c =
    let g : Game = rules_of c.args.signals.now in
    let firsts : List ℕ = c.boards.result.0.now in
    let nexts : List ℕ = c.boards.result.1.now in
    let numbers : List ℕ = c.args.numbers.now in
    let n : ℕ = c.loop-signal.signal in
    let old : List ℕ = c.loop-signal.sums.items in
    let P : List ℕ → Type 0 = AreDoneBefore g firsts numbers (n + 1) in
    elim c.if-first-signal.branch [
      | then-first-signal+in_ok-board_remainders w ↦
          let own : get_or firsts n 0 ≡ n = omega (arith, w.if-first-signal.true) in
          let new : List ℕ = w.board_remainders.new.sums in
          let done : AreDoneBefore g firsts numbers n w.deref_mut.result.now =
          subst (AreDoneBefore g firsts numbers n) (sym w.deref_mut.ensures.value) c.loop-signal.invariant in
          let put = with_items_is c.loop-signal.sums new (omega (arith, w.deref_mut.ensures.len, c.loop-signal.sums.ok.0)) in
          subst P (sym (ap (λ (v : Vec ℕ Global). v.items) w.sums-is ∙ put))
          (board_done g firsts nexts c.boards.ensures numbers n (omega (arith, c.loop-signal-test.true, c.boards.ensures.firsts_long)) own
          w.deref_mut.result.now new (omega (arith, w.board_remainders.auto.sums))
          (λ s l same. w.in_ok-board_remainders.ensures.here s l (ap (λ k. shows_same g k s) own ∙ same))
          (λ s l other. w.in_ok-board_remainders.ensures.others s l (ap (λ k. shows_same g k s) own ∙ other)) done)
      | else-first-signal w ↦
          let other : get_or firsts n 0 ≡ n → ⊥ = λ e. w.if-first-signal.false e in
          subst P (sym (ap (λ (v : Vec ℕ Global). v.items) w.sums-is))
          (none_more_done g firsts nexts c.boards.ensures numbers n old other c.loop-signal.invariant)
    ]

pub board_remainders-requires-clause-plain : goal.board_remainders-requires-clause-plain
board_remainders-requires-clause-plain c = c.requires.plain

pub board_remainders-requires-clause-sums : goal.board_remainders-requires-clause-sums
board_remainders-requires-clause-sums c = ap (λ (sums : List ℕ). length sums) c.deref_mut.ensures.value ∙ c.loop-signal.invariant.long

pub returns : goal.returns
returns c = record {
  long = c.loop-signal.invariant.long;
  each = all_done (rules_of c.args.signals.now) c.boards.result.0.now c.boards.result.1.now c.boards.ensures c.args.numbers.now c.loop-signal.signal
      c.loop-signal.sums.items (omega (arith, c.loop-signal-test.false, c.boards.ensures.firsts_long)) c.loop-signal.invariant;
}

pub returns-in_err-sums : goal.returns-in_err-sums
returns-in_err-sums c = let failed = c.from_residual.ensures.0 in record {
  long = IfOk-from_err _ _ failed;
  each = IfOk-from_err _ _ failed;
}

pub returns-in_err-board_remainders : goal.returns-in_err-board_remainders
returns-in_err-board_remainders c = let failed = c.from_residual-in_err-board_remainders.ensures.0 in record {
  long = IfOk-from_err _ _ failed;
  each = IfOk-from_err _ _ failed;
}
