use Rattle.std.proofs.{Common.{◌≡◌, ◌++◌, ◌∷◌, [], rules}, lemmas.Result.{err_from_is_err_and}}
use Rattle.toml.specs.View.{view}
use Rattle.gs_file.specs.Tables.{whole_number}
use Rattle.gs_file.proofs.Loop.{goes_on, breaks_off, is_done}
use Rattle.gs_file.proofs.lists.each_whole_number.Goals as goal

pub loop-item-preserved : goal.loop-item-preserved
loop-item-preserved c =
    let grown : c.push.new.self.items ≡ c.loop-item.numbers.items ++ c.in_ok-number.number ∷ [] = search rules in
    rw grown (goes_on (λ n. whole_number c.args.place) view c.args.items.now c.loop-item.item-index c.loop-item.numbers.items c.loop-item.invariant
    c.item-item.result c.item-item.result c.loop-item-test.true c.item-item.is _ c.in_ok-number.ensures)

pub returns : goal.returns
returns c = is_done (λ n. whole_number c.args.place) view c.args.items.now c.loop-item.item-index _ c.loop-item.invariant c.loop-item-test.false

pub returns-in_err-number : goal.returns-in_err-number
returns-in_err-number c =
    let e = err_from_is_err_and c.from_residual.result c.from_residual.ensures.1 in
    rw (e.1, e.2) (breaks_off (λ n. whole_number c.args.place) view c.args.items.now c.loop-item.item-index _ c.loop-item.invariant
    c.item-item.result c.item-item.result c.loop-item-test.true c.item-item.is _ c.in_err-number.ensures)
