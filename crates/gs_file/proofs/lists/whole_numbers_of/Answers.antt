use Rattle.toml.specs.View.{view}
use Rattle.gs_file.proofs.ItemLists.{numbers_are}
use Rattle.gs_file.proofs.lists.whole_numbers_of.Goals as goal

pub returns : goal.returns
returns c = rw (numbers_are c.args.place (view c.args.value.now) c.in_ok-array.array.now.items c.in_ok-array.ensures, ← c.deref.ensures.value)
    c.each_whole_number.ensures
