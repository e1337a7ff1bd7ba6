use Rattle.std.proofs.{Common.{◌-◌, arith, refl, rules}, lemmas.Str.{IsCharBoundary-from_ascii}}
use Rattle.gs_words.specs.declared.made.TheConstants.{RANKS}
use Rattle.gs_words.proofs.Ascii.{ascii}
use Rattle.gs_words.proofs.made.last_ranks.Goals as goal

pub range_from-requires : goal.range_from-requires
range_from-requires c _ = IsCharBoundary-from_ascii RANKS.now (13 - c.args.count) (ascii RANKS.now refl) (omega arith)

pub returns : goal.returns
returns c = search rules
