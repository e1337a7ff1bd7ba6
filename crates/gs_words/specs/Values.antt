-- The values that options take.
use Rattle.std.specs.{Prelude.{ℕ, ◌&&◌, nat_le, if◌then◌else◌, List, Option, Some, None, codes}, Str.{bytes_eq}, Str.Parse.{digits_value}}
use Rattle.gs_frac.specs.Texts.{is_numeral}
use Rattle.gs_words.specs.{declared.kind.Kind.{Kind}, declared.kind.Kind.TheVariants.{Kuhn, Leduc, Rhode}, declared.request.Grouping.{Grouping}}
use Rattle.gs_words.specs.declared.request.Grouping.TheVariants.{Isomorphism, Coarsest, Single}

-- the classes that a word names: `ogi` for those of ordered game isomorphism, `split` for the coarsest lossless ones, `raw` for each signal by itself
abbrev pub grouping_of : List ℕ → Option Grouping
grouping_of word = if bytes_eq word (codes "ogi") then Some Isomorphism
    else (if bytes_eq word (codes "split") then Some Coarsest else (if bytes_eq word (codes "raw") then Some Single else None))

-- the kind of game that a word names: `kuhn`, `leduc` or `rhode`
abbrev pub kind_of : List ℕ → Option Kind
kind_of word = if bytes_eq word (codes "kuhn") then Some Kuhn
    else (if bytes_eq word (codes "leduc") then Some Leduc else (if bytes_eq word (codes "rhode") then Some Rhode else None))

-- the number that the word writes, if it is from `least` to `most`
abbrev pub number_in : ℕ → ℕ → List ℕ → Option ℕ
number_in least most word =
    let n = digits_value 10 word in
    if is_numeral word && (nat_le least n && nat_le n most) then Some n else None
