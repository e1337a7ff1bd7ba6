-- Lists of lists, as a program holds them.
use Rattle.std.specs.{Prelude.{List, map, Vec}, declared.alloc.Global.{Global}}

-- the lists that some `Vec`s hold
abbrev pub rows : {X : Type 0} → List (Vec X Global) → List (List X)
rows {X} vs = map (λ (v : Vec X Global). v.items) vs
