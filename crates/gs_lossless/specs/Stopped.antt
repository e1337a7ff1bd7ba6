-- Classes of a game that stops after a round.
use Rattle.std.specs.Prelude.{ℕ, [], ◌∷◌, ◌++◌, take}
use Rattle.gs_model.specs.Classes.{ClassLists, list_of}

-- the class lists of the first rounds, with the last of them repeated: nothing more is seen after it
abbrev pub stopped_lists : ClassLists → ℕ → ClassLists
stopped_lists lists round = take round lists ++ list_of lists round ∷ []
