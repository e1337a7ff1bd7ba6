use Rattle.std.proofs.Common.{◌≡◌, ℕ, List, false, pos, length, map, slice_index_or, replicate, inl, inr, rules, refl, ap, ◌∙◌, arith}
use Rattle.std.proofs.{lemmas.List.{get_or-replicate, get_or_past, length-replicate}, lemmas.Bool.{cases_lt}}
use Rattle.std.specs.Vec.{vec_items}
use Rattle.gs_tests_strategies.proofs.stops.rowless.Goals as goal

same_all : {X : Type 0} (xs : List X) (n : ℕ) (x : X) (j : ℕ) → xs ≡ replicate n x → slice_index_or xs j x ≡ x
same_all xs n x j e =
    ap (λ t. slice_index_or t j x) e ∙ elim (cases_lt j n) [
      | inl h ↦ get_or-replicate n j x x h
      | inr h ↦ get_or_past (replicate n x) j x (omega (arith, length-replicate n x))
    ]

pub returns : goal.returns
returns c =
    let n = c.args.cols in
    let free = c.in_ok-free.ensures.items_if_clones_equal (λ y k. search rules) in let aim = c.in_ok-aim.ensures.items_if_clones_equal (λ y k. search rules) in
    record {
      rows = refl;
      cols = refl;
      numbers = ap (map vec_items) c.new.ensures.items;
      free_long = ap length free ∙ length-replicate n false;
      free = λ j. same_all c.in_ok-free.free.items n false j free;
      aim_long = ap length aim ∙ length-replicate n (pos 0);
      aim = λ j. same_all c.in_ok-aim.aim.items n (pos 0) j aim;
    }
