-- The deals of a signal weigh little.
use Rattle.std.proofs.{Common.{◌==◌, ◌<◌, ◌≤◌, ◌^◌, ◌∷◌, [], ℕ, zero, suc, List, arith, get_or, length, sum_by}, lemmas.List.Elements.{All-filter}}
use Rattle.std.proofs.lemmas.List.Sums.{sum_by-cons}
use Rattle.std.specs.List.{All, filter}
use Rattle.gs_game.specs.Limits.{IsWithinLimits}
use Rattle.gs_model.specs.{Deals.{Deal, deals}, Game.{Game}}

abbrev weight : Deal → ℕ
weight d = d.weight

-- a deal weighs no more than all
within_all : (ds : List Deal) (k : ℕ) (d : Deal) → k < length ds → weight (get_or ds k d) ≤ sum_by weight ds
within_all [] k d l = absurd (omega (arith, l))
within_all (x ∷ xs) zero d l = let all = sum_by-cons weight x xs in omega (arith, all)
within_all (x ∷ xs) (suc k) d l = let all = sum_by-cons weight x xs in let rest = within_all xs k d (omega (arith, l)) in omega (arith, all, rest)

pub deals_light : (g : Game) (i : ℕ) → IsWithinLimits g → All (λ (d : Deal). d.weight < 2 ^ 32) (filter (λ (d : Deal). d.one == i) (deals g))
deals_light g i limits =
    All-filter (λ (d : Deal). d.one == i) (λ (d : Deal). d.weight < 2 ^ 32) (deals g) (λ k d l. let here = within_all (deals g) k d l in
    let most = limits.weight_in in omega (arith, here, most))
