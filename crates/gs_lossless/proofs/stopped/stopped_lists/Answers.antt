use Rattle.std.proofs.Common.{◌≡◌, ◌≤◌, ◌<◌, ◌+◌, ◌-◌, ◌∷◌, ◌++◌, ◌∙◌, [], ℕ, List, Vec, Global, ap, arith, get_or, length, sym, take, ⊎_elim}
use Rattle.std.proofs.{lemmas.Bool.{cases_lt}, lemmas.List.{get_or-append_right, get_or-map, get_or-take, length-map, length_push, length-take-le, map-append, take_all, take_more}}
use Rattle.std.proofs.Math.ListN.{get_or-append}
use Rattle.std.specs.Prelude.{min}
use Rattle.gs_model.specs.{Rows.{rows}, Classes.{ClassLists, list_of}}
use Rattle.gs_lossless.specs.Stopped.{stopped_lists}
use Rattle.gs_lossless.proofs.stopped.stopped_lists.Goals.{After-min}
use Rattle.gs_lossless.proofs.stopped.stopped_lists.Goals as goal

module _ (lists : ClassLists) (round place : ℕ) (some : 0 < round) (top : round ≤ length lists) where
  taken : length (take round lists) ≡ round
  taken = length-take-le round lists top

  -- which list stands at a place
  at_place : place ≤ round → get_or (stopped_lists lists round) place [] ≡ get_or lists (min place (round - 1)) []
  at_place l = ⊎_elim
      (λ (under : place < round).
      let least : place ≡ min place (round - 1) = omega (arith, under) in
      get_or-append (take round lists) (list_of lists round ∷ []) [] place (omega (arith, under, taken))
      ∙ get_or-take round lists place [] under ∙ ap (λ k. get_or lists k []) least)
      (λ (over : round ≤ place).
      let here : place ≡ round = omega (arith, l, over) in
      let first : place - round ≡ 0 = omega (arith, here) in
      let least : round - 1 ≡ min place (round - 1) = omega (arith, over) in
      get_or-append_right (take round lists) (list_of lists round ∷ []) round place [] taken over
      ∙ ap (λ k. get_or (list_of lists round ∷ []) k []) first ∙ ap (λ k. get_or lists k []) least)
      (cases_lt place round)

  long : length (stopped_lists lists round) ≡ round + 1
  long = length_push (take round lists) (list_of lists round) ∙ ap (λ k. k + 1) taken

  -- all lists
  all_taken : round < place → take place (stopped_lists lists round) ≡ stopped_lists lists round
  all_taken l = take_all place (stopped_lists lists round) (omega (arith, long, l))

  one_more : (stopped : List (Vec ℕ Global)) (list : Vec ℕ Global) → place ≤ round → rows stopped ≡ take place (stopped_lists lists round)
      → list.items ≡ get_or lists (min place (round - 1)) [] → rows (stopped ++ list ∷ []) ≡ take (place + 1) (stopped_lists lists round)
  one_more stopped list l h is =
      map-append (λ (v : Vec ℕ Global). v.items) stopped (list ∷ []) ∙ ap (λ ls. ls ++ list.items ∷ []) h
      ∙ ap (λ x. take place (stopped_lists lists round) ++ x ∷ []) (is ∙ sym (at_place l))
      ∙ sym (take_more (stopped_lists lists round) place [] (omega (arith, l, long)))

-- the place of the list that is copied
within : (c : After-min) → c.min.result < length c.lists-lists.result.now
within c =
    let lists = c.lists-lists.result.now in
    let long = ap (λ (ls : List (List ℕ)). length ls) c.lists-lists.ensures.value in
    omega (arith, length-map lists (λ (v : Vec ℕ Global). v.items), long, c.min.ensures, c.from-last.ensures, c.requires.some, c.requires.top)

pub bounds-lists-min : goal.bounds-lists-min
bounds-lists-min c = within c

pub loop-place-preserved : goal.loop-place-preserved
loop-place-preserved c =
    let lists = c.args.classes.now.lists in
    let round = c.args.round in
    let place = c.loop-place.place in
    let list = c.in_ok-from_slice.field-0 in
    let now = c.lists-lists.result.now in
    let least : c.min.result ≡ min place (round - 1) = c.min.ensures ∙ ap (λ k. min place (k - 1)) c.from-last.ensures in
    let read : list.items ≡ get_or (rows now) c.min.result [] = c.in_ok-from_slice.ensures.items ∙ c.deref.ensures.value
    ∙ ap (λ (v : Vec ℕ Global). v.items) c.index-lists-min.is
    ∙ sym (get_or-map (λ (v : Vec ℕ Global). v.items) now c.min.result c.index-lists-min.result []
    (within (goal.at.loop-place-preserved c).After-min)) in
    let is : list.items ≡ get_or lists (min place (round - 1)) [] = read ∙ ap (λ (ls : List (List ℕ)). get_or ls c.min.result []) c.lists-lists.ensures.value
    ∙ ap (λ k. get_or lists k []) least in
    ap (λ (ls : List (Vec ℕ Global)). rows ls) c.in_ok-push.ensures.items
    ∙ one_more lists round place c.requires.some c.requires.top c.loop-place.stopped.items list
    (omega (arith, c.loop-place-test.true, c.from-last.ensures, c.requires.some)) c.loop-place.invariant is

pub returns : goal.returns
returns c =
    c.loop-place.invariant
    ∙ all_taken c.args.classes.now.lists c.args.round c.loop-place.place c.requires.some c.requires.top
    (omega (arith, c.loop-place-test.false, c.from-last.ensures, c.requires.some))
