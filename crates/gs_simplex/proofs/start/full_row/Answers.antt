use Rattle.std.proofs.{Common.{◌≡◌, ◌<◌, ◌≤◌, ℕ, [], List, ℤ, length, sym, ap, subst, ◌∙◌, arith}, lemmas.List.{get_or_default}}
use Rattle.std.specs.Prelude.{slice_index_or}
use Rattle.gs_simplex.specs.Parts.{PartLists}
use Rattle.gs_simplex.proofs.Slots.{raw_of_aim, raw_of_row}
use Rattle.gs_simplex.proofs.start.full_row.Goals as goal

at_last : (i n : ℕ) → i ≤ n → n ≤ i → i ≡ n
at_last i n h k = omega arith

pub returns : goal.returns
returns c =
    let p = c.args.p.now in
    raw_of_aim p c.args.i c.in_ok-aim.aim.items c.push-2.new.self.items c.push-3.new.self.items c.requires.shaped
    (at_last c.args.i p.rows c.requires.row c.if-i-p.false) (c.in_ok-aim.ensures ∙ ap (λ (q : PartLists). q.aim) c.parts.view_is)
    c.in_ok-push-2.ensures.items c.in_ok-push-3.ensures.items

pub returns-then-i-p : goal.returns-then-i-p
returns-then-i-p c =
    let p = c.args.p.now in let i = c.args.i in let rows : List (List ℤ) = c.parts.inside.numbers.items in
    let same = ap (λ (q : PartLists). q.numbers) c.parts.view_is in
    let inside : i < length rows = subst (λ n. i < n) (sym (ap (λ (x : List (List ℤ)). length x) same ∙ c.requires.shaped.rows)) c.if-i-p.true in
    let is = c.in_ok-row.ensures ∙ c.index.ensures ∙ get_or_default rows i c.index.result.now [] inside
    ∙ ap (λ (x : List (List ℤ)). slice_index_or x i []) same in
    raw_of_row p i c.in_ok-row.row.items c.push.new.self.items c.requires.shaped c.if-i-p.true is c.in_ok-push.ensures.items

pub index-requires : goal.index-requires
index-requires c = grind arith
