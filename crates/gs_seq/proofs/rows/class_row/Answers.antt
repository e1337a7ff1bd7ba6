use Rattle.std.proofs.lemmas.Grind.{common_steps}
use Rattle.std.proofs.Common.{◌≡◌, ◌∙◌, subst, sym, arith}
use Rattle.gs_model.proofs.Walked.{last_round_of}
use Rattle.gs_tree.specs.Trees.{rules_of}
use Rattle.gs_lossless.specs.{Amounts.{AreAmounts}, declared.aspects.Aspect.{Aspect}, declared.aspects.Aspect.TheVariants.{Deals}}
use Rattle.gs_lossless.proofs.{Descent.{list_long}, Scanned.{aspect_in}, Settled.{if_ok}}
use Rattle.gs_seq.specs.{Games.{frame_in}, Rows.{IsRow, gathered}}
use Rattle.gs_seq.proofs.{RowRoom.{row_fits, row_is}, rows.class_row.Goals.{After-deref}}
use Rattle.gs_seq.proofs.rows.class_row.Goals as goal

pub sums-requires : goal.sums-requires
sums-requires c =
    let at = c.args.deals.now in
    let g = rules_of at.signals.now in
    let in' = aspect_in (frame_in at.signals.now.game.now) at.aspect at.round at.has in
    omega (arith, c.first-first.ensures.within, list_long g at.classes.now at.parents at.round in'.0 (omega (arith, in'.1, last_round_of g)))

-- the sums of the first member
amounts : (c : After-deref) → AreAmounts (frame_in c.args.deals.now.signals.now.game.now) c.args.deals.now.classes.now.lists Deals c.args.deals.now.round
    c.first-first.result c.deref.result.now
amounts c =
    let at = c.args.deals.now in
    let f = frame_in at.signals.now.game.now in
    subst (AreAmounts f at.classes.now.lists Deals at.round c.first-first.result) (sym c.deref.ensures.value)
    (subst (λ (s : Aspect). AreAmounts f at.classes.now.lists s at.round c.first-first.result c.in_ok-sums.sums.items) c.requires.aspect c.in_ok-sums.ensures)

pub row_of-requires : goal.row_of-requires
row_of-requires c =
    let at = c.args.deals.now in
    let in' = aspect_in (frame_in at.signals.now.game.now) at.aspect at.round at.has in
    row_fits at.signals.now.game.now at.classes.now at.parents c.requires.lossless at.round in'.0 in'.1 c.args.class c.first-first.result c.from.result
    (c.from.ensures ∙ c.size-members.ensures) c.deref.result.now (amounts (goal.at.row_of-requires c).After-deref) c.first-first.ensures.within
    c.first-first.ensures.member

pub returns : goal.returns
returns c =
    let at = c.args.deals.now in
    let f = frame_in at.signals.now.game.now in
    let lists = at.classes.now.lists in
    let sums = c.deref.result.now in
    let in' = aspect_in f at.aspect at.round at.has in
    let row = row_is at.signals.now.game.now at.classes.now at.parents c.requires.lossless at.round in'.0 in'.1 c.args.class c.first-first.result c.from.result
    (c.from.ensures ∙ c.size-members.ensures) sums (amounts (goal.at.returns c).After-deref) c.first-first.ensures.within c.first-first.ensures.member in
    if_ok c.row_of.result (λ v. v.items ≡ gathered c.from.result sums) (λ v. IsRow f lists at.round c.args.class v.items)
    (λ v e. subst (IsRow f lists at.round c.args.class) (sym e) row) c.row_of.ensures

pub size-members-requires : goal.size-members-requires
size-members-requires c = grind (arith, common_steps)

pub first-first-requires : goal.first-first-requires
first-first-requires c = grind (arith, common_steps)
