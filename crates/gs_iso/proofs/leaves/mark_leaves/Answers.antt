use Rattle.std.proofs.lemmas.Result.{IfOk-from_err}
use Rattle.std.proofs.Common.{◌≡◌, ◌==◌, ◌++◌, ◌<◌, ◌^◌, ◌∷◌, [], ℕ, ℤ, List, zero, suc, ap, map, refl, sym, ◌∙◌, subst, append_assoc, arith}
use Rattle.std.proofs.lemmas.{List.{append-nil}, List.Elements.{All-map, All-tail}}
use Rattle.std.specs.Prelude.{All, filter, unsigned_abs}
use Rattle.gs_model.specs.{Deals.{Deal, deals, path_weight}, Game.{round_count}, Signals.{signal_at}}
use Rattle.gs_model.proofs.Facing.{leaves_are_deals}
use Rattle.gs_tree.specs.Trees.{rules_of}
use Rattle.gs_iso.specs.Orders.{leaf_mark, leaf_of}
use Rattle.gs_iso.proofs.Light.{deals_light}
use Rattle.gs_iso.proofs.leaves.mark_leaves.Goals as goal

abbrev is_light : Deal → Type 0
is_light d = d.weight < 2 ^ 32

abbrev is_small : Deal → Type 0
is_small d = unsigned_abs d.outcome < 256

map_both : (path : ℕ) (ds : List Deal) → map (λ d. leaf_mark (leaf_of path d)) ds ≡ map leaf_mark (map (leaf_of path) ds)
map_both path [] = refl
map_both path (d ∷ ds) = ap (λ (l : List ℕ). leaf_mark (leaf_of path d) ∷ l) (map_both path ds)

one_more : (d : Deal) (ds : List Deal) → is_small d → All is_small ds → All is_small (d ∷ ds)
one_more d ds here rest zero e l = here
one_more d ds here rest (suc k) e l = rest k e (omega (arith, l))

none_is_small : All is_small []
none_is_small k d l = absurd (omega (arith, l))

pub loop-deal-init : goal.loop-deal-init
loop-deal-init c =
    let g = rules_of c.args.signals.now in
    let s = signal_at g (round_count g) c.args.signal in
    let e = c.into_iter-deal-iterator.ensures.into_iter_gives ∙ c.deals_of-deal-items.ensures in
    let path = c.path_weight-path.result in
    record {
      done = ap (λ (l : List ℕ). l ++ map (λ d. leaf_mark (leaf_of path d)) c.into_iter-deal-iterator.result) c.clear.ensures.items
          ∙ map_both path c.into_iter-deal-iterator.result
          ∙ ap (λ (p : ℕ). map leaf_mark (map (leaf_of p) c.into_iter-deal-iterator.result)) c.path_weight-path.ensures.value
          ∙ ap (λ (ds : List Deal). map leaf_mark (map (leaf_of (path_weight g.copies s)) ds)) e
          ∙ ap (map leaf_mark) (sym (leaves_are_deals g c.args.signal c.requires).2);
      light = subst (All is_light) (sym e) (deals_light g c.args.signal c.args.signals.now.game.now.limits);
      small = subst (All is_small) e;
    }

pub mark_of-requires-clause-few : goal.mark_of-requires-clause-few
mark_of-requires-clause-few c = subst (All is_light) c.in-Some.ensures.steps c.loop-deal.invariant.light 0 c.in-Some.deal (omega arith)

pub loop-deal-preserved : goal.loop-deal-preserved
loop-deal-preserved c =
    let mark : Deal → ℕ = λ d. leaf_mark (leaf_of c.path_weight-path.result d) in
    let deal : Deal = c.in-Some.deal in
    let rest : List Deal = c.next.new.self in
    let first : c.loop-deal.deal-iterator ≡ deal ∷ rest = c.in-Some.ensures.steps in
    let marks : List ℕ = c.loop-deal.marks.items in
    record {
      done = ap (λ (l : List ℕ). l ++ map mark rest) (c.in_ok-push.ensures.items ∙ ap (λ (p : ℕ). marks ++ p ∷ []) c.mark_of.ensures.mark)
          ∙ append_assoc marks (mark deal ∷ []) (map mark rest)
          ∙ ap (λ (l : List Deal). marks ++ map mark l) (sym first)
          ∙ c.loop-deal.invariant.done;
      light = All-tail is_light deal rest (subst (All is_light) first c.loop-deal.invariant.light);
      small = λ h. c.loop-deal.invariant.small (subst (All is_small) (sym first) (one_more deal rest c.mark_of.ensures.small h));
    }

pub returns : goal.returns
returns c = record {
  marks = let mark : Deal → ℕ = λ d. leaf_mark (leaf_of c.path_weight-path.result d) in
      let marks : List ℕ = c.loop-deal.marks.items in
      sym (append-nil marks) ∙ ap (λ (ds : List Deal). marks ++ map mark ds) (sym c.in-None.ensures.steps.0) ∙ c.loop-deal.invariant.done;
  small = let g = rules_of c.args.signals.now in
      let s = signal_at g (round_count g) c.args.signal in
      let P : ℕ × ℤ → Type 0 = λ l. unsigned_abs l.1 < 256 in
      subst (All P) (sym (leaves_are_deals g c.args.signal c.requires).2)
      (All-map P (leaf_of (path_weight g.copies s)) (filter (λ (d : Deal). d.one == c.args.signal) (deals g))
      (c.loop-deal.invariant.small (subst (All is_small) (sym c.in-None.ensures.steps.0) none_is_small)));
}

pub returns-in_err-push : goal.returns-in_err-push
returns-in_err-push c = let failed = c.from_residual.ensures.0 in record {
  marks = IfOk-from_err _ _ failed;
  small = IfOk-from_err _ _ failed;
}
