use Rattle.std.proofs.lemmas.Result.{IfOk-from_err}
use Rattle.std.proofs.Common.{◌∙◌, ◌++◌, ℕ, List, inr, refl, ap, subst, sym, arith}
use Rattle.std.specs.{Global.{Vec}, List.Sorted.{IsPermutation}}
use Rattle.gs_lossless.specs.{Hands.{IsKindOf, KeepsKinds}, declared.kinds.Kind.{Kind}}
use Rattle.std.proofs.lemmas.List.Sorted.{IsPermutation-refl}
use Rattle.gs_lossless.proofs.Kept.{kept_more, kind_last, kind_moved}
use Rattle.gs_lossless.proofs.kinds.kind_of.Goals as goal

pub returns-in-Some-clause-kind : goal.returns-in-Some-clause-kind
returns-in-Some-clause-kind c =
    let hands : List ℕ = c.args.hands.now in
    let row : Vec ℕ = c.sort_unstable.new.self in
    let moved : IsPermutation hands row.items =
    subst (λ (l : List ℕ). IsPermutation l row.items) (c.in_ok-extend_from_slice.ensures.items ∙ ap (λ (l : List ℕ). l ++ hands) c.clear.ensures.items)
    c.sort_unstable.ensures.permutation in
    kind_moved c.args.kinds.now.list.items c.in-Some.kind.now row.items hands (c.requires.kept row c.in-Some.kind.now (sym c.in-Some.ensures.value)) moved

pub returns-in-Some-clause-list : goal.returns-in-Some-clause-list
returns-in-Some-clause-list c = grind arith

pub returns : goal.returns
returns c = record {
  kind = let hands : List ℕ = c.args.hands.now in
      let made : Vec ℕ = c.in_ok-hands.hands in
      let kinds : List Kind = c.args.kinds.now.list.items in
      let last : Kind = record { board = c.args.board; hands = made } in
      subst (λ (ks : List Kind). IsKindOf ks c.len-kind.result hands) (sym c.in_ok-push.ensures.items)
      (kind_last kinds last c.len-kind.result hands (c.len-kind.ensures ∙ c.args.kinds.now.list.ok.0)
      (subst (IsPermutation made.items) c.in_ok-hands.ensures.items (IsPermutation-refl made.items)));
  kept = let hands : List ℕ = c.args.hands.now in
      let sorted : List ℕ = c.sort_unstable.new.self.items in
      let row : Vec ℕ = c.in_ok-row.row in
      let kinds : List Kind = c.args.kinds.now.list.items in
      let last : Kind = record { board = c.args.board; hands = c.in_ok-hands.hands } in
      let moved : IsPermutation c.in_ok-hands.hands.items sorted =
      subst (λ (l : List ℕ). IsPermutation l sorted) (c.in_ok-extend_from_slice.ensures.items ∙ ap (λ (l : List ℕ). l ++ hands) c.clear.ensures.items
      ∙ sym c.in_ok-hands.ensures.items) c.sort_unstable.ensures.permutation in
      let kept : IsPermutation c.in_ok-hands.hands.items row.items = subst (IsPermutation c.in_ok-hands.hands.items)
      (sym (c.in_ok-row.ensures.items ∙ c.deref.ensures.value)) moved in
      let all : KeepsKinds _ c.insert.new.self = kept_more kinds last c.args.kinds.now.seen c.insert.new.self row c.len-kind.result c.requires.kept
      (omega (arith, c.len-kind.ensures, c.args.kinds.now.list.ok.0)) kept c.in_ok-insert.ensures.updates.0 in
      subst (λ (ks : List Kind). KeepsKinds ks c.insert.new.self) (sym c.in_ok-push.ensures.items) all;
  list = inr (record {
    last = record { board = c.args.board; hands = c.in_ok-hands.hands };
    joined = c.in_ok-push.ensures.items;
    board_is =
        refl;
    hands_are = c.in_ok-hands.ensures.items;
  });
}

pub returns-in_err-extend_from_slice : goal.returns-in_err-extend_from_slice
returns-in_err-extend_from_slice c = let failed = c.from_residual.ensures.0 in record {
  kind = IfOk-from_err _ _ failed;
  kept = IfOk-from_err _ _ failed;
  list = IfOk-from_err _ _ failed;
}

pub returns-in_err-hands : goal.returns-in_err-hands
returns-in_err-hands c = let failed = c.from_residual-in_err-hands.ensures.0 in record {
  kind = IfOk-from_err _ _ failed;
  kept = IfOk-from_err _ _ failed;
  list = IfOk-from_err _ _ failed;
}

pub returns-in_err-push : goal.returns-in_err-push
returns-in_err-push c = let failed = c.from_residual-in_err-push.ensures.0 in record {
  kind = IfOk-from_err _ _ failed;
  kept = IfOk-from_err _ _ failed;
  list = IfOk-from_err _ _ failed;
}

pub returns-in_err-row : goal.returns-in_err-row
returns-in_err-row c = let failed = c.from_residual-in_err-row.ensures.0 in record {
  kind = IfOk-from_err _ _ failed;
  kept = IfOk-from_err _ _ failed;
  list = IfOk-from_err _ _ failed;
}

pub returns-in_err-insert : goal.returns-in_err-insert
returns-in_err-insert c = let failed = c.from_residual-in_err-insert.ensures.0 in record {
  kind = IfOk-from_err _ _ failed;
  kept = IfOk-from_err _ _ failed;
  list = IfOk-from_err _ _ failed;
}
