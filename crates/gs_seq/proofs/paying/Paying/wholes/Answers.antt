use Rattle.std.proofs.Common.{◌≡◌, ◌-◌, ◌∙◌, Vec, ap, arith, get_or, subst, sym}
use Rattle.std.specs.declared.alloc.Global.{Global}
use Rattle.gs_model.specs.{Frame.{round_of}, Positions.{at_end}}
use Rattle.gs_seq.specs.{Abstracts.{abstract_frame, lists_of}, Rows.{AreWholesIn}, declared.pair.Pair.{Pair}}
use Rattle.gs_seq.proofs.Wholed.{wholes_in_round, wholes_long}
use Rattle.gs_seq.proofs.paying.Paying.wholes.Goals as goal

pub returns : goal.returns
returns c =
    let a = c.args.self.now.form.now in
    let f = abstract_frame a in
    let round = round_of f (at_end c.args.self.now.end) in
    let read : Vec Pair Global = c.index.result.now in
    let place : c.from-round.result - 1 ≡ round - 1 = omega (arith, c.from-round.ensures, c.end_in.ensures.round) in
    let is : read ≡ get_or a.wholes.items (round - 1) read = c.index.ensures ∙ ap (λ k. get_or a.wholes.items k read) place in
    record {
      same = λ k l. c.are_same.ensures c.if-not-are_same.false k (omega (arith, l, c.end_class_total-count.ensures));
      wholes_are = subst (AreWholesIn f (lists_of a) round) (sym c.deref.ensures.value)
          (subst (λ (v : Vec Pair Global). AreWholesIn f (lists_of a) round v.items) (sym is)
          (wholes_in_round f (lists_of a) a.rows.items a.wholes.items a.paired a.wholed round read (omega arith) (omega arith)));
    }

pub index-requires : goal.index-requires
index-requires c =
    let a = c.args.self.now.form.now in
    omega (arith, wholes_long a.rows.items a.wholes.items a.wholed, c.from-round.ensures, c.end_in.ensures.round, c.requires)

pub overflow_sub-round : goal.overflow_sub-round
overflow_sub-round c = omega arith
