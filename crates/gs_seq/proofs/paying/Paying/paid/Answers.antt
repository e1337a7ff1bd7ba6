use Rattle.std.proofs.Common.{◌-◌, ◌∙◌, ap, sym, subst, arith, get_or}
use Rattle.std.specs.Prelude.{IfSome, pos, ◌*ℤ◌, unsigned_abs}
use Rattle.gs_model.specs.{Classes.{IsClass}, Frame.{end_at}}
use Rattle.gs_seq.specs.{Abstracts.{abstract_frame, lists_of}, Payoffs.{AreWholesFor, pair_pays, row_pays}, Rows.{IsRow}, declared.pair.Pair.{Pair}}
use Rattle.gs_seq.proofs.{Forms.{given_in, one_or_two}, Signed.{read_back}, Turns.{IsAlong}, AlongRows.{row_numbers, row_slim, row_total}}
use Rattle.gs_seq.proofs.{Wholes.{same_sum, whole_few, whole_moderate}, paying.Paying.paid.Goals.{After-row, In-Some}}
use Rattle.gs_seq.proofs.paying.Paying.paid.Goals as goal

pub row-requires-clause-listed : goal.row-requires-clause-listed
row-requires-clause-listed c = omega (arith, c.end_in-at.ensures.round, c.requires.listed)

pub row-requires-clause-class : goal.row-requires-clause-class
row-requires-clause-class c = subst (λ r. IsClass (lists_of c.args.self.now.form.now) r c.args.class) (sym c.end_in-at.ensures.round) c.requires.class

-- the row of the class
along : (c : After-row) → IsAlong c.args.self.now.form.now c.args.self.now.player c.args.self.now.end c.args.class c.row.result.now
along c = record {
  some = c.args.self.now.some;
  two = c.args.self.now.two;
  inside = c.args.self.now.inside;
  is_row = subst (λ r. IsRow (abstract_frame c.args.self.now.form.now) (lists_of c.args.self.now.form.now) r c.args.class c.row.result.now) c.end_in-at.ensures.round
      c.row.ensures;
}

pub row_paid-requires : goal.row_paid-requires
row_paid-requires c = record {
  slim = row_slim c.args.self.now.form.now c.args.self.now.player c.args.self.now.end c.args.class _ (along (goal.at.row_paid-requires c).After-row)
      c.args.self.now.numbers.now c.args.self.now.wide c.args.self.now.few;
  numbers = row_numbers c.args.self.now.form.now c.args.self.now.player c.args.self.now.end c.args.class _
      (along (goal.at.row_paid-requires c).After-row) c.args.self.now.numbers.now c.args.self.now.wide c.args.self.now.few;
}

pub returns-in-None : goal.returns-in-None
returns-in-None c = read_back c.row_paid.result _ (record { sfits = c.row_paid.type_inv }) (c.row_paid.ensures
    ∙ ap (λ e. row_pays c.args.self.now.player e c.args.self.now.numbers.now c.row.result.now) c.end_in-at.ensures.value
    ∙ row_total c.args.self.now.form.now c.args.self.now.player c.args.self.now.end c.args.class _ (along (goal.at.returns-in-None c).After-row) c.args.self.now.numbers.now c.args.self.now.wide
    c.args.self.now.few)

-- what is known of the whole rows
given_wholes : (c : In-Some) → AreWholesFor (abstract_frame c.args.self.now.form.now) (lists_of c.args.self.now.form.now) c.args.self.now.end c.args.self.now.numbers.now c.in-Some.wholes.now
given_wholes c = subst
    (λ o. IfSome o (λ w. AreWholesFor (abstract_frame c.args.self.now.form.now) (lists_of c.args.self.now.form.now) c.args.self.now.end c.args.self.now.numbers.now w.now))
    c.in-Some.is c.requires.wholes

abbrev no_pair : Pair
no_pair = record { two = 0; weight = 0; signed = pos 0 }

pub times_pays-requires : goal.times_pays-requires
times_pays-requires c = record {
  few = let a = c.args.self.now.form.now in
      let g = given_in a in
      let row = (given_wholes (goal.at.times_pays-requires c).In-Some).wholes_are.each c.args.class no_pair c.requires.class in
      omega (
        arith,
        whole_few (abstract_frame a) g.in_range (lists_of a) g.classes c.args.self.now.player (g.walked c.args.self.now.player c.args.self.now.some c.args.self.now.two) g.modest
            c.args.self.now.end c.args.self.now.inside c.args.class row.0 row.1,
        ap (λ (p : Pair). p.weight) row.2,
      );
  moderate = let a = c.args.self.now.form.now in
      let g = given_in a in
      let row = (given_wholes (goal.at.times_pays-requires c).In-Some).wholes_are.each c.args.class no_pair c.requires.class in
      omega (
        arith,
        whole_moderate (abstract_frame a) g.in_range (lists_of a) g.classes c.args.self.now.player (g.walked c.args.self.now.player c.args.self.now.some c.args.self.now.two) g.modest
            c.args.self.now.end c.args.self.now.inside c.args.class row.0 row.1,
        ap (λ (p : Pair). p.weight) row.2,
        ap (λ (p : Pair). unsigned_abs p.signed) row.2,
      );
  number = omega (
    arith,
    c.number_of-number.ensures,
    c.args.self.now.few (c.args.class - 1) (omega (arith, c.requires.class.0, c.requires.class.1)),
  );
}

pub returns-in-Some : goal.returns-in-Some
returns-in-Some c =
    let a = c.args.self.now.form.now in
    let g = given_in a in
    let player = c.args.self.now.player in
    let number = c.number_of-number.result in
    let row = (given_wholes (goal.at.returns-in-Some c).In-Some).wholes_are.each c.args.class no_pair c.requires.class in
    let all = same_sum (abstract_frame a) g.in_range (lists_of a) g.classes player (g.walked player c.args.self.now.some c.args.self.now.two) g.modest
    c.args.self.now.end c.args.self.now.inside c.args.class row.0 row.1 (one_or_two player c.args.self.now.some c.args.self.now.two) c.args.self.now.numbers.now number
    (λ i l. (given_wholes (goal.at.returns-in-Some c).In-Some).same i l
    ∙ sym ((given_wholes (goal.at.returns-in-Some c).In-Some).same (c.args.class - 1) (omega (arith, c.requires.class.0, c.requires.class.1)))
    ∙ sym c.number_of-number.ensures) in
    read_back c.times_pays.result _ (record { sfits = c.times_pays.type_inv }) (c.times_pays.ensures
    ∙ ap (λ e. pos number *ℤ pair_pays player e (get_or c.in-Some.wholes.now (c.args.class - 1) no_pair)) c.end_in-at.ensures.value
    ∙ ap (λ p. pos number *ℤ pair_pays player (end_at (abstract_frame a) c.args.self.now.end) p) row.2
    ∙ all)

pub bounds-wholes-class : goal.bounds-wholes-class
bounds-wholes-class c = grind arith
