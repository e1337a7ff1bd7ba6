use Rattle.std.proofs.Common.{refl, ap, subst, arith}
use Rattle.gs_game.specs.Seen.{target_of}
use Rattle.gs_model.specs.FrameFacts.{IsFrom, IsInside}
use Rattle.gs_seq.specs.Abstracts.{abstract_frame}
use Rattle.gs_certificate.proofs.way.way_from.Goals as goal

pub round_at-requires : goal.round_at-requires
round_at-requires c = subst (IsInside (abstract_frame c.args.form.now)) (ap target_of c.in-Point.is) c.requires.inside

pub place_from-requires-clause-onward : goal.place_from-requires-clause-onward
place_from-requires-clause-onward c = subst (IsFrom c.args.from) (ap target_of c.in-Point.is) c.requires.onward

pub place_from-requires-clause-top : goal.place_from-requires-clause-top
place_from-requires-clause-top c = let l = subst (IsInside (abstract_frame c.args.form.now)) (ap target_of c.in-Point.is) c.requires.inside in omega (arith, l)

pub end_round-requires : goal.end_round-requires
end_round-requires c = subst (IsInside (abstract_frame c.args.form.now)) (ap target_of c.in-End.is) c.requires.inside

pub returns-in-Point-clause-way : goal.returns-in-Point-clause-way
returns-in-Point-clause-way c = record {
  inside = subst (IsInside (abstract_frame c.args.form.now)) (ap target_of c.in-Point.is) c.requires.inside;
  round_is = c.round_at.ensures.value;
  place_is = c.place_from.ensures;
}

pub returns-in-End-clause-way : goal.returns-in-End-clause-way
returns-in-End-clause-way c = record {
  inside = subst (IsInside (abstract_frame c.args.form.now)) (ap target_of c.in-End.is) c.requires.inside;
  round_is = c.end_round.ensures.value;
  place_is = refl;
}
