use Rattle.std.proofs.Common.{◌≡◌, ap, sym, ◌∙◌, subst, of_z, to_z, to_z-of_z}
use Rattle.std.specs.Prelude.{pos, ◌-ℤ◌, ◌*ℤ◌}
use mir.Syntax.{w64}
use Rattle.gs_model.specs.{Classes.{IsClass}, Frame.{round_of}, Positions.{at_end}}
use Rattle.gs_play.specs.{Lines.{wrapped}, Sides.{side_frame, side_lists}, Tallies.{IsTally, risen}}
use Rattle.gs_play.proofs.{Pushed.{walked}, Tells.{choices_kept}, Turned.{risen_none, turned_fed}}
use Rattle.gs_play.proofs.pushing.turn_end.Goals as goal

pub returns-then-more-eq0 : goal.returns-then-more-eq0
returns-then-more-eq0 c = record {
  kept = choices_kept c.requires.room;
  turned = let side = c.args.side.now in
      let none : c.args.more ≡ pos 0 = sym (to_z-of_z c.ranges.more) ∙ ap (to_z w64) c.if-more-eq0.true in
      λ z pays rise lz leads h.
      subst (λ r. IsTally (side_frame side) (side_lists side) side.player pays r c.args.now c.args.tally.now)
      (sym (ap (risen rise z c.args.class) none ∙ risen_none rise z c.args.class)) h;
}

pub feed-requires-clause-room : goal.feed-requires-clause-room
feed-requires-clause-room c = c.requires.room

pub returns : goal.returns
returns c = record {
  kept = c.feed.ensures.kept;
  turned = let side = c.args.side.now in
      let f = side_frame side in
      let way = c.requires.way in
      let kept : to_z w64 (of_z w64 c.args.more) ≡ c.args.more = to_z-of_z c.ranges.more in
      λ z pays rise lz leads h.
      let class : IsClass (side_lists side) (round_of f (at_end z)) c.args.class =
      subst (λ r. IsClass (side_lists side) r c.args.class) (way.round ∙ ap (round_of f) leads) c.requires.class in
      turned_fed f (side_lists side) side.player (walked side) pays rise c.args.now z c.args.class c.args.more lz class c.args.tally.now h c.requires.room
      c.args.way (record { way = way; leads = leads }) c.rising.result (c.rising.ensures.at ∙ ap (λ x. wrapped (pos 0 -ℤ x *ℤ pos c.args.now)) kept)
      (c.rising.ensures.slope ∙ kept) c.feed.new.tally c.feed.ensures.class c.feed.ensures.fed;
}
