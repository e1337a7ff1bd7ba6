use Rattle.std.proofs.lemmas.Grind.{common_steps}
use Rattle.std.proofs.Common.{◌≡◌, ◌+◌, ◌<◌, length, ap, sym, ◌∙◌, subst, arith}
use Rattle.gs_model.specs.Frame.{player_at, point_count}
use Rattle.gs_seq.specs.{Abstracts.{abstract_frame, lists_of}, Firsts.{IsClear}, Slots.{slots_before}}
use Rattle.gs_seq.proofs.{Leaks.{slots_none}, Forms.{form_classes, form_in_range, form_walked}}
use Rattle.gs_best.specs.{Tables.{moves_of}, Puts.{ArePutBefore}}
use Rattle.gs_best.proofs.{AllOn.{puts_more, puts_same}, putting.put_moves.Goals.{then-chooser-player, else-chooser-player}}
use Rattle.gs_best.proofs.putting.put_moves.Goals as goal

pub loop-point-preserved : goal.loop-point-preserved
loop-point-preserved c =
    let a = c.args.form.now in
    let f = abstract_frame a in
    let lists = lists_of a in
    let move = moves_of f lists c.args.picks.now in
    let q = c.loop-point.point in
    let p = c.args.player in
    let inside : q < point_count f = omega (arith, c.loop-point-test.true, c.point_total-point-end.ensures) in
    let i = c.loop-point.invariant in
    elim c.if-chooser-player.branch [
      | then-chooser-player w ↦
          let own : player_at f q ≡ p = sym c.chooser.ensures ∙ w.if-chooser-player.true in
          let xs = c.loop-point.weights in
          let ys = w.put_point.new.weights in
          record {
            long = ap length w.weights-is ∙ (let k = w.put_point.auto.weights in omega (arith, k, i.long));
            puts = subst (λ zs. ArePutBefore f lists p move zs (q + 1)) (sym w.weights-is)
                (puts_more f (form_in_range a) lists (form_classes a) p (form_walked a p c.requires.some c.requires.two) move q xs ys inside i.puts
                w.put_point.ensures.kept w.put_point.ensures.here);
            clear = subst (λ zs. IsClear (slots_before f lists p (q + 1)) zs) (sym w.weights-is) w.put_point.ensures.clear;
          }
      | else-chooser-player w ↦
          let other = λ (e : player_at f q ≡ p). w.if-chooser-player.false (c.chooser.ensures ∙ e) in
          record {
            long = ap length w.weights-is ∙ i.long;
            puts = subst (λ zs. ArePutBefore f lists p move zs (q + 1)) (sym w.weights-is) (puts_same f lists p move q c.loop-point.weights i.puts other);
            clear = subst (λ zs. IsClear (slots_before f lists p (q + 1)) zs) (sym w.weights-is)
                (λ k l. i.clear k (omega (arith, l, slots_none f lists p q other)));
          }
    ]

pub returns : goal.returns
returns c =
    let a = c.args.form.now in
    let f = abstract_frame a in
    let all : c.loop-point.point ≡ point_count f = omega (arith, c.loop-point-test.false, c.point_total-point-end.ensures, c.loop-point.auto.point-end) in
    subst (ArePutBefore f (lists_of a) c.args.player (moves_of f (lists_of a) c.args.picks.now) c.loop-point.weights) all c.loop-point.invariant.puts

pub put_point-requires : goal.put_point-requires
put_point-requires c = grind (arith, common_steps)

pub loop-point-init : goal.loop-point-init
loop-point-init c = grind arith
