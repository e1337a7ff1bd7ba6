use Rattle.std.proofs.{Common.{◌≡◌, ℕ, List, ◌++◌, ◌∷◌, [], ◌<◌, ◌+◌, ap, ◌∙◌, arith, append_assoc}, lemmas.Grind.{common_steps}}
use Rattle.std.specs.{String.{string_bytes}, Prelude.{encode_utf8}}
use Rattle.gs_model.specs.Betting.{act}
use Rattle.gs_bet.specs.{Grammar.{Prints}, TreeView.{plain, plain_moves}, declared.shape.Act.{out-Act}}
use Rattle.gs_bet.proofs.{TreeLaws.{plain-act, plain_act-out}, Printing.{comma_small, next_sound, next_written, small_player, sound_moves}}
use Rattle.gs_bet.proofs.writing.+push_tree.Goals as goal

pub loop-next-init : goal.loop-next-init
loop-next-init t c =
    let is_act : plain c.args.tree.now ≡ act (out-Act c.in-Act.act).player (plain_moves c.deref-next-items.result.now) =
    rw (c.in-Act.is, c.deref-next-items.ensures.value) (plain-act c.in-Act.act ∙ plain_act-out c.in-Act.act) in
    let sound : Prints (act (out-Act c.in-Act.act).player (plain_moves c.deref-next-items.result.now)) = rw is_act at c.requires in
    let small : (out-Act c.in-Act.act).player < 3 = small_player (out-Act c.in-Act.act).player (plain_moves c.deref-next-items.result.now) sound in
    let digit : encode_utf8 c.from.result ≡ (48 + (out-Act c.in-Act.act).player) ∷ [] = c.in_ok-push-in-Act.ensures.ascii (omega arith)
    ∙ ap (λ (k : ℕ). k ∷ []) c.from.ensures in
    let pushed : string_bytes c.push-in-Act.new.self ≡ string_bytes c.args.out.now
    ++ (48 + (out-Act c.in-Act.act).player) ∷ [] = c.in_ok-push-in-Act.ensures.bytes ∙ ap (λ (x : List ℕ). string_bytes c.args.out.now ++ x) digit in
    record {
      text = rw (is_act, pushed) (simp append_assoc);
      sound = sound_moves (out-Act c.in-Act.act).player (plain_moves c.deref-next-items.result.now) sound;
      before = omega arith;
    }

pub loop-next-preserved : goal.loop-next-preserved
loop-next-preserved t c =
    let h = next_sound c.loop-next.invariant.sound.0 c.deref-next-items.result.now c.loop-next.next-index c.next-item.result c.loop-next-test.true
    c.next-item.is c.loop-next.invariant.sound.1 in
    record {
      text = next_written c.deref-next-items.result.now c.loop-next.next-index c.next-item.result c.loop-next.before (string_bytes c.loop-next.out)
          (string_bytes c.push_front.new.out) (string_bytes c.push_tree.new.out) _ c.loop-next-test.true c.next-item.is
          c.in_ok-push_front-in-Act.ensures c.in_ok-push_tree-in-Act.ensures c.loop-next.invariant.text;
      sound = (c.loop-next.invariant.sound.0, h.rest);
      before = comma_small;
    }

pub push_front-requires-clause-letter : goal.push_front-requires-clause-letter
push_front-requires-clause-letter t c =
    (next_sound c.loop-next.invariant.sound.0 c.deref-next-items.result.now c.loop-next.next-index c.next-item.result c.loop-next-test.true
    c.next-item.is c.loop-next.invariant.sound.1).letter

pub returns-after-loop-next : goal.returns-after-loop-next
returns-after-loop-next t c = grind (arith, common_steps)

pub loop-next-smaller : goal.loop-next-smaller
loop-next-smaller t c = omega arith

pub push_front-requires-clause-before : goal.push_front-requires-clause-before
push_front-requires-clause-before t c = grind arith

pub offset_bounds-next-items-next-index : goal.offset_bounds-next-items-next-index
offset_bounds-next-items-next-index t c = omega arith
