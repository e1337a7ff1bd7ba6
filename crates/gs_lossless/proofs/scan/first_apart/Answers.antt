use Rattle.std.proofs.Common.{true, true≢false, ◌≡◌, ◌≤◌, ◌<◌, ◌∙◌, ℕ, Option, None, Some, length, subst, sym, arith}
use Rattle.std.specs.Prelude.{IfOk, is_some}
use Rattle.gs_model.specs.{Classes.{ClassLists, list_of}, Frame.{Frame, frame_of}, Signals.{signals}}
use Rattle.gs_model.proofs.Walked.{last_round_of}
use Rattle.gs_tree.specs.{Trees.{rules_of}, declared.signals.Signals.{Signals}}
use Rattle.gs_lossless.specs.{Scans.{IsFirstApart}, declared.aspects.Aspect.{Aspect}}
use Rattle.gs_lossless.proofs.{Descent.{list_long}, AspectOf.{as_asked}, Scanned.{aspect_in}, Settled.{single_agrees}}
use Rattle.gs_lossless.proofs.scan.first_apart.Goals as goal

pub returns-then-are_alone : goal.returns-then-are_alone
returns-then-are_alone c =
    let g = rules_of c.args.grouped.now.signals.now in
    let classes = c.args.grouped.now.classes.now in
    let h = aspect_in (frame_of g) c.args.aspect c.args.round c.requires.aspect in
    let long = list_long g classes c.args.grouped.now.parents c.args.round h.0 (omega (arith, h.1, last_round_of g)) in
    λ s l. let within : s < length (list_of classes.lists c.args.round) = omega (arith, long, l, c.requires.within) in
    single_agrees (frame_of g) classes.lists c.args.aspect c.args.round s within
    (c.are_alone.ensures c.if-are_alone.true s within)

-- a first signal that differs is the same of more signals
of_more : (f : Frame) (lists : ClassLists) (aspect : Aspect) (round few end : ℕ) (o : Option ℕ) → few ≤ end → is_some o ≡ true
    → IsFirstApart f lists aspect round few o → IsFirstApart f lists aspect round end o
of_more f lists aspect round few end None l e is = absurd (true≢false (sym e))
of_more f lists aspect round few end (Some s) l e is = (omega (arith, is.0, l), is.1, is.2)

pub returns-then-is_some : goal.returns-then-is_some
returns-then-is_some c =
    let at = c.in_ok-at.ensures in
    let o = c.in_ok-apart.apart in
    let few = c.in_ok-at.at in
    as_asked (λ s k a m. IsFirstApart (frame_of (rules_of s)) k.lists a m c.args.end o) at.signals at.classes at.aspect
    (of_more (frame_of (rules_of few.signals.now)) few.classes.now.lists few.aspect few.round 64 c.args.end o (omega (arith, c.if-end-ge-MANY.true))
    (sym c.is_some.ensures ∙ c.if-is_some.true) c.in_ok-apart.ensures)

pub returns : goal.returns
returns c =
    let at = c.in_ok-at.ensures in
    let late = c.in_ok-at-2.ensures in
    as_asked (λ s k a m. IfOk c.apart_before-2.result (IsFirstApart (frame_of (rules_of s)) k.lists a m c.args.end)) (late.signals ∙ at.signals)
    (late.classes ∙ at.classes) (late.aspect.0 ∙ at.aspect.0, late.aspect.1 ∙ at.aspect.1) c.apart_before-2.ensures

-- what is known of the round that is asked for holds of the aspect
in_round : (s asked : Signals) (k round n : ℕ) → s ≡ asked → k ≡ round → n ≤ length (signals (rules_of asked) round) → n ≤ length (signals (rules_of s) k)
in_round s asked k round n e is l =
    subst (λ (t : Signals). n ≤ length (signals (rules_of t) k)) (sym e) (subst (λ (m : ℕ). n ≤ length (signals (rules_of asked) m)) (sym is) l)

pub apart_before-requires-2 : goal.apart_before-requires-2
apart_before-requires-2 c =
    let at = c.in_ok-at.ensures in
    let late = c.in_ok-at-2.ensures in
    in_round _ _ _ _ c.args.end (late.signals ∙ at.signals) (late.aspect.1 ∙ at.aspect.1) c.requires.within

pub apart_before-requires : goal.apart_before-requires
apart_before-requires c =
    let at = c.in_ok-at.ensures in
    in_round _ _ _ _ 64 at.signals at.aspect.1 (omega (arith, c.if-end-ge-MANY.true, c.requires.within))

pub are_alone-requires-clause-some : goal.are_alone-requires-clause-some
are_alone-requires-clause-some c = grind arith
