use Rattle.std.proofs.{Common.{◌≡◌, ◌*◌, ℕ, List, true, get_or, sym, ap, ◌∙◌, arith, cond, subst}, lemmas.Grind.{get_or_default_zero}}
use Rattle.std.specs.{Global.{Vec}, Int.{bit_at}, Prelude.{MatchOption}}
use Rattle.gs_model.specs.{Deals.{path_weight, own_ways, same_public}, Game.{Game, round_count}, Signals.{signal_at, left_by}}
use Rattle.gs_tree.specs.{Masks.{AreMasks, HasMasks}, Trees.{rules_of}, Walk.{deal_at, last_count}}
use Rattle.gs_tree.proofs.{Weighed.{mask_weight_is, pair_weight_is}, Weights.{deal_small}}
use Rattle.gs_tree.proofs.signals.Signals.weight.Goals as goal

pub overflow_mul-result : goal.overflow_mul-result
overflow_mul-result c =
    let z = c.args.self.now in
    let g : Game = rules_of z in
    let same : same_public (signal_at g (round_count g) c.args.one) (signal_at g (round_count g) c.args.two) ≡ true = c.requires.same in
    let both : ℕ = path_weight g.copies (signal_at g (round_count g) c.args.one) * own_ways (left_by g.copies (signal_at g (round_count g) c.args.one))
    (signal_at g (round_count g) c.args.two) in
    let weight : c.path_weight.result * c.own_ways.result ≡ (deal_at g c.args.one c.args.two).weight =
    ap (λ w. w * c.own_ways.result) c.path_weight.ensures.value
    ∙ ap (λ w. path_weight g.copies (signal_at g (round_count g) c.args.one) * w) c.own_ways.ensures
    ∙ sym (ap (λ b. cond b both 0) same) in
    omega (arith, weight, deal_small g c.args.one c.args.two c.requires.one_in c.requires.two_in, z.game.now.limits.weight_in)

pub returns-then-self : goal.returns-then-self
returns-then-self c =
    let z = c.args.self.now in
    c.pair_weight.ensures ∙ pair_weight_is (rules_of z) (z.sound.even c.if-self.true) c.args.one c.args.two c.requires.one_in c.requires.two_in c.requires.same

pub returns-in-Some : goal.returns-in-Some
returns-in-Some c =
    let z = c.args.self.now in
    let g : Game = rules_of z in
    let masks : List ℕ = c.in-Some.masks.items in
    let h : AreMasks g masks = subst (λ m. MatchOption m (HasMasks g → last_count g ≡ 0) (λ (v : Vec ℕ). AreMasks g v.items)) c.in-Some.is z.sound.masked in
    let one : c.index.result.now ≡ get_or masks c.args.one 0 = c.index.ensures
    ∙ get_or_default_zero masks c.args.one c.index.result.now (omega (arith, h.long, c.requires.one_in)) in
    let two : c.index-in-Some.result.now ≡ get_or masks c.args.two 0 = c.index-in-Some.ensures
    ∙ get_or_default_zero masks c.args.two c.index-in-Some.result.now (omega (arith, h.long, c.requires.two_in)) in
    c.apart.ensures ∙ mask_weight_is g h.single c.args.one c.args.two c.index.result.now c.index-in-Some.result.now c.requires.one_in c.requires.two_in
    c.requires.same
    (λ card. ap (λ n. bit_at n card) one ∙ h.held c.args.one card c.requires.one_in)
    (λ card. ap (λ n. bit_at n card) two ∙ h.held c.args.two card c.requires.two_in)

pub index-requires-in-Some : goal.index-requires-in-Some
index-requires-in-Some c = grind arith

pub returns : goal.returns
returns c = grind arith
