use Rattle.std.proofs.{Common.{◌≡◌, ◌+◌, ◌<◌, ◌∙◌, ◌↔◌, List, ℕ, ap, arith, get_or, length, replicate, rules, set, subst, sym, take}, lemmas.Bool.Decides.{Decides-eqb}}
use Rattle.std.proofs.lemmas.List.{get_or-take, get_or_read, take_all}
use Rattle.std.specs.Prelude.{nat_eq}
use Rattle.gs_lossless.specs.Alike.{AreAlike, AreStandIns}
use Rattle.gs_model.specs.{Game.{round_count}, Isomorphism.{Isomorphic}, Signals.{signal_at, signals}}
use Rattle.gs_tree.specs.{Trees.{rules_of}, Walk.{last_count}}
use Rattle.gs_iso.specs.Numbers.{IsLeafSignature}
use Rattle.gs_iso.proofs.{Numbered.{AreNumbered, numbered_again, numbered_more, numbers_are}, Alike.{leaf_law, signature_like}}
use Rattle.gs_iso.proofs.{Becoming.{AreBecoming, becoming_more, becoming_none}, Rounds.{isomorphic_last}}
use Rattle.gs_iso.proofs.leaves.leaf_numbers.Goals.{After-count-count, then-first-signal, else-first-signal+in_ok-number}
use Rattle.gs_iso.proofs.leaves.leaf_numbers.Goals as goal

-- the signals are those of the last round
all : (c : After-count-count) → c.count-count.result ≡ last_count (rules_of c.args.signals.now)
all c = c.count-count.ensures.value ∙ ap (λ n. length (signals (rules_of c.args.signals.now) n)) c.rounds.ensures.value

-- a signal has a place in a list with an entry for each
below_len : (n count most long len : ℕ) → n < count → count ≡ most → long ≡ most → len ≡ long → n < len
below_len n count most long len l a b e = omega (arith, l, a, b, e)

earlier : (first signal len : ℕ) → first < signal → signal < len → first < len
earlier first signal len l m = omega (arith, l, m)

pub loop-signal-init : goal.loop-signal-init
loop-signal-init c =
    let g = rules_of c.args.signals.now in
    let zeros : List ℕ = replicate (last_count g) 0 in
    let all : c.count-count.result ≡ last_count g = c.count-count.ensures.value ∙ ap (λ n. length (signals g n)) c.rounds.ensures.value in
    let read : c.deref.result.now ≡ zeros = c.deref.ensures.value ∙ c.in_ok-keys.ensures.items_if_clones_equal (λ y k. search rules)
    ∙ ap (λ n. replicate n 0) all in
    let stands = subst (λ (ks : List ℕ). AreStandIns g ks c.in_ok-numbers.numbers.items) read c.in_ok-numbers.ensures in
    becoming_none g zeros c.new-seen.result.keys c.in_ok-numbers.numbers.items stands c.new-seen.ensures.empty

pub loop-signal-preserved : goal.loop-signal-preserved
loop-signal-preserved c =
    let g = rules_of c.args.signals.now in
    let h = c.loop-signal.invariant in
    let keys : List ℕ = replicate (last_count g) 0 in
    let numbers = c.loop-signal.numbers.items in
    let signal = c.loop-signal.signal in
    let here : signal < length (signals g (round_count g)) =
    omega (arith, c.loop-signal-test.true, c.count-count.ensures.value, ap (λ n. length (signals g n)) c.rounds.ensures.value) in
    elim c.if-first-signal.branch [
      | then-first-signal w ↦
          let j = c.index-first.result.now in
          let n = w.index.result.now in
          let first : j ≡ get_or numbers signal 0 = get_or_read numbers signal j (omega (arith, here, h.long)) c.index-first.ensures 0 in
          let like : AreAlike g keys signal j = subst (λ k. AreAlike g keys signal k) (sym first) (h.alike signal (omega arith) here) in
          let read : n ≡ get_or (take signal numbers) j n = w.index.ensures ∙ sym (get_or-take signal numbers j n w.if-first-signal.true) in
          subst (λ ks. AreBecoming g keys ks (set numbers signal c.if-first-signal.number) (signal + 1)) (sym (ap (λ s. s.keys) w.seen-is))
          (subst (λ k. AreBecoming g keys c.loop-signal.seen.keys (set numbers signal k) (signal + 1)) (sym w.number-is)
          (becoming_more g keys c.loop-signal.seen.keys c.loop-signal.seen.keys numbers signal n h here
          (λ e. numbered_again nat_eq Decides-eqb (IsLeafSignature g) _ _ _ _ j n h.done w.if-first-signal.true read
          (signature_like g keys signal j here (omega (arith, w.if-first-signal.true, here)) like) e)))
      | else-first-signal+in_ok-number w ↦
          let n = w.in_ok-number.ensures in
          let seen = w.signature_number.new.seen.keys in
          subst (λ ks. AreBecoming g keys ks (set numbers signal c.if-first-signal.number) (signal + 1)) (sym (ap (λ s. s.keys) w.seen-is))
          (subst (λ k. AreBecoming g keys seen (set numbers signal k) (signal + 1)) (sym w.number-is)
          (becoming_more g keys c.loop-signal.seen.keys seen numbers signal w.in_ok-number.number h here
          (λ e. numbered_more nat_eq Decides-eqb (IsLeafSignature g) _ _ _ _ _ _ _ h.done n.signs n.kept n.number n.few n.unique e)))
    ]

pub returns : goal.returns
returns c =
    let g = rules_of c.args.signals.now in
    let r = round_count g in
    let h = c.loop-signal.invariant in
    let numbers = c.loop-signal.numbers.items in
    let count = ap (λ n. length (signals g n)) c.rounds.ensures.value in
    let whole : take c.loop-signal.signal numbers ≡ numbers = take_all c.loop-signal.signal numbers
    (omega (arith, h.long, count, c.count-count.ensures.value, c.loop-signal-test.false)) in
    let done = subst (λ (ns : List ℕ). AreNumbered nat_eq Decides-eqb (IsLeafSignature g) c.loop-signal.seen.keys ns c.loop-signal.signal) whole h.done in
    record {
      long = h.long;
      same = λ i j li lj. numbers_are nat_eq Decides-eqb (IsLeafSignature g) c.loop-signal.seen.keys numbers done.distinct done.leads
          (λ i j. Unit {0}) (λ i j. Isomorphic g r (signal_at g r i) (signal_at g r j))
          (λ i j a b li lj one ha hb. subst (λ P. (a ≡ b) ↔ P) (sym (isomorphic_last g (signal_at g r i) (signal_at g r j)))
          (leaf_law g i j a b ha hb)) i j li lj tt;
    }

pub index_mut-requires : goal.index_mut-requires
index_mut-requires c =
    let h = c.loop-signal.invariant in
    below_len c.loop-signal.signal _ _ _ _ c.loop-signal-test.true (all (goal.at.index_mut-requires c).After-count-count) h.long c.loop-signal.numbers.ok.0

pub index-first-requires : goal.index-first-requires
index-first-requires c =
    let h = c.loop-signal.invariant in
    below_len c.loop-signal.signal _ _ _ _ c.loop-signal-test.true (all (goal.at.index-first-requires c).After-count-count) h.long
    c.loop-signal.numbers.ok.0

pub index-requires : goal.index-requires
index-requires c =
    let h = c.loop-signal.invariant in
    earlier c.index-first.result.now c.loop-signal.signal _ c.if-first-signal.true
    (below_len c.loop-signal.signal _ _ _ _ c.loop-signal-test.true (all (goal.at.index-requires c).After-count-count) h.long c.loop-signal.numbers.ok.0)

pub signature_number-requires-clause-in_range : goal.signature_number-requires-clause-in_range
signature_number-requires-clause-in_range c =
    subst (λ n. c.loop-signal.signal < n) (all (goal.at.signature_number-requires-clause-in_range c).After-count-count) c.loop-signal-test.true

pub stand_ins_at-requires : goal.stand_ins_at-requires
stand_ins_at-requires c =
    omega (arith, c.deref.ensures.len, c.in_ok-keys.ensures.len, all (goal.at.stand_ins_at-requires c).After-count-count)

pub overflow_cast-signal-in-loop-signal : goal.overflow_cast-signal-in-loop-signal
overflow_cast-signal-in-loop-signal c = omega (arith, c.loop-signal-test.true, c.count-count.type_inv)

pub signature_number-requires-clause-few : goal.signature_number-requires-clause-few
signature_number-requires-clause-few c = omega (arith, c.loop-signal.invariant.done.few, c.loop-signal-test.true, c.count-count.type_inv)

pub overflow_cast-signal : goal.overflow_cast-signal
overflow_cast-signal c = omega (arith, c.loop-signal-test.true, c.count-count.type_inv)
