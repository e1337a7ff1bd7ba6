use Rattle.std.proofs.Common.{◌≡◌, ℕ, ◌+◌, ◌*◌, ◌<◌, ◌≤◌, List, length, drop, replicate, slice_index, ℤ, pos, sym, ap, subst, ◌∙◌, arith}
use Rattle.std.proofs.lemmas.List.{take_at, get_or-replicate, length-replicate}
use Rattle.gs_simplex.specs.{Numbers.{at}, Columns.{place_in, IsSetRow}, State.{raw}}
use Rattle.gs_simplex.proofs.Slots.{raw_more, set_same}
use Rattle.gs_simplex.proofs.start.raw_numbers.Goals as goal

zeros : (n k : ℕ) → k < length (replicate n (pos 0)) → at (replicate n (pos 0)) k ≡ pos 0
zeros n k h = get_or-replicate n k (pos 0) (pos 0) (omega (arith, h, length-replicate n (pos 0)))

pub loop-i-preserved : goal.loop-i-preserved
loop-i-preserved c =
    let p = c.args.p.now in let w = c.args.width in let i = c.loop-i.i in let s = c.args.stands.now in let part = c.set_places.new.part in
    let own = c.in_ok-part.part in let now = c.deref-in-loop-i.result.now in
    let wide : length c.deref_mut.result.now ≡ w = c.deref_mut.ensures.len ∙ c.in_ok-part.ensures.len in
    let long : length part ≡ own.len = c.set_places.auto.part ∙ c.deref_mut.ensures.len in
    let same : now ≡ part = c.deref-in-loop-i.ensures.value ∙ take_at part (drop (length part) own.items) own.len long in
    let W : ℕ → Type 0 = λ x. IsSetRow p.rows x (length s) (slice_index s) i (at c.deref.result.now) (at part) in
    let N : ℕ → Type 0 = λ x. IsSetRow p.rows w x (slice_index s) i (at c.deref.result.now) (at part) in
    let here = set_same p.rows w (p.cols + 2) (slice_index s) i (at c.deref.result.now) (raw p i) (at part) (at now) (λ k kw. ap (λ (t : List ℤ). at t k)
    (sym same))
    (λ j jn. ap (λ (t : List ℤ). at t j) c.deref.ensures.value ∙ c.in_ok-row.ensures.each j jn) (subst N c.requires.long (subst W wide c.set_places.ensures)) in
    raw_more p w i (slice_index s) c.loop-i.numbers.items now c.extend_from_slice.new.self.items c.requires.shaped (omega (arith, c.loop-i-test.true))
    c.loop-i.invariant c.in_ok-extend_from_slice.ensures.items (ap length same ∙ long ∙ c.in_ok-part.ensures.len) here

pub returns : goal.returns
returns c =
    let v = c.loop-i.invariant in let all : c.loop-i.i ≡ c.args.p.now.rows + 1 = omega arith in
    record {
      long = v.long ∙ ap (λ x. x * c.args.width) all;
      rows = λ i h. v.rows i (omega (arith, all, h));
      narrow = v.narrow;
    }

pub set_places-requires-clause-zero : goal.set_places-requires-clause-zero
set_places-requires-clause-zero c =
    let w = c.args.width in let own = c.in_ok-part.part in
    let Z : List ℤ → Type 0 = λ x. (k : ℕ) → k < length x → at x k ≡ pos 0 in
    subst Z (sym (c.deref_mut.ensures.value ∙ c.in_ok-part.ensures.items_if_clones_equal (λ y e. e))) (zeros w)

pub loop-i-init : goal.loop-i-init
loop-i-init c = grind arith

pub set_places-requires-clause-apart : goal.set_places-requires-clause-apart
set_places-requires-clause-apart c =
    let p = c.args.p.now in let w = c.args.width in let s = slice_index c.args.stands.now in let i = c.loop-i.i in
    let wide : length c.deref_mut.result.now ≡ w = c.deref_mut.ensures.len ∙ c.in_ok-part.ensures.len in
    let im : i ≤ p.rows = omega (arith, c.loop-i-test.true) in
    λ j h e. let jn : j < p.cols + 2 = omega (arith, h, c.requires.long) in let P : ℕ → Type 0 = λ x. place_in p.rows x (s j) i ≡ x in
    ap (λ (x : List ℤ). at x j) c.deref.ensures.value ∙ c.in_ok-row.ensures.each j jn ∙ c.requires.apart i j im jn (subst P wide e)

pub set_places-requires-clause-stands : goal.set_places-requires-clause-stands
set_places-requires-clause-stands c = grind arith

pub full_row-requires-clause-shaped : goal.full_row-requires-clause-shaped
full_row-requires-clause-shaped c = c.requires.shaped
