use Rattle.std.proofs.Common.{◌≡◌, ◌+◌, ◌++◌, ◌∷◌, [], List, length, sym, ap, ◌∙◌, arith, Ok, Err, rules, append-nil}
use Rattle.std.specs.Prelude.{ℤ}
use Rattle.gs_certificate.specs.Reading.{number_in_text}
use Rattle.gs_certificate.specs.declared.text_fault.CertTextFault.TheVariants as fault
use Rattle.gs_certificate.proofs.Numbers.{joined, rest_from, joined_none, joined_more, rest_read, rest_refused, rest_done}
use Rattle.gs_certificate.proofs.reading.numbers_of.Goals as goal

pub loop-text-init : goal.loop-text-init
loop-text-init c = record {
  long = ap length c.in_ok-numbers.ensures.items;
  so_far = ap (λ zs. joined zs (rest_from c.args.player 0 c.args.texts.now)) c.in_ok-numbers.ensures.items ∙ joined_none _;
}

pub loop-text-preserved : goal.loop-text-preserved
loop-text-preserved c =
    let zs : List ℤ = c.loop-text.numbers.items in
    let z : ℤ = c.in-Some.number in
    let one_more : c.push.new.self.items ≡ zs ++ z ∷ [] = search rules in
    let found = sym (ap number_in_text c.as_bytes.ensures.value) ∙ sym c.number_of.ensures ∙ c.in-Some.is in
    record {
      long = omega (arith, c.in_ok-push-in-Some.ensures.len);
      so_far = ap (λ all. joined all (rest_from c.args.player (c.loop-text.text-index + 1) c.args.texts.now)) one_more
          ∙ sym (joined_more zs z _) ∙ ap (joined zs) (sym (rest_read c.args.player c.loop-text.text-index c.args.texts.now _ z c.loop-text-test.true found))
          ∙ c.loop-text.invariant.so_far;
    }

pub returns : goal.returns
returns c = sym c.loop-text.invariant.so_far
    ∙ ap (joined c.loop-text.numbers.items) (rest_done c.args.player c.loop-text.text-index c.args.texts.now c.loop-text-test.false)
    ∙ ap (λ all. Ok all) (append-nil c.loop-text.numbers.items)

pub returns-in-None : goal.returns-in-None
returns-in-None c =
    let none = sym (ap number_in_text c.as_bytes.ensures.value) ∙ sym c.number_of.ensures ∙ c.in-None.is in
    let at : c.loop-text.text-index ≡ c.len.result = omega (arith, c.len.ensures, c.loop-text.invariant.long) in
    sym c.loop-text.invariant.so_far
    ∙ ap (joined c.loop-text.numbers.items) (rest_refused c.args.player c.loop-text.text-index c.args.texts.now _ c.loop-text-test.true none)
    ∙ ap (λ k. Err (fault.Value c.args.player k)) at

pub as_bytes-requires-text-self : goal.as_bytes-requires-text-self
as_bytes-requires-text-self c = grind arith

pub offset_bounds-texts-text-index : goal.offset_bounds-texts-text-index
offset_bounds-texts-text-index c = grind arith
