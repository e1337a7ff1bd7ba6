use Rattle.std.proofs.Common.{◌≡◌, ◌<◌, ◌+◌, ◌++◌, ◌∷◌, ◌∙◌, [], ℕ, List, Vec, Global, ap, arith, filter, get_or, length, map, sym, take}
use Rattle.std.proofs.{lemmas.Grind.{common_steps}, lemmas.List.{append-nil, map-append, take_all, take_more}, lemmas.List.Elements.{filter-append}}
use Rattle.gs_lossless.specs.{Rivals.{is_other, part_against}, declared.parts.Part.{Part}, declared.rivals.Rival.{Rival}}
use Rattle.gs_lossless.proofs.rivals.parts_against.Goals.{then-rival-signal+in_ok-push, else-rival-signal}
use Rattle.gs_lossless.proofs.rivals.parts_against.Goals as goal

module _ (strength signal : ℕ) where
  -- what is met in rivals
  abbrev met : List Rival → List Part
  met rivals = map (part_against strength) (filter (is_other signal) rivals)

  one_more : (rivals : List Rival) (i : ℕ) (d : Rival) → i < length rivals → met (take (i + 1) rivals) ≡ met (take i rivals) ++ met (get_or rivals i d ∷ [])
  one_more rivals i d l =
      ap met (take_more rivals i d l)
      ∙ ap (map (part_against strength)) (filter-append (is_other signal) (take i rivals) (get_or rivals i d ∷ []))
      ∙ map-append (part_against strength) (filter (is_other signal) (take i rivals)) (filter (is_other signal) (get_or rivals i d ∷ []))

  another : (rival : Rival) → (rival.signal ≡ signal → ⊥) → met (rival ∷ []) ≡ part_against strength rival ∷ []
  another rival other = grind (arith, common_steps, other)

  itself : (rival : Rival) → rival.signal ≡ signal → met (rival ∷ []) ≡ []
  itself rival is = grind (arith, common_steps, is)

pub loop-rival-preserved : goal.loop-rival-preserved
loop-rival-preserved c =
    let rivals = c.args.rivals.now in
    let i = c.loop-rival.rival-index in
    let d : Rival = record { class = 0; strength = 0; signal = 0 } in
    let items = λ (v : Vec Part Global). v.items in
    let old = met c.args.strength c.args.signal (take i rivals) in
    let more = one_more c.args.strength c.args.signal rivals i d c.loop-rival-test.true in
    elim c.if-rival-signal.branch [
      | then-rival-signal+in_ok-push w ↦
          ap items w.parts-is ∙ w.in_ok-push.ensures.items ∙ ap (λ ps. ps ++ w.part_against.result ∷ []) c.loop-rival.invariant
          ∙ ap (λ p. old ++ p ∷ []) w.part_against.ensures
          ∙ ap (λ ps. old ++ ps) (sym (another c.args.strength c.args.signal (get_or rivals i d) w.if-rival-signal.true)) ∙ sym more
      | else-rival-signal w ↦
          ap items w.parts-is ∙ c.loop-rival.invariant ∙ sym (append-nil old)
          ∙ ap (λ ps. old ++ ps) (sym (itself c.args.strength c.args.signal (get_or rivals i d) w.if-rival-signal.false)) ∙ sym more
    ]

pub returns : goal.returns
returns c =
    c.loop-rival.invariant
    ∙ ap (met c.args.strength c.args.signal) (take_all c.loop-rival.rival-index c.args.rivals.now c.loop-rival-test.false)
