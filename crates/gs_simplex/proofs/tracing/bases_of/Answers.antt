use Rattle.std.proofs.Common.{◌<◌, ◌≤◌, slice_index_or, slice_set, ◌≡◌, ◌+◌, ◌∷◌, ◌++◌, [], List, Vec, Global, ℕ, length, drop, sym, ap, subst, ◌∙◌, arith}
use Rattle.std.proofs.lemmas.List.{take_at}
use Rattle.gs_simplex.specs.{declared.program.Program.{Program}, Program.{Listing, IsPairList, IsOpening}, Trace.{IsBasis, AreTurns, AreBases}}
use Rattle.gs_simplex.specs.declared.answer.Turn.{Turn}
use Rattle.gs_simplex.proofs.Traces.{IsReplayed, bases_more, bases_none, basis_at, replayed_more, replayed_none}
use Rattle.gs_simplex.proofs.tracing.bases_of.Goals as goal

abbrev none : Turn
none = record { enter = 0; leave = 0 }

-- the list after one more pivot
next : (p : Program) (o l held new : Listing) (k : ℕ) (turns : List Turn) → IsOpening p o → AreTurns p o turns → IsReplayed p o k l → held ≡ l
    → k < length turns
    → ((q : ℕ) → q < length held → (slice_index_or held q (0, 0)).1 ≡ (slice_index_or turns k none).leave
    → new ≡ slice_set held q ((slice_index_or held q (0, 0)).0, (slice_index_or turns k none).enter)) → IsReplayed p o (k + 1) new
next p o l held new k turns ok are u same h replaced =
    replayed_more p o k held new (slice_index_or turns k none) ok (subst (λ (x : Listing). IsReplayed p o k x) (sym same) u) (are k h none) replaced

pub listed_columns-requires-clause-pairs : goal.listed_columns-requires-clause-pairs
listed_columns-requires-clause-pairs c =
    let p = c.args.p.now in let o = c.args.opening.now in
    subst (λ (x : Listing). IsPairList p x) (sym (c.deref.ensures.value ∙ c.in_ok-basis.ensures.items))
    (replayed_none p o c.requires.opened.opens c.requires.path).pairs

pub loop-place-init : goal.loop-place-init
loop-place-init c =
    let p = c.args.p.now in let o = c.args.opening.now in let v = c.in_ok-listed_columns.field-0 in
    let start = replayed_none p o c.requires.opened.opens c.requires.path in
    let same : c.in_ok-basis.basis.items ≡ o = c.in_ok-basis.ensures.items in
    let b : IsBasis o v.items = subst (λ (x : Listing). IsBasis x v.items) (c.deref.ensures.value ∙ same) c.in_ok-listed_columns.ensures in
    record {
      replayed = subst (λ (x : Listing). IsReplayed p o 0 x) (sym same) start;
      bases = subst (λ (x : List (Vec ℕ Global)). AreBases p o 1 x)
          (sym (c.in_ok-push.ensures.items ∙ ap (λ (x : List (Vec ℕ Global)). x ++ v ∷ []) c.new-bases.ensures.items))
          (bases_more p o 0 [] v (bases_none p o) (basis_at p o 0 o v.items start b));
    }

pub loop-place-preserved : goal.loop-place-preserved
loop-place-preserved c =
    let p = c.args.p.now in let o = c.args.opening.now in let k = c.loop-place.place in let v = c.loop-place.invariant in
    let l = c.loop-place.basis.items in let new = c.replace.new.basis in let columns = c.in_ok-listed_columns-2.field-0 in
    let back = take_at new (drop (length new) l) c.loop-place.basis.len (omega (arith, c.replace.auto.basis, c.deref_mut.ensures.len)) in
    let more = next p o l c.deref_mut.result.now new k c.args.turns.now c.requires.opened.opens c.requires.turns v.replayed c.deref_mut.ensures.value
    c.loop-place-test.true c.replace.ensures in
    let b : IsBasis new columns.items =
    subst (λ (x : Listing). IsBasis x columns.items) (c.deref-in-loop-place.ensures.value ∙ back) c.in_ok-listed_columns-2.ensures in
    record {
      replayed = subst (λ (x : Listing). IsReplayed p o (k + 1) x) (sym back) more;
      bases = subst (λ (x : List (Vec ℕ Global)). AreBases p o (k + 1 + 1) x) (sym c.in_ok-push-2.ensures.items)
          (bases_more p o (k + 1) c.loop-place.bases.items columns v.bases (basis_at p o (k + 1) new columns.items more b));
    }

at_end : (a b : ℕ) → a ≤ b → b ≤ a → a ≡ b
at_end a b h k = omega arith

pub returns : goal.returns
returns c =
    subst (λ n. AreBases c.args.p.now c.args.opening.now (n + 1) c.loop-place.bases.items)
    (at_end c.loop-place.place (length c.args.turns.now) c.loop-place.auto.place-end c.loop-place-test.false) c.loop-place.invariant.bases

pub replace-requires : goal.replace-requires
replace-requires c = grind arith

pub bounds-turns-place : goal.bounds-turns-place
bounds-turns-place c = grind arith

pub listed_columns-requires-in-loop-place : goal.listed_columns-requires-in-loop-place
listed_columns-requires-in-loop-place c = record {
  small_rows = c.requires.opened.small_rows;
  small_cols = c.requires.opened.small_cols;
  pairs = let p = c.args.p.now in let l = c.loop-place.basis.items in let new = c.replace.new.basis in
      let back = take_at new (drop (length new) l) c.loop-place.basis.len (omega (arith, c.replace.auto.basis, c.deref_mut.ensures.len)) in
      subst (λ (x : Listing). IsPairList p x) (sym (c.deref-in-loop-place.ensures.value ∙ back))
      (next p c.args.opening.now l c.deref_mut.result.now new c.loop-place.place c.args.turns.now c.requires.opened.opens c.requires.turns
      c.loop-place.invariant.replayed
      c.deref_mut.ensures.value c.loop-place-test.true c.replace.ensures).pairs;
}
