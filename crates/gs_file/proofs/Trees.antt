-- What the reader of trees answers, beside the tree or the fault of a text.
use Rattle.std.proofs.Common.{◌≡◌, ℕ, ◌-◌, ◌<◌, List, [], ◌∷◌, length, take, Ok, Err, refl, sym, ap, ◌∙◌, arith}
use Rattle.std.specs.Prelude.{IsTrue, slice_get}
use Rattle.gs_bet.specs.{declared.fault.Mistake.{Mistake}, declared.fault.Mistake.TheVariants.{RepeatedLetter, TooDeep, Syntax}}
use Rattle.gs_bet.specs.{declared.fault.TreeFault.{TreeFault}, Cuts.{Cut}, Faults.{IsFaultOf, IsMistake, ReadsAs, mistake_fault, mistake_at}}
use Rattle.gs_bet.specs.{Grammar.{is_tree, tree_text, IsLongest}, Reading.{Read, all_of, at_end, outer_at, ◌>>=◌}}
use Rattle.gs_bet.specs.declared.fault.TreeError.TheVariants as errors
use Rattle.gs_bet.specs.declared.fault.TreeFault.TheVariants as tree
use Rattle.gs_bet.proofs.{Parsing.{found, only, refuses, mistaken}, Whole.{one_cut}}
use Rattle.gs_model.specs.Betting.{Bet}
use Rattle.gs_file.specs.{Faults.{tree_text as tree_fault}, Reading.{tree_at, tree_read}, TreeTexts.{IsTreeRead}}

abbrev leftover : Read Bet → List ℕ
leftover (Ok p) = p.1
leftover (Err m) = []

-- what is read whole leaves nothing
ended : (r : Read Bet) (t : Bet) (rest : List ℕ) → (r >>= at_end) ≡ Ok (t, rest) → rest ≡ []
ended (Ok (u, [])) t rest e = sym (ap leftover e)
ended (Ok (u, b ∷ bytes)) t rest e = cc
ended (Err m) t rest e = cc

leaves_none : (text : List ℕ) (t : Bet) (rest : List ℕ) → all_of text ≡ Ok (t, rest) → all_of text ≡ Ok (t, [])
unfolding all_of
leaves_none text t rest e = let none : rest ≡ [] = ended (outer_at text) t rest e in e ∙ ap (λ (r : List ℕ). Ok (t, r)) none

same_longest : (text : List ℕ) (a b : ℕ) → IsLongest text a → IsLongest text b → a ≡ b
same_longest text a b x y =
    let up : b < a → ⊥ = λ lt. y.longest a lt x.within x.begins in
    let down : a < b → ⊥ = λ lt. x.longest b lt y.within y.begins in
    omega arith

-- a text has one mistake
one_mistake : (text : List ℕ) (a b : ℕ) (m k : Mistake) → IsMistake text a m → IsMistake text b k → mistake_fault m a ≡ mistake_fault k b
one_mistake text a b m k x y =
    let e : a ≡ b = same_longest text a b x.longest y.longest in
    let p : x.place ≡ y.place = one_cut x.place y.place x.is y.is (x.reached ∙ ap (λ (n : ℕ). take n text) e ∙ sym y.reached) in
    let same : m ≡ k = x.mistake ∙ ap (λ (c : Cut). mistake_at c (slice_get text a)) p ∙ ap (λ (n : ℕ). mistake_at y.place (slice_get text n)) e
    ∙ sym y.mistake in
    ap (λ (q : Mistake). mistake_fault q a) same ∙ ap (λ (n : ℕ). mistake_fault k n) e

-- the tree whose text it is
pub reads_tree : (n : ℕ) (text : List ℕ) (t : Bet) → IsTrue (is_tree t) → text ≡ tree_text t → tree_at n text ≡ Ok t
reads_tree n text t is e = by_answer (all_of text) refl
  where
    by_answer : (r : Read Bet) → all_of text ≡ r → tree_read n text r ≡ Ok t
    by_answer (Ok (u, rest)) a = ap (λ (v : Bet). Ok v) (only text u t (leaves_none text u rest a) is e)
    by_answer (Err (m, rest)) a = absurd (refuses text m (length rest) t (rest, a, refl) is e)

-- the mistake of a text that is no tree's
reads_mistake : (n : ℕ) (text : List ℕ) (at : ℕ) (m : Mistake) → ((t : Bet) → IsTrue (is_tree t) → text ≡ tree_text t → ⊥) → IsMistake text at m
    → tree_at n text ≡ Err (tree_fault n (mistake_fault m at))
reads_mistake n text at m none is = by_answer (all_of text) refl
  where
    by_answer : (r : Read Bet) → all_of text ≡ r → tree_read n text r ≡ Err (tree_fault n (mistake_fault m at))
    by_answer (Ok (u, rest)) a = let f = found text u (leaves_none text u rest a) in absurd (none u f.1 f.0)
    by_answer (Err (k, rest)) a = ap (λ (f : TreeFault). Err (tree_fault n f))
        (one_mistake text (length text - length rest) at k m (mistaken text k (length rest) (rest, a, refl)) is)

pub reads_fault : (n : ℕ) (text : List ℕ) (f : TreeFault) → ((t : Bet) → IsTrue (is_tree t) → text ≡ tree_text t → ReadsAs (Err (errors.Fault f)) t)
    → IsFaultOf text f → tree_at n text ≡ Err (tree_fault n f)
reads_fault n text (tree.RepeatedLetter at) none is = reads_mistake n text at RepeatedLetter none is
reads_fault n text (tree.TooDeep at) none is = reads_mistake n text at TooDeep none is
reads_fault n text (tree.Syntax at) none is = reads_mistake n text at Syntax none is

-- what is read is the tree or the mistake that the grammar names
pub is_read : (n : ℕ) (text : List ℕ) → IsTreeRead n text (tree_at n text)
is_read n text = by_answer (all_of text) refl
  where
    by_answer : (r : Read Bet) → all_of text ≡ r → IsTreeRead n text (tree_read n text r)
    by_answer (Ok (u, rest)) a = let f = found text u (leaves_none text u rest a) in record { sound = f.1; is = f.0 }
    by_answer (Err (k, rest)) a = record { at = length text - length rest; mistake = k; is = mistaken text k (length rest) (rest, a, refl); told = refl }
