-- What the program's reading says of a text.
use Rattle.std.proofs.Common.{◌≡◌, ℕ, ◌-◌, ◌≤◌, List, [], length, Result, Ok, Err, sym, ap, subst, ◌∙◌}
use Rattle.std.specs.Prelude.{IsTrue}
use Rattle.gs_bet.specs.{declared.fault.Mistake.{Mistake}, declared.fault.Mistake.TheVariants.{RepeatedLetter, TooDeep, Syntax}}
use Rattle.gs_bet.specs.{declared.fault.ReadError.TheVariants.{Fault}, Grammar.{tree_text, is_tree}, Cuts.{at_tree, whole}, Reading.{Read, Fails, all_of}}
use Rattle.gs_bet.specs.Faults.{IsFaultOf, IsMistake, mistake_fault}
use Rattle.gs_model.specs.Betting.{Bet}
use Rattle.gs_bet.proofs.{Steps.{read}, ReadsAsCut.{LeadsTo, reads_as_cut}, Whole.{is_read, reads, is_mistake, left_within}}

read_to : (text : List ℕ) (r : Read Bet) → all_of text ≡ r → LeadsTo {A = Bet} (λ u. whole u) (read (at_tree []) text) r
read_to text r h = subst (LeadsTo (λ u. whole u) (read (at_tree []) text)) h (reads_as_cut text)

pub found : (text : List ℕ) (t : Bet) → all_of text ≡ Ok (t, []) → (text ≡ tree_text t) × IsTrue (is_tree t)
found text t h = is_read text t (read_to text (Ok (t, [])) h)

abbrev done : Bet → Result Bet (Mistake × List ℕ)
done t = Ok t

done_is : (t u : Bet) → done t ≡ done u → t ≡ u
done_is t u h = cc

pub only : (text : List ℕ) (t u : Bet) → all_of text ≡ Ok (t, []) → IsTrue (is_tree u) → text ≡ tree_text u → t ≡ u
only text t u h is e = done_is t u (sym (read_to text (Ok (t, [])) h) ∙ ap (read (at_tree [])) e ∙ reads u is)

no_error : (u : Bet) (m : Mistake × List ℕ) → done u ≡ Err m → ⊥
no_error u m h = absurd cc

pub refuses : (text : List ℕ) (m : Mistake) (left : ℕ) (u : Bet) → Fails (Fault m left) (all_of text) → IsTrue (is_tree u) → text ≡ tree_text u → ⊥
refuses text m left u f is e = no_error u (m, f.0) (sym (reads u is) ∙ ap (read (at_tree [])) (sym e) ∙ read_to text (Err (m, f.0)) f.1)

pub mistaken : (text : List ℕ) (m : Mistake) (left : ℕ) → Fails (Fault m left) (all_of text) → IsMistake text (length text - left) m
mistaken text m left f = rw (← f.2) (is_mistake text m f.0 (read_to text (Err (m, f.0)) f.1))

pub within : (text : List ℕ) (m : Mistake) (left : ℕ) → Fails (Fault m left) (all_of text) → left ≤ length text
within text m left f = rw (← f.2) (left_within text m f.0 (read_to text (Err (m, f.0)) f.1))

pub fault : (text : List ℕ) (m : Mistake) (at : ℕ) → IsMistake text at m → IsFaultOf text (mistake_fault m at)
fault text RepeatedLetter at h = h
fault text TooDeep at h = h
fault text Syntax at h = h

pub same_tree : (t u : Bet) → IsTrue (is_tree t) → IsTrue (is_tree u) → tree_text t ≡ tree_text u → t ≡ u
same_tree t u is_t is_u e = done_is t u (sym (reads t is_t) ∙ ap (read (at_tree [])) e ∙ reads u is_u)
