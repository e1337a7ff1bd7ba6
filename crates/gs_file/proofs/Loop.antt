-- Reading the members of a list one after the other, as a loop does.
use Rattle.std.proofs.Common.{◌≡◌, ℕ, ◌+◌, ◌≤◌, ◌<◌, List, [], ◌∷◌, ◌++◌, map, drop, length, get_or, Result, Ok, Err, IfOk, refl, sym, ap, ◌∙◌, append_assoc, add-one}
use Rattle.std.specs.Result.{IsErrAnd}
use Rattle.std.proofs.{Common.{subst}, lemmas.List.{append-nil, drop_all, map-append}, Math.Seq.{drop-cons}}
use Rattle.gs_json.specs.Steps.{◌>>=◌}
use Rattle.gs_file.specs.{declared.fault.FileError.{FileError}, declared.fault.FileFault.{FileFault}, Faults.{Fault}, Tables.{each}}
use Rattle.gs_file.specs.Answers.{Fails, Gives, MayFail, MayGive}
use Rattle.gs_file.specs.declared.fault.FileError.TheVariants as errors

-- what was read before, and what is still read
abbrev pub with_front : {B : Type 0} → List B → Result (List B) Fault → Result (List B) Fault
with_front front read = read >>= λ others. Ok (front ++ others)

regroup : {B : Type 0} (front : List B) (y : B) (read : Result (List B) Fault)
    → with_front front (read >>= λ ys. Ok (y ∷ ys)) ≡ with_front (front ++ y ∷ []) read
regroup front y (Ok ys) = ap (λ zs. Ok zs) (simp append_assoc)
regroup front y (Err f) = refl

drop_one : {A : Type 0} (xs : List A) (i : ℕ) (d a : A) → i < length xs → a ≡ get_or xs i d → drop i xs ≡ a ∷ drop (i + 1) xs
drop_one xs i d a lt is = rw (is, add-one) (drop-cons xs i d lt)

-- the members of `xs`, seen by `seen`, are read one after the other; those before place i gave `front`
module _ {A C B : Type 0} (read : ℕ → C → Result B Fault) (seen : A → C) (xs : List A) (i : ℕ) (front : List B) {total : Result (List B) Fault}
    (so_far : with_front front (each read (i + 1) (map seen (drop i xs))) ≡ total) where
  pub is_done : length xs ≤ i → total ≡ Ok front
  is_done le =
      let one : with_front front (each read (i + 1) (map seen (drop i xs))) ≡ Ok front = rw (drop_all i xs le) (ap (λ ys. Ok ys) (append-nil front)) in
      sym so_far ∙ one

  module _ (d a : A) (lt : i < length xs) (is : a ≡ get_or xs i d) where
    -- a member that fails
    pub breaks_off : (f : Fault) → read (i + 1) (seen a) ≡ Err f → total ≡ Err f
    breaks_off f h =
        let one : with_front front (each read (i + 1) (map seen (drop i xs))) ≡ Err f = rw (drop_one xs i d a lt is, h) refl in
        sym so_far ∙ one

    -- one more member
    pub goes_on : (y : B) → read (i + 1) (seen a) ≡ Ok y → with_front (front ++ y ∷ []) (each read (i + 1 + 1) (map seen (drop (i + 1) xs))) ≡ total
    goes_on y h =
        let others = each read (i + 1 + 1) (map seen (drop (i + 1) xs)) in
        let one : with_front front (each read (i + 1) (map seen (drop i xs))) ≡ with_front (front ++ y ∷ []) others =
        rw (drop_one xs i d a lt is, h) (regroup front y others) in
        sym one ∙ so_far

-- one more member, where the values read are seen by `view`
pub grows : {A C B V : Type 0} (view : V → B) (read : ℕ → C → Result B Fault) (seen : A → C) (xs : List A) (i : ℕ) (old : List V) (y : V) (d a : A)
    {now : List V} {total : Result (List B) Fault} → with_front (map view old) (each read (i + 1) (map seen (drop i xs))) ≡ total → i < length xs
    → a ≡ get_or xs i d → read (i + 1) (seen a) ≡ Ok (view y) → now ≡ old ++ y ∷ []
    → with_front (map view now) (each read (i + 1 + 1) (map seen (drop (i + 1) xs))) ≡ total
grows view read seen xs i old y d a so_far lt is h grown =
    rw (ap (map view) grown ∙ map-append view old (y ∷ [])) (goes_on read seen xs i (map view old) so_far d a lt is (view y) h)

-- a fault of one reading, handed on as it is
pub handed_on : {A X Y : Type 0} (view : A → Y) (e : FileFault) (result : Result A FileFault) (one : Result X Fault) (total : Result Y Fault)
    → IsErrAnd result (λ f. f ≡ e) → Fails e one → ((f : Fault) → one ≡ Err f → total ≡ Err f) → Gives view result total
handed_on view e (Ok x) one total is h on = absurd is
handed_on view e (Err f) one total is h on = subst (λ k. Fails k total) (sym is) (on _ h)

-- a fault of one reading, handed on as an error
pub handed_up : {A X Y : Type 0} (view : A → Y) (e : FileFault) (result : Result A FileError) (one : Result X Fault) (total : Result Y Fault)
    → IsErrAnd result (λ f. f ≡ errors.Fault e) → Fails e one → ((f : Fault) → one ≡ Err f → total ≡ Err f) → MayGive view result total
handed_up view e (Ok x) one total is h on = absurd is
handed_up view e (Err f) one total is h on = subst (λ k. MayFail k total) (sym is) (on _ h)

-- an error of one reading is an error of another, where the other has each fault of the one
pub may_fail_so : {X Y : Type 0} → (e : FileError) (one : Result X Fault) (other : Result Y Fault) → MayFail e one → ((f : Fault) → one ≡ Err f → other ≡ Err f)
    → MayFail e other
may_fail_so errors.Memory one other h on = tt
may_fail_so (errors.Fault why) one other h on = on _ h

-- an error of one reading, handed on as it is
pub handed_over : {A X Y : Type 0} (view : A → Y) (e : FileError) (result : Result A FileError) (one : Result X Fault) (total : Result Y Fault)
    → IsErrAnd result (λ f. f ≡ e) → MayFail e one → ((f : Fault) → one ≡ Err f → total ≡ Err f) → MayGive view result total
handed_over view e (Ok x) one total is h on = absurd is
handed_over view e (Err f) one total is h on = subst (λ k. MayFail k total) (sym is) (may_fail_so e one total h on)

-- a refusal has no value that a clause on values could be about
pub no_value : {A : Type 0} (P : A → Type 0) (e : FileError) (r : Result A FileError) → IsErrAnd r (λ f. f ≡ e) → IfOk r P
no_value P e (Ok x) h = absurd h
no_value P e (Err f) h = tt
