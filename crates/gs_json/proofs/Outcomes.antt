-- A value that is answered is no fault, and no other value.
use Rattle.std.proofs.Common.{◌≡◌, Result, Ok, Err, ap}

abbrev holds : {A E : Type 0} → A → Result A E
holds x = Ok x

abbrev stops : {A E : Type 0} → E → Result A E
stops why = Err why

pub clash : {A E : Type 0} (x : A) (why : E) → holds {A = A} {E = E} x ≡ stops {A = A} {E = E} why → ⊥
clash x why e = cc

abbrev held : {A E : Type 0} → A → Result A E → A
held other (Ok x) = x
held other (Err why) = other

pub same : {A E : Type 0} (x y : A) → holds {A = A} {E = E} x ≡ holds {A = A} {E = E} y → x ≡ y
same x y e = ap (held x) e
