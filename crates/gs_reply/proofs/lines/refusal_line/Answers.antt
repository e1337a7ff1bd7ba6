use Rattle.std.proofs.Common.{◌≡◌, ◌++◌, ◌∙◌, ℕ, List, Result, Ok, Err, IfOk, String, Vec, ap, append_assoc, codes, decimal, refl, rules, string_bytes, subst, sym}
use Rattle.std.specs.{String.{string_vec}, declared.alloc.Global.{Global}}
use Rattle.gs_frac.specs.Texts.{fraction_text}
use Rattle.gs_reply.specs.Refusals.{Refusal, Unlike_pair, Overflows, Many_pivots, Too_large, Wrong_number, Bad_query, Other_game}
use Rattle.gs_reply.specs.{Refusals.{line_of, limit_text, overflow_text, query_text, which_text}, Replies.{IsRefusal}, declared.refusals.Refusal.{Refusal as Told}}
use Rattle.gs_reply.specs.declared.refusals.Refusal.TheVariants as told
use Rattle.gs_strategy.specs.Views.{parts_of}
use Rattle.gs_reply.proofs.lines.refusal_line.Goals.{in-Unlike, in-Overflows, in-ManyPivots, in-TooLarge, in-WrongNumber, in-BadQuery, in-OtherGame}
use Rattle.gs_reply.proofs.lines.refusal_line.Goals as goal

-- the line that was made
made : {E : Type 0} (line told : Result (String Global) E) (s : String Global) (v : Vec ℕ Global) (text : List ℕ) → v ≡ string_vec s → line ≡ Ok s
    → line ≡ told → IfOk told (λ t. string_bytes t ≡ text) → v.items ≡ text
made line told s v text e is same h =
    ap (λ (x : Vec ℕ Global). x.items) e ∙ subst (λ r. IfOk r (λ t. string_bytes t ≡ text)) (sym same ∙ is) h

-- the line of the refusal that the program's refusal stands for
of_told : (told same : Told) (line text : List ℕ) (rule : Refusal) → told ≡ same → ((why : Refusal) → IsRefusal same why → why ≡ rule) → line ≡ text
    → text ≡ line_of rule → (why : Refusal) → IsRefusal told why → line ≡ line_of why
of_told told same line text rule e stands is own why h = is ∙ own ∙ ap line_of (sym (stands why (subst (λ r. IsRefusal r why) e h)))

unlike_text : (round first second : List ℕ) → codes "unlike: round " ++ (round ++ (codes " " ++ (first ++ (codes " " ++ (second ++ codes "\n")))))
    ≡ codes "unlike: round " ++ round ++ codes " " ++ first ++ codes " " ++ second ++ codes "\n"
unlike_text round first second = simp append_assoc

wrong_text : (name stated found : List ℕ) → codes "wrong numbers: " ++ (name ++ (codes " " ++ (stated ++ (codes " found " ++ (found ++ codes "\n")))))
    ≡ codes "wrong numbers: " ++ name ++ codes " " ++ stated ++ codes " found " ++ found ++ codes "\n"
wrong_text name stated found = simp append_assoc

queried : (text part : List ℕ) → text ≡ part → codes "bad query: " ++ (text ++ codes "\n") ≡ codes "bad query: " ++ part ++ codes "\n"
queried text part e = ap (λ (t : List ℕ). codes "bad query: " ++ (t ++ codes "\n")) e ∙ sym (append_assoc (codes "bad query: ") part (codes "\n"))

pub returns : goal.returns
returns c =
    let v = c.into_bytes.result in
    let s = c.in_ok-line.field-0 in
    let line = c.match-refusal.line in
    elim c.match-refusal.branch [
      | in-Unlike w ↦ of_told c.args.refusal.now (told.Unlike w.in-Unlike.round w.in-Unlike.first w.in-Unlike.second) v.items
          (codes "unlike: round " ++ (decimal w.in-Unlike.round ++ (codes " " ++ (string_bytes w.in-Unlike.first
          ++ (codes " " ++ (string_bytes w.in-Unlike.second ++ codes "\n"))))))
          (Unlike_pair w.in-Unlike.round (string_bytes w.in-Unlike.first) (string_bytes w.in-Unlike.second)) w.in-Unlike.is (λ why h. h)
          (made line w.format-line.result s v _ c.into_bytes.ensures.value c.in_ok-line.was w.line-is w.format-line.ensures.ok)
          (unlike_text (decimal w.in-Unlike.round) _ _)
      | in-Overflows w ↦ of_told c.args.refusal.now (told.Overflows w.in-Overflows.at) v.items
          (codes "overflow: " ++ (overflow_text w.in-Overflows.at ++ codes "\n"))
          (Overflows w.in-Overflows.at) w.in-Overflows.is (λ why h. h)
          (made line w.format-line-in-Overflows.result s v _ c.into_bytes.ensures.value c.in_ok-line.was w.line-is w.format-line-in-Overflows.ensures.ok)
          (sym (append_assoc (codes "overflow: ") (overflow_text w.in-Overflows.at) (codes "\n")))
      | in-ManyPivots w ↦ of_told c.args.refusal.now told.ManyPivots v.items
          (codes "more than 8192 pivots\n")
          Many_pivots w.in-ManyPivots.is (λ why h. h)
          (made line w.from_str-line.result s v _ c.into_bytes.ensures.value c.in_ok-line.was w.line-is w.from_str-line.ensures.ok) refl
      | in-TooLarge w ↦ of_told c.args.refusal.now (told.TooLarge w.in-TooLarge.limit) v.items
          (codes "too large: " ++ (limit_text w.in-TooLarge.limit ++ codes "\n"))
          (Too_large w.in-TooLarge.limit) w.in-TooLarge.is (λ why h. h)
          (made line w.format-line-in-TooLarge.result s v _ c.into_bytes.ensures.value c.in_ok-line.was w.line-is w.format-line-in-TooLarge.ensures.ok)
          (sym (append_assoc (codes "too large: ") (limit_text w.in-TooLarge.limit) (codes "\n")))
      | in-WrongNumber w ↦
          let wrong = w.in-WrongNumber.wrong in
          let name : List ℕ = wrong.name.now in
          let stated = fraction_text wrong.stated.num wrong.stated.den in
          let found = fraction_text wrong.found.num wrong.found.den in
          of_told c.args.refusal.now (told.WrongNumber wrong) v.items
          (codes "wrong numbers: " ++ (name ++ (codes " " ++ (stated ++ (codes " found " ++ (found ++ codes "\n"))))))
          (Wrong_number name (parts_of wrong.stated) (parts_of wrong.found)) w.in-WrongNumber.is (λ why h. h)
          (made line w.format.result s v _ c.into_bytes.ensures.value c.in_ok-line.was w.line-is w.format.ensures.ok) (wrong_text name stated found)
      | in-BadQuery w ↦ of_told c.args.refusal.now (told.BadQuery w.in-BadQuery.fault) v.items
          (codes "bad query: " ++ (w.query_text-text.result.now ++ codes "\n"))
          (Bad_query w.in-BadQuery.fault) w.in-BadQuery.is (λ why h. h)
          (made line w.format-in-BadQuery.result s v _ c.into_bytes.ensures.value c.in_ok-line.was w.line-is w.format-in-BadQuery.ensures.ok)
          (queried _ (query_text w.in-BadQuery.fault) w.query_text-text.ensures)
      | in-OtherGame w ↦ of_told c.args.refusal.now told.OtherGame v.items (codes "other game\n") Other_game w.in-OtherGame.is (λ why h. h)
          (made line w.from_str-line-in-OtherGame.result s v _ c.into_bytes.ensures.value c.in_ok-line.was w.line-is w.from_str-line-in-OtherGame.ensures.ok)
          refl
    ]

-- the line of the refusal of a file
filed : {E : Type 0} (made : Result (Vec ℕ Global) E) (told same : Told) (text : List ℕ) → told ≡ same → IfOk made (λ line. line.items ≡ text)
    → ((why : Refusal) → IsRefusal same why → text ≡ line_of why) → IfOk made (λ line. (why : Refusal) → IsRefusal told why → line.items ≡ line_of why)
filed (Ok line) told same text e is f = λ why h. is ∙ f why (subst (λ r. IsRefusal r why) e h)
filed (Err x) told same text e is f = tt

pub returns-in-BadStrategy : goal.returns-in-BadStrategy
returns-in-BadStrategy c =
    let which = c.in-BadStrategy.which in
    filed c.line_with-in-BadStrategy.result c.args.refusal.now (told.BadStrategy which c.in-BadStrategy.fault) _ c.in-BadStrategy.is
    c.line_with-in-BadStrategy.ensures (λ why h.
    ap (λ (w : List ℕ). codes "bad strategy: " ++ w ++ c.deref-in-BadStrategy.result.now ++ codes "\n") c.which_text.ensures
    ∙ ap (λ (t : List ℕ). codes "bad strategy: " ++ which_text which ++ t ++ codes "\n")
    (c.deref-in-BadStrategy.ensures.value ∙ c.in_ok-text-in-BadStrategy.ensures) ∙ ap line_of (sym h))

pub returns-in-BadGame : goal.returns-in-BadGame
returns-in-BadGame c =
    filed c.line_with.result c.args.refusal.now (told.BadGame c.in-BadGame.fault) _ c.in-BadGame.is c.line_with.ensures (λ why h.
    ap (λ (t : List ℕ). codes "bad game: " ++ t ++ codes "\n") (c.deref.ensures.value ∙ c.in_ok-text-in-BadGame.ensures) ∙ ap line_of (sym h))

pub fact_in-format-in-WrongNumber-2 : goal.fact_in-format-in-WrongNumber-2
fact_in-format-in-WrongNumber-2 c = search rules

pub returns-in-BadCertificate : goal.returns-in-BadCertificate
returns-in-BadCertificate c =
    filed c.line_with-in-BadCertificate.result c.args.refusal.now (told.BadCertificate c.in-BadCertificate.text) _ c.in-BadCertificate.is
    c.line_with-in-BadCertificate.ensures (λ why h.
    ap (λ (t : List ℕ). codes "bad certificate: " ++ t ++ codes "\n") c.deref-in-BadCertificate.ensures.value ∙ ap line_of (sym h))
