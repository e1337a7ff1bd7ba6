-- What an end is worth to a class, from the sum over its members.
use Rattle.std.proofs.Common.{◌≡◌, ℕ, ◌<◌, ◌≤◌, sym, ap, ◌∙◌}
use Rattle.std.specs.Prelude.{pos, ◌*ℤ◌}
use Rattle.gs_model.specs.{BestAnswers.{end_worth}, Classes.{ClassLists, IsClass, IsClasses, class_of, class_size, first_member, list_of}, Positions.{at_end}}
use Rattle.gs_model.specs.{Frame.{Frame, end_count, last_round, round_of}, FrameFacts.{InRange, IsWalked}, Lossless.{IsLossless}, Plans.{Plan, lift}}
use Rattle.gs_model.proofs.{ClassTotals.{class_total_is, end_total_by_pairs}, Gather.{grouping_from, known_from, member_in}, Lift.{end_alike}}
use Rattle.gs_model.proofs.Tables.{is_table}
use Rattle.gs_filter.proofs.TallyLaws.{first_in, first_member_of}
use Rattle.gs_seq.specs.Payoffs.{end_sum}
use Rattle.gs_seq.proofs.RowLaws.{size_is, size_some}

-- the class of a first member
pub first_class : (f : Frame) (lists : ClassLists) → IsClasses f.parents lists → (j c : ℕ) → 0 < j → j ≤ last_round f → IsClass lists j c
    → class_of lists j (first_member lists j c) ≡ c
first_class f lists k j c some top lc = first_member_of (list_of lists j) c (k.numbered j some top) lc.0 lc.1

-- a class has members
pub some_member : (f : Frame) (lists : ClassLists) → IsClasses f.parents lists → (j c : ℕ) → 0 < j → j ≤ last_round f → IsClass lists j c
    → 0 < class_size lists j c
some_member f lists k j c some top lc = size_some lists j c (first_member lists j c) (first_in (list_of lists j) c (k.numbered j some top) lc.0 lc.1)
    (first_class f lists k j c some top lc)

-- all members of a class together gain so many times what its first member does
pub end_share : (f : Frame) → InRange f → (lists : ClassLists) → IsClasses f.parents lists → IsLossless f lists → (p : ℕ) → IsWalked f p
    → (y : Plan) (z c : ℕ) → z < end_count f → IsClass lists (round_of f (at_end z)) c
    → end_sum f lists p y z c ≡ end_worth f p (lift f lists y) z (first_member lists (round_of f (at_end z)) c)
    *ℤ pos (class_size lists (round_of f (at_end z)) c)
end_share f r lists k g p w y z c lz lc =
    let h = is_table f r in
    let kn = known_from f p r w in
    let j = round_of f (at_end z) in
    let some = w.end_round z lz in
    let top = w.end_in z lz in
    let s = first_member lists j c in
    let ls = member_in f lists k j c some top lc in
    let worth = end_worth f p (lift f lists y) z in
    sym (end_total_by_pairs f h lists (grouping_from f lists k) p kn y z c lz)
    ∙ class_total_is f lists j worth c (worth s) (λ t lt is. end_alike f h lists g p kn y z t s lz (record {
      first_in =
          lt;
      second_in = ls;
      same = is ∙ sym (first_class f lists k j c some top lc);
    }))
    ∙ ap (λ n. worth s *ℤ pos n) (sym (size_is f lists j c (k.lengths j some top)))
