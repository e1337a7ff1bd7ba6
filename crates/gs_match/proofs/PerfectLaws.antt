-- A matching of all left nodes is perfect.
use Rattle.std.proofs.{Common.{◌≡◌, ◌<◌, ℕ, Option, Some, None, List, length, get_or, sym, ◌∙◌, ap, subst, arith, true}, lemmas.List.Elements.{All-from_get_or}}
use Rattle.gs_model.specs.Matching.{Edges, IsPerfect, has_edge}
use Rattle.gs_match.specs.{Adjacency.{AreNeighbours}, Search.{holder, IsMatching}}
use Rattle.gs_match.proofs.{SearchLaws.{held_in, held_not_last, same_some, none_some}, AdjacencyLaws.{edge_from_near}}

-- nothing is matched at first
pub matching_none : (adjacent : List (List ℕ)) (holders : List (Option ℕ)) → ((b : ℕ) → holder holders b ≡ None) → IsMatching adjacent holders 0
matching_none adjacent holders none = record {
  once = λ b c a nb nc hb hc. absurd (none_some a (holder holders b) hb (none b));
  along = λ b a nb hb. absurd (none_some a (holder holders b) hb (none b));
  below = λ b a nb hb. absurd (none_some a (holder holders b) hb (none b));
  all = λ a l. absurd (omega arith);
}

pub perfect_from : (g : Edges) (adjacent : List (List ℕ)) (holders : List (Option ℕ)) (to : List ℕ) → AreNeighbours g adjacent → length holders ≡ g.right
    → g.left ≡ g.right → IsMatching adjacent holders g.left
    → length to ≡ length holders → ((b a : ℕ) → holder holders b ≡ Some a → get_or to a 0 ≡ b) → IsPerfect g to
perfect_from g adjacent holders to n wide sides m long each = record {
  one_each = long ∙ wide ∙ sym sides;
  in_range = All-from_get_or (λ r. r < g.right) to 0 (λ a l.
      let h = m.all a (omega arith) in let k = held_in holders h.at a h.is in let e = each h.at a h.is in omega arith);
  differ = λ i j lt l e.
      let p = m.all i (omega arith) in
      let q = m.all j (omega arith) in
      let same : p.at ≡ q.at = sym (each p.at i p.is) ∙ e ∙ each q.at j q.is in
      let ij : i ≡ j = same_some i j (holder holders q.at) (ap (λ k. holder holders k) (sym same) ∙ p.is) q.is in
      absurd (omega arith);
  along = λ a l.
      let h = m.all a l in
      subst (λ r. has_edge g a r ≡ true) (sym (each h.at a h.is)) (edge_from_near g adjacent n a h.at l
      (m.along h.at a (held_not_last holders h.at a h.is) h.is));
}
