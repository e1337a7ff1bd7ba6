use Rattle.std.proofs.Common.{ap, ap₂, codes, ◌∙◌}
use Rattle.serde_json.proofs.Views.{view-Object}
use Rattle.serde_json.specs.{Data.{Data, Members, object, put}, View.{members_view}}
use Rattle.gs_certificate.proofs.writing.side_value.Goals as goal

pub returns : goal.returns
returns c = view-Object c.put-2.new.map
    ∙ ap object (c.in_ok-put-2.ensures.ok
    ∙ ap₂ (λ (d : Data) (ms : Members). put (codes "values") d ms) c.in_ok-numbers.ensures
    (c.in_ok-put.ensures.ok ∙ ap₂ (λ (d : Data) (ms : Members). put (codes "bound") d ms) c.in_ok-bound.ensures (ap members_view c.new-members.ensures.empty)))
