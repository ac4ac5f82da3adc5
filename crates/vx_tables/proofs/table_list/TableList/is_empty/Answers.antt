use Rattle.std.proofs.Common.{rules, ◌≡◌, ap, ◌∙◌, ◌==◌, length}
use Rattle.vx_tables.specs.Block.{Listed}
use Rattle.vx_tables.proofs.Listing.{none_listed}
use Rattle.vx_tables.proofs.table_list.TableList.is_empty.Goals as goal

pub returns : goal.returns
returns c ws e =
    let empty : c.is_empty.result ≡ (length c.self.inside.leads.items == 0) = search rules in
    empty ∙ ap (λ (r : Listed). length r.leads == 0) (c.self.view_is ∙ e) ∙ none_listed ws
