use Rattle.std.proofs.Common.{rules, ◌≡◌, ap, sym, ◌∙◌, ◌++◌, ◌∷◌, [], ◌+◌, length}
use Rattle.vx_tables.specs.Block.{Listed, listed, vtable_size, block, leads_from}
use Rattle.vx_tables.proofs.Listing.{listed_more}
use Rattle.vx_tables.proofs.table_list.TableList.push.Goals as goal

pub returns : goal.returns
returns c ws e =
    let same = c.self.view_is ∙ e in
    let w = c.args.table.now in
    let long : c.in_ok-lead.lead ≡ length c.self.inside.bytes.items + vtable_size w = search rules in
    let lead = long ∙ ap (λ (r : Listed). length r.bytes + vtable_size w) same in
    let leads = c.in_ok-push.ensures.items ∙ ap (λ n. c.self.inside.leads.items ++ n ∷ []) lead
    ∙ ap (λ (r : Listed). r.leads ++ (length (listed ws).bytes + vtable_size w) ∷ []) same in
    let bytes = c.in_ok-push_block.ensures ∙ ap (λ (r : Listed). r.bytes ++ block w) same in
    ap (λ xs. record { leads = xs; bytes = c.push_block.new.out.items }) leads
    ∙ ap (λ xs. record { leads = leads_from 0 ws ++ (length (listed ws).bytes + vtable_size w) ∷ []; bytes = xs }) bytes
    ∙ sym (listed_more ws w)
