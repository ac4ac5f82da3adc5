use Rattle.std.proofs.Common.{◌≡◌, ◌∷◌, length, rules, ap, ◌∙◌}
use Rattle.std.proofs.lemmas.List.{length-map}
use Rattle.vx_data.specs.Dtype.{pairs_view as types_view}
use Rattle.vx_rows.specs.declared.column.Column.{the_lemmas}
use Rattle.vx_rows.specs.Rows.{bools, column_view, pairs_view}
use Rattle.vx_file.specs.Scans.{seen}
use Rattle.vx_file.proofs.JoiningLemmas.{fields_zipped, present_fields, names_long}
use Rattle.vx_file.proofs.column_joining.zip_present.Goals as goal

pub named-requires : goal.named-requires
named-requires c =
    let next : c.args.columns.items ≡ c.in-Some.there ∷ c.next.new.self.rest.items = search rules in
    let here : column_view c.in-Some.there ≡ bools c.in-Bool.there = search (rules, the_lemmas) in
    let parts = present_fields (types_view c.args.fields.now) c.args.rows c.args.columns.items c.next.new.self.rest.items c.in-Some.there c.in-Bool.there next here c.requires in
    fields_zipped c.args.rows (types_view c.args.fields.now) (seen c.next.new.self.rest.items) parts.1

pub structs-requires-clause-long : goal.structs-requires-clause-long
structs-requires-clause-long c =
    let next : c.args.columns.items ≡ c.in-Some.there ∷ c.next.new.self.rest.items = search rules in
    let here : column_view c.in-Some.there ≡ bools c.in-Bool.there = search (rules, the_lemmas) in
    let parts = present_fields (types_view c.args.fields.now) c.args.rows c.args.columns.items c.next.new.self.rest.items c.in-Some.there c.in-Bool.there next here c.requires in
    let flags = c.deref.ensures.value ∙ c.in_ok-present.ensures in
    names_long (types_view c.args.fields.now) c.args.rows (length c.deref.result.now) (seen c.next.new.self.rest.items) (pairs_view c.in_ok-fields.fields.items) parts.1
    c.in_ok-fields.ensures (simp length-map at (ap length flags) ∙ parts.0)
