use Rattle.std.proofs.Common.{◌≡◌, None, rules}
use Rattle.vx_rows.proofs.WrittenLemmas.{none_there}
use Rattle.vx_rows.proofs.ExtentLemmas.{plain_texts_of}
use Rattle.vx_rows.proofs.text_column.TextColumn.plain_texts.Goals as goal

pub returns : goal.returns
returns c =
    let none : c.self.inside.present ≡ None = none_there c.self.inside.present (search rules) in
    plain_texts_of c.self.inside.present c.self.inside.held.bytes c.as_slice.result.now c.self.inside.places c.in-Some.places.now
    c.self.inside.count c.self.inside.may_be_null c.args.self.now
    none c.as_slice.ensures.value c.in-Some.ensures c.self.invariant.0 c.self.invariant.2 c.self.invariant.3 c.self.view_is
