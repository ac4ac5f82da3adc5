use Rattle.vx_rows.proofs.WrittenLemmas.{texts_written}
use Rattle.vx_rows.proofs.text_column.TextColumn.push_bytes.Goals as goal

pub returns : goal.returns
returns c =
    texts_written c.self.inside.may_be_null c.self.inside.present c.self.inside.held.bytes c.self.inside.places c.self.inside.count c.args.self.now c.args.bytes.now.items
    c.push_presence.new.bytes.items c.push_lengths.new.bytes.items c.push_texts.new.bytes.items c.self.view_is c.in_ok-push_presence.ensures c.in_ok-push_lengths.ensures c.in_ok-push_texts.ensures
