-- `write_bytes::text::emit_text` meets its contract.
use Rattle.format.specs.Label.{label}
use Rattle.format.specs.Read.{number_label}
use Rattle.write_bytes.specs.State.{Puts}
use Rattle.write_bytes.proofs.Facts.{signed_is}
use Rattle.write_bytes.proofs.Texts.{row_out, row_named}
use Rattle.write_bytes.proofs.text.emit_text.Goals as goal

pub returns-in-Number : goal.returns-in-Number
returns-in-Number c =
    let e = signed_is (record { sfits = c.number_label.type_inv }) c.number_label.ensures in
    let d : Puts _ _ (label (number_label _)) _ _ _ = rw e at c.put_label.ensures in
    row_named c.args.how.put c.args.how.inline c.args.numbered c.args.ended c.args.key c.args.core c.args.pool.now c.args.work.now c.args.out.now (record { start = c.args.place.start; size = c.args.place.size }) _ c.choose.ensures.result_value c.in-Number.is c.requires.0 d

pub returns-in-Nothing : goal.returns-in-Nothing
returns-in-Nothing c = row_out c.args.how.put c.args.how.inline c.args.numbered c.args.ended c.args.key c.args.core c.args.pool.now c.args.work.now c.args.out.now (record { start = c.args.place.start; size = c.args.place.size }) _ c.choose.ensures.result_value c.in-Nothing.is c.literal.ensures
