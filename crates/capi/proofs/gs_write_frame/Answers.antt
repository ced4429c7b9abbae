use Rattle.capi.proofs.Replied.{written}
use Rattle.capi.proofs.gs_write_frame.Goals as goal

pub returns-in-Some : goal.returns-in-Some
returns-in-Some c =
    let w = c.write_row in
    let d = written c.args.fields.now c.args.buffer.now w.new.buffer c.in-Some.row w.result c.unwrap_or_else.result c.in-Some.ensures w.ensures.value w.ensures.octets w.ensures.back c.unwrap_or_else.ensures in
    record { answer = d.answer; octets = d.octets; back = d.back }
