use Rattle.std.proofs.Common.{sym, ◌∙◌, rules}
use Rattle.frames.proofs.Written.{Asked, done, left}
use Rattle.frames.proofs.writing.write_frame.Goals as goal

pub returns : goal.returns
returns c =
    let f = c.args.frame in
    let w = c.write_message in
    let asked : Asked f = record { nodes = search rules; stamp = search rules; stamp_fits = search rules; answers_fits = search rules } in
    let d = done f c.args.buffer.now w.new.buffer _ c.in_ok-end.end asked (sym c.in_ok-end.ensures.value) c.in_ok-end.ensures.octets c.put_header.ensures in
    record { value = search rules; octets = d.octets; back = d.back }

pub returns-in_err-end-clause-octets : goal.returns-in_err-end-clause-octets
returns-in_err-end-clause-octets c =
    c.in_err-end.ensures.octets ∙ left c.args.frame c.args.buffer.now _ (sym c.in_err-end.ensures.value)
