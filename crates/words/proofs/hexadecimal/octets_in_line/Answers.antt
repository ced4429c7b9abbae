use Rattle.std.proofs.Common.{◌≡◌, ◌-◌, ◌<◌, ◌++◌, [], ◌∷◌, length, sym, ap, ◌∙◌, arith, rules, length-append}
use Rattle.words.specs.Hexadecimal.{octets_of}
use Rattle.words.proofs.Lines.{behind, past_blank, read_more}
use Rattle.words.proofs.hexadecimal.octets_in_line.Goals as goal

pub loop-rest-preserved-then-is_blank : goal.loop-rest-preserved-then-is_blank
loop-rest-preserved-then-is_blank c =
    let loop = c.loop-rest in
    let read = octets_of loop.octets in
    record {
      read = loop.invariant.read ∙ ap (behind read) (past_blank loop.rest.now (128 - length read) c.if-is_blank.ensures);
      room = loop.invariant.room;
    }

pub loop-rest-preserved : goal.loop-rest-preserved
loop-rest-preserved c =
    let loop = c.loop-rest in
    let read = octets_of loop.octets in
    let o = c.in_ok-octet-in-len2-up in
    let grown : octets_of c.push.new.self ≡ read ++ o.octet ∷ [] = search rules in
    let small : length read < 128 = search rules in
    record {
      read = loop.invariant.read ∙ read_more loop.rest.now read (octets_of c.push.new.self) o.octet small grown (sym c.if-is_blank.ensures) (sym o.ensures);
      room = rw grown (omega (arith, length-append read (o.octet ∷ [])));
    }
