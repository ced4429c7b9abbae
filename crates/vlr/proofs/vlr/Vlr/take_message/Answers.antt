use Rattle.std.proofs.Common.{◌≡◌, ◌+◌, ◌<◌, [], Some, sym, ap, ◌∙◌, subst}
use Rattle.std.proofs.lemmas.Bool.{and_from}
use Rattle.station.specs.Sends.{Sent}
use Rattle.vlr.specs.Moves.{message_move}
use Rattle.vlr.specs.Delivering.{noted, answer_to}
use Rattle.vlr.specs.State.{State, state_of, with_records}
use Rattle.vlr.proofs.Delivers.{moved_held, moved_its}
use Rattle.vlr.proofs.Moved.{move_is}
use Rattle.vlr.proofs.Replies.{lawful_answer}
use Rattle.vlr.proofs.vlr.Vlr.take_message.Goals as goal
use Rattle.vlr.proofs.vlr.Vlr.take_message.Goals.{in-Some, in_default}

pub keep-requires-clause-held : goal.keep-requires-clause-held
keep-requires-clause-held g c =
    let v = c.args.self.now in
    let m = c.args.frame.message in
    let move = c.message_move-after.ensures ∙ ap (message_move v.sgsn m) c.record_of-before.ensures in
    moved_held (state_of v) m c.in-Some.record (ap (λ x. x.0) (sym move) ∙ c.in-Some.is)

pub keep-requires-clause-names : goal.keep-requires-clause-names
keep-requires-clause-names g c =
    let v = c.args.self.now in
    let m = c.args.frame.message in
    let move = c.message_move-after.ensures ∙ ap (message_move v.sgsn m) c.record_of-before.ensures in
    moved_its (state_of v) m c.in-Some.record v.marks (ap (λ x. x.0) (sym move) ∙ c.in-Some.is)

pub returns-in-Some-answer-clause-sent : goal.returns-in-Some-answer-clause-sent
returns-in-Some-answer-clause-sent g c =
    let v = c.args.self.now in
    let w = c.match-after.self in
    let f = c.args.frame in
    let a = c.in-Some-answer.message in
    let move = c.message_move-after.ensures ∙ ap (message_move v.sgsn f.message) c.record_of-before.ensures in
    let is : (message_move v.sgsn f.message (noted (state_of v) f.message)).1 ≡ Some a = ap (λ x. x.1) (sym move) ∙ c.in-Some-answer.is in
    let lawful = lawful_answer (noted (state_of v) f.message) f.message a c.requires.lawful (sym (ap (λ x. x.1) (move_is v.sgsn f.message _)) ∙ is) in
    -- the record that was kept is all that differs
    let but_for_records : State → State = λ s. with_records s [] in
    let same : but_for_records (state_of w) ≡ but_for_records (state_of v) =
    elim c.match-after.branch [ in-Some b ↦ ap (λ x. but_for_records (state_of x)) b.self-is ∙ ap but_for_records b.keep.ensures | in_default b ↦ ap (λ x. but_for_records (state_of x)) b.self-is ] in
    let stamps = subst (λ s. s.last + 1 < 4294967296) (sym same) c.requires.stamps in
    subst (λ o. Sent g.C.Carrier.puts v.sender.own v.sender.last (answer_to (state_of v) f o) c.args.carrier.now c.send.new.carrier) (sym is)
    (subst (λ s. Sent g.C.Carrier.puts s.own s.last (answer_to s f (Some a)) c.args.carrier.now c.send.new.carrier) same
    (c.send.ensures.sent stamps (and_from _ _ w.nodes lawful)))
