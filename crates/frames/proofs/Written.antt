-- What the frame writer leaves when the message writer has succeeded, and when it has refused.
use Rattle.std.proofs.Common.{◌≡◌, ℕ, ◌+◌, ◌<◌, ◌≤◌, true, ◌&&◌, leb, List, ◌++◌, length, take, drop, Ok, Err, sym, refl, ap, ◌∙◌, ⊎_elim, append_assoc, arith}
use Rattle.std.proofs.lemmas.List.{length-take-le, drop_at, take_at}
use Rattle.std.proofs.lemmas.Bool.{cond-true, cond-false, and_from, and_parts, leb-true, cases_eq, false_from_ne_true}
use Rattle.elements.specs.declared.fault.Fault.{Fault}
use Rattle.elements.proofs.Chains.{same_ok, fault_ok}
use Rattle.messages.specs.Lawful.{lawful_message}
use Rattle.messages.specs.Spelling.{octets_of}
use Rattle.messages.specs.Writing.{buffer_size, overlaid, written_at, left_at}
use Rattle.messages.proofs.Exactly.{written}
use Rattle.messages.proofs.Sizes.{short}
use Rattle.frames.specs.declared.frame.Frame.{Frame}
use Rattle.frames.specs.Format.{lawful_nodes, lawful_frame, header_octets, frame_octets, frame_in}
use Rattle.frames.specs.Writing.{frame_left, ReadBack}
use Rattle.frames.proofs.Exactly.{lawful_parts, lawful_from, frame_size, frame_there}

-- what is asked before the message is written
pub record Asked (f : Frame) : Type 0 where
  pub nodes : lawful_nodes f.source f.destination ≡ true
  pub stamp : f.stamp ≡ 0 → ⊥
  pub stamp_fits : f.stamp < 4294967296
  pub answers_fits : f.answers < 4294967296

-- what stands in the buffer when the message writer has succeeded
pub record Done (f : Frame) (b after : List ℕ) (n : ℕ) : Type 0 where
  pub octets : after ≡ frame_left f b
  pub back : ReadBack f after (Ok n)

behind_ten : (b xs : List ℕ) → 10 ≤ length b → drop 10 (overlaid 10 xs b) ≡ xs ++ drop (10 + length xs) b
behind_ten b xs l = drop_at (take 10 b) (xs ++ drop (10 + length xs) b) 10 (length-take-le 10 b l)

pub done : (f : Frame) (b between after : List ℕ) (n : ℕ) → Asked f → written_at 10 f.message b ≡ Ok n → between ≡ left_at 10 f.message b → after ≡ header_octets f.source f.destination f.stamp f.answers ++ drop 10 between → Done f b after n
done f b between after n a e h k =
    let m = f.message in
    let xs = octets_of m in
    let hs = header_octets f.source f.destination f.stamp f.answers in
    let w = written 10 m b n e in
    let room = leb-true buffer_size (length b) w.room in
    let size = w.size in
    let few = short m w.lawful in
    let whole = frame_size f in
    let st = a.stamp in
    let law = lawful_from f (record { nodes = a.nodes; some_stamp = ⊎_elim (λ z. absurd (st z)) (λ z. omega arith) (cases_eq f.stamp 0); stamp_fits = a.stamp_fits; answers_fits = a.answers_fits; message = w.lawful }) in
    let rest : drop 10 between ≡ xs ++ drop (10 + length xs) b = ap (drop 10) (h ∙ w.left) ∙ behind_ten b xs (omega arith) in
    let long : 10 + length xs ≡ length (frame_octets f) = omega arith in
    let is : after ≡ frame_octets f ++ drop (length (frame_octets f)) b = k ∙ ap (λ t. hs ++ t) rest ∙ sym (append_assoc hs xs (drop (10 + length xs) b)) ∙ ap (λ d. frame_octets f ++ drop d b) long in
    record {
      octets = is ∙ sym (cond-true _ _ _ (and_from _ _ law w.room));
      back = λ p q.
          let same = same_ok n p q in
          let front : take p after ≡ frame_octets f = ap (take p) is ∙ take_at (frame_octets f) (drop (length (frame_octets f)) b) p (omega arith) in
          (ap frame_in front ∙ frame_there (frame_octets f) f (law, refl), omega arith);
    }

-- the message writer refuses and leaves the buffer, which then holds no frame
pub left : (f : Frame) (b : List ℕ) (d : Fault) → written_at 10 f.message b ≡ Err d → left_at 10 f.message b ≡ frame_left f b
left f b d e =
    let m = f.message in
    let room = leb buffer_size (length b) in
    let not_done : (lawful_message m && room) ≡ true → ⊥ = λ t.
    let p = and_parts (lawful_message m) room t in
    fault_ok d (10 + length (octets_of m)) (sym e ∙ cond-true _ _ _ p.0 ∙ cond-true _ _ _ p.1) in
    let no_frame : (lawful_frame f && room) ≡ true → ⊥ = λ t.
    let p = and_parts (lawful_frame f) room t in
    not_done (and_from _ _ (lawful_parts f p.0).message p.1) in
    cond-false _ _ _ (false_from_ne_true _ not_done) ∙ sym (cond-false _ _ _ (false_from_ne_true _ no_frame))
