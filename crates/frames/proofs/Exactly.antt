-- Reading and spelling a frame undo each other.
use Rattle.std.proofs.Common.{◌≡◌, ℕ, ◌+◌, ◌<◌, ◌≤◌, true, ltb, leb, List, ◌++◌, length, get_or, Ok, Result, sym, refl, ap, ◌∙◌, subst, arith}
use Rattle.std.proofs.lemmas.List.{length-append}
use Rattle.std.proofs.lemmas.Bool.{and_from, and_parts, le-leb, lt-ltb, leb-true, ltb-true}
use Rattle.elements.specs.declared.fault.Fault.{Fault}
use Rattle.elements.specs.Reading.{number_at}
use Rattle.elements.proofs.Chains.{then_there, then_ok, same_ok}
use Rattle.messages.specs.Lawful.{lawful_message}
use Rattle.messages.specs.Reading.{message_at}
use Rattle.messages.specs.Spelling.{octets_of}
use Rattle.messages.proofs.There.{there}
use Rattle.messages.proofs.Back.{back}
use Rattle.messages.proofs.Sizes.{short, some}
use Rattle.frames.specs.declared.frame.Frame.{Frame}
use Rattle.frames.specs.declared.frame.Header.{Header}
use Rattle.frames.specs.Format.{lawful_nodes, lawful_stamp, lawful_frame, header_octets, frame_octets, Spells, node_at, header_in, header_read, framed, frame_in, ReadsExactly}
use Rattle.frames.proofs.Headers.{header_read_lem, header_there, front_read, front_there}

pub record Lawful (f : Frame) : Type 0 where
  pub nodes : lawful_nodes f.source f.destination ≡ true
  pub some_stamp : 1 ≤ f.stamp
  pub stamp_fits : f.stamp < 4294967296
  pub answers_fits : f.answers < 4294967296
  pub message : lawful_message f.message ≡ true

pub lawful_parts : (f : Frame) → lawful_frame f ≡ true → Lawful f
lawful_parts f l =
    let a = and_parts (lawful_nodes f.source f.destination) _ l in
    let b = and_parts (lawful_stamp f.stamp) _ a.1 in
    let c = and_parts (leb 1 f.stamp) _ b.0 in
    let d = and_parts (ltb f.answers 4294967296) _ b.1 in
    record {
      nodes = a.0;
      some_stamp = leb-true 1 f.stamp c.0;
      stamp_fits = ltb-true f.stamp 4294967296 c.1;
      answers_fits = ltb-true f.answers 4294967296 d.0;
      message = d.1;
    }

pub lawful_from : (f : Frame) → Lawful f → lawful_frame f ≡ true
lawful_from f l =
    and_from _ _ l.nodes
    (and_from _ _ (and_from _ _ (le-leb 1 f.stamp l.some_stamp) (lt-ltb f.stamp 4294967296 l.stamp_fits))
    (and_from _ _ (lt-ltb f.answers 4294967296 l.answers_fits) l.message))

pub frame_size : (f : Frame) → length (frame_octets f) ≡ 10 + length (octets_of f.message)
frame_size f = length-append (header_octets f.source f.destination f.stamp f.answers) (octets_of f.message)

pub frame_back : (s : List ℕ) (f : Frame) → ((k : ℕ) → get_or s k 0 < 256) → frame_in s ≡ Ok f → Spells f s
frame_back s f o r =
    let a = then_ok (header_read s) _ f r in
    let h = header_read_lem s a.0 a.1 in
    let b = then_ok (message_at s 10) _ f a.2 in
    let m = b.0 in
    let low = h.low in
    let front = front_read s o (omega arith) in
    let sp = back s 10 m o b.1 in
    let g = framed (header_in s) m in
    let is : g ≡ f = ap (λ x. framed x m) h.is ∙ same_ok _ f b.2 in
    subst (λ w. Spells w s) is (
      lawful_from g (record { nodes = h.nodes; some_stamp = h.stamp; stamp_fits = front.1; answers_fits = front.2; message = sp.0 }),
      ap (λ t. header_octets (node_at s 0) (node_at s 1) (number_at s 2) (number_at s 6) ++ t) sp.1 ∙ front.0,
    )

pub frame_there : (s : List ℕ) (f : Frame) → Spells f s → frame_in s ≡ Ok f
frame_there s f sp =
    let l = lawful_parts f sp.0 in
    let m = f.message in
    let h : Header = record { source = f.source; destination = f.destination; stamp = f.stamp; answers = f.answers } in
    let ft = front_there s (octets_of m) f.source f.destination f.stamp f.answers l.stamp_fits l.answers_fits sp.1 in
    let size : length s ≡ 10 + length (octets_of m) = sym (ap length sp.1) ∙ frame_size f in
    let few = short m l.message in
    let one = some m in
    let nodes : lawful_nodes (node_at s 0) (node_at s 1) ≡ true = ap (λ (x : Header). lawful_nodes x.source x.destination) ft.0 ∙ l.nodes in
    let stamp-is : number_at s 2 ≡ f.stamp = ap (λ (x : Header). x.stamp) ft.0 in
    let st = l.some_stamp in
    then_there _ (header_there s h ft.0 (omega arith) (omega arith) nodes (omega arith)) (then_there _ (there s 10 m l.message ft.1) refl)

pub exactly : (s : List ℕ) (r : Result Frame Fault) → ((k : ℕ) → get_or s k 0 < 256) → r ≡ frame_in s → ReadsExactly s r
exactly s r o e = record { spelt_so = λ f h. frame_back s f o (sym e ∙ h); read_so = λ f h. e ∙ frame_there s f h }
