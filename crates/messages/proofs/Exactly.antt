-- Reading and writing a message undo each other.
use Rattle.std.proofs.Common.{◌≡◌, ℕ, ◌+◌, ◌<◌, ◌≤◌, true, leb, List, ◌++◌, length, get_or, take, drop, Ok, Result, sym, ap, ◌∙◌, ⊎_elim, append_assoc, arith}
use Rattle.std.proofs.lemmas.List.{take_at, drop_at, length-append, length-take-le}
use Rattle.std.proofs.lemmas.Bool.{cond-true, cond-false, and_from, leb-true, cases_Bool}
use Rattle.elements.specs.declared.fault.Fault.{Fault}
use Rattle.elements.proofs.Chains.{same_ok, fault_ok}
use Rattle.messages.specs.declared.message.Message.{Message}
use Rattle.messages.specs.Lawful.{lawful_message}
use Rattle.messages.specs.Reading.{message_at, ReadsExactly}
use Rattle.messages.specs.Spelling.{octets_of}
use Rattle.messages.specs.Writing.{buffer_size, overlaid, written_at, left_at, ReadBack}
use Rattle.messages.proofs.There.{there}
use Rattle.messages.proofs.Back.{back}
use Rattle.messages.proofs.Sizes.{short}

pub exactly : (s : List ℕ) (at : ℕ) (r : Result Message Fault) → ((k : ℕ) → get_or s k 0 < 256) → r ≡ message_at s at → ReadsExactly (drop at s) r
exactly s at r o e = record {
  spelt_so = λ m h. back s at m o (sym e ∙ h);
  read_so = λ m h. e ∙ there s at m h.0 (sym h.1);
}

-- when the writer succeeds: the message is lawful, the buffer is long enough, and so many octets are written
pub record Written (at : ℕ) (m : Message) (b : List ℕ) (n : ℕ) : Type 0 where
  pub lawful : lawful_message m ≡ true
  pub room : leb buffer_size (length b) ≡ true
  pub size : at + length (octets_of m) ≡ n
  pub left : left_at at m b ≡ overlaid at (octets_of m) b

pub written : (at : ℕ) (m : Message) (b : List ℕ) (n : ℕ) → written_at at m b ≡ Ok n → Written at m b n
written at m b n e =
    ⊎_elim
    (λ l. let e1 = sym (cond-true _ _ _ l) ∙ e in
    ⊎_elim
    (λ w. record { lawful = l; room = w; size = same_ok _ n (sym (cond-true _ _ _ w) ∙ e1); left = cond-true _ _ _ (and_from _ _ l w) })
    (λ f. fault_ok _ n (sym (cond-false _ _ _ f) ∙ e1))
    (cases_Bool (leb buffer_size (length b))))
    (λ f. fault_ok _ n (sym (cond-false _ _ _ f) ∙ e))
    (cases_Bool (lawful_message m))

pub read_back : (at : ℕ) (m : Message) (b after : List ℕ) (r : Result ℕ Fault) → at ≤ 10 → r ≡ written_at at m b → after ≡ left_at at m b → ReadBack at m after r
read_back at m b after r low e h n k =
    let w = written at m b n (sym e ∙ k) in
    let size = w.size in
    let few = short m w.lawful in
    let room = leb-true buffer_size (length b) w.room in
    let xs = octets_of m in
    let long : length (take at b) ≡ at = length-take-le at b (omega arith) in
    let both : length (take at b ++ xs) ≡ n = length-append (take at b) xs ∙ omega arith in
    let front : take n after ≡ take at b ++ xs =
    ap (take n) (h ∙ w.left ∙ sym (append_assoc (take at b) xs (drop (at + length xs) b))) ∙ take_at (take at b ++ xs) (drop (at + length xs) b) n both in
    (there (take n after) at m w.lawful (ap (drop at) front ∙ drop_at (take at b) xs at long), omega arith)
