-- What is answered and left once the row in front was written.
use Rattle.std.specs.Prelude.{nat_lt}
use Rattle.std.proofs.Common.{◌≡◌, ℕ, ◌<◌, ◌≤◌, Bool, true, false, cond, List, length, take, Some, None, Ok, Err, IfOk, MatchResult, Result, sym, refl, ap, ◌∙◌, arith, lit≤}
use Rattle.std.proofs.lemmas.Bool.{cond-false}
use Rattle.std.proofs.lemmas.Option.{none-some, same_Some}
use Rattle.elements.specs.declared.fault.Fault.{Fault}
use Rattle.elements.specs.declared.fault.FaultKind.{FaultKind}
use Rattle.elements.specs.declared.fault.FaultKind.TheVariants as kind
use Rattle.elements.specs.Faults.{fault_number, and_then}
use Rattle.frames.specs.Format.{frame_in}
use Rattle.frames.specs.Writing.{frame_written}
use Rattle.capi.specs.declared.row.Row.{Row}
use Rattle.capi.specs.Rows.{fields_of, row_at, row_in_front}
use Rattle.capi.specs.Taken.{frame_from}
use Rattle.capi.specs.Replies.{refusal_of, write_reply, buffer_left, write_answer, write_buffer}

-- a refusal is no count of octets
numbered : (k : FaultKind) → 20 ≤ fault_number k
numbered kind.FrameSize = lit≤ tt
numbered kind.Nodes = lit≤ tt
numbered kind.Stamp = lit≤ tt
numbered kind.MessageType = lit≤ tt
numbered kind.Identifier = lit≤ tt
numbered kind.Length = lit≤ tt
numbered kind.Contents = lit≤ tt
numbered kind.Trailing = lit≤ tt
numbered kind.Buffer = lit≤ tt

apart : (d : Fault) → 256 ≤ refusal_of d
apart d = omega (arith, numbered d.kind)

-- the row in front says what the numbers say, and they are many enough
in_front_by : (s : List ℕ) (r : Row) (few : Bool) → Some r ≡ cond few None (Some (row_at s)) → (few ≡ false) × (frame_from (fields_of r) ≡ frame_from s)
in_front_by s r true e = absurd (none-some r (sym e))
in_front_by s r false e = (refl, ap (λ x. frame_from (fields_of x)) (same_Some r (row_at s) e))

in_front : (s : List ℕ) (r : Row) → Some r ≡ row_in_front s → (nat_lt (length s) 15 ≡ false) × (frame_from (fields_of r) ≡ frame_from s)
in_front s r e = in_front_by s r (nat_lt (length s) 15) e

-- n answers what writing gave
abbrev pub Answers : Result ℕ Fault → ℕ → Type 0
Answers w n = MatchResult w (λ k. n ≡ k) (λ d. n ≡ refusal_of d)

replied : (w : Result ℕ Fault) (n : ℕ) → Answers w n → n ≡ write_reply w
replied (Ok k) n e = e
replied (Err d) n e = e

read_back : (w : Result ℕ Fault) (n : ℕ) (after s : List ℕ) → Answers w n → IfOk w (λ k. frame_in (take k after) ≡ frame_from s) → n < 256 → frame_in (take n after) ≡ frame_from s
read_back (Ok k) n after s e back l = ap (λ m. frame_in (take m after)) e ∙ back
read_back (Err d) n after s e back l = let large = apart d in absurd (omega arith)

pub record Written (s b after : List ℕ) (n : ℕ) : Type 0 where
  pub answer : n ≡ write_answer s b
  pub octets : after ≡ write_buffer s b
  pub back : n < 256 → frame_in (take n after) ≡ frame_from s

pub written : (s b after : List ℕ) (r : Row) (w : Result ℕ Fault) (n : ℕ) → Some r ≡ row_in_front s → w ≡ and_then (frame_from (fields_of r)) (λ f. frame_written f b) → after ≡ buffer_left (frame_from (fields_of r)) b → IfOk w (λ k. frame_in (take k after) ≡ frame_from (fields_of r)) → Answers w n → Written s b after n
written s b after r w n front is left back e =
    let f = in_front s r front in
    record {
      answer = replied w n e ∙ ap write_reply is ∙ ap (λ t. write_reply (and_then t (λ f. frame_written f b))) f.1 ∙ sym (cond-false _ _ _ f.0);
      octets = left ∙ ap (λ t. buffer_left t b) f.1 ∙ sym (cond-false _ _ _ f.0);
      back = λ l. read_back w n after (fields_of r) e back l ∙ f.1;
    }
