-- One write into a buffer after another.
use Rattle.std.proofs.Common.{◌≡◌, ℕ, ◌+◌, ◌≤◌, List, ◌++◌, length, take, drop, sym, ap, ◌∙◌, append_assoc, arith}
use Rattle.std.proofs.lemmas.List.{length-append, length-take-le, take_at, drop_at, drop-drop}
use Rattle.messages.specs.declared.put.Writer.{Writer}
use Rattle.messages.specs.Writing.{overlaid, Puts}

overlaid_more : (b : List ℕ) (at n : ℕ) (xs ys : List ℕ) → n ≡ at + length xs → n ≤ length b → overlaid n ys (overlaid at xs b) ≡ overlaid at (xs ++ ys) b
overlaid_more b at n xs ys e h =
    let low : at ≤ length b = omega arith in
    let front = take at b ++ xs in
    let long : length front ≡ n = length-append (take at b) xs ∙ ap (λ m. m + length xs) (length-take-le at b low) ∙ sym e in
    let whole : overlaid at xs b ≡ front ++ drop n b = sym (append_assoc (take at b) xs (drop (at + length xs) b)) ∙ ap (λ m. front ++ drop m b) (sym e) in
    let rest : drop (n + length ys) (front ++ drop n b) ≡ drop (n + length ys) b = sym (drop-drop (length ys) n (front ++ drop n b)) ∙ ap (drop (length ys)) (drop_at front (drop n b) n long) ∙ drop-drop (length ys) n b in
    let size : n + length ys ≡ at + length (xs ++ ys) = omega (arith, length-append xs ys) in
    ap (overlaid n ys) whole
    ∙ (λ i. take_at front (drop n b) n long i ++ (ys ++ rest i))
    ∙ append_assoc (take at b) xs (ys ++ drop (n + length ys) b)
    ∙ ap (λ t. take at b ++ t) (sym (append_assoc xs ys (drop (n + length ys) b)))
    ∙ ap (λ m. take at b ++ ((xs ++ ys) ++ drop m b)) size

pub puts_more : {n m : ℕ} {xs ys : List ℕ} {a b c : Writer} → Puts n xs a b → Puts m ys b c → Puts (n + m) (xs ++ ys) a c
puts_more {n} {m} {xs} {ys} {a} {b} {c} p q =
    let w = p.wrote in
    let v = q.wrote in
    let low : b.at ≤ length a.buffer.now = omega (arith, b.within, p.long) in
    record {
      few = omega (arith, length-append xs ys, p.few, q.few);
      wrote = record {
        next_at = omega (arith, length-append xs ys, w.next_at, v.next_at);
        octets = v.octets ∙ ap (overlaid b.at ys) w.octets ∙ overlaid_more a.buffer.now a.at b.at xs ys w.next_at low;
      };
      long = q.long ∙ p.long;
      same_buffer = q.same_buffer ∙ p.same_buffer;
    }

-- what is n at most is more at most, too
pub puts_few : {n : ℕ} {xs : List ℕ} {a b : Writer} (m : ℕ) → Puts n xs a b → n ≤ m → Puts m xs a b
puts_few m p h = record { few = omega (arith, p.few); wrote = p.wrote; long = p.long; same_buffer = p.same_buffer }
