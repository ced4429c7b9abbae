-- What a mailbox does is what a carrier may do.
use Rattle.std.specs.Prelude.{◌≡◌, ℕ, Bool, true, false, cond, ◌⊎◌, List, [], ◌∷◌, ◌++◌, length, is_ok, Some, None, Ok, Err, Option, Result, nat_lt, refl}
use Rattle.std.proofs.Common.{sym, subst, ◌∙◌, inl, inr, ⊎_elim}
use Rattle.std.proofs.Math.Nat.{le_refl}
use Rattle.std.proofs.lemmas.Bool.{and_parts, le-ltb, false≢true}
use Rattle.std.proofs.lemmas.Option.{none-some, same_Some}
use Rattle.elements.specs.declared.fault.Fault.{Fault}
use Rattle.elements.specs.declared.node.NodeNumber.{NodeNumber}
use Rattle.elements.proofs.Chains.{then_ok}
use Rattle.frames.specs.declared.frame.Frame.{Frame}
use Rattle.frames.specs.Format.{header_read, frame_in}
use Rattle.frames.proofs.Headers.{header_read_lem}
use Rattle.carrier.specs.declared.datagram.Datagram.{Datagram}
use Rattle.carrier.specs.Datagrams.{octets_in, carried}
use Rattle.carrier.specs.Octets.{stamp_of}
use Rattle.carrier.specs.Waiting.{In, Sized, Adds, Gives, Leaves}
use Rattle.mailbox.specs.declared.slot.Slot.{Slot}
use Rattle.mailbox.specs.Frames.{is_frame, legible}
use Rattle.mailbox.specs.Model.{arrived, Puts}
use Rattle.mailbox.specs.Slots.{slot, held_by, pair_of, waits, waits_for, any, first, change, held_in, renewed, emptied}
use Rattle.carrier.specs.Nodes.{same_node_lem}

-- what waits in a slot or in those behind it
here_by : (b : Bool) (x o : List ℕ) (hs : List (List ℕ)) → In x (cond b (o ∷ hs) hs) → (x ≡ o) ⊎ In x hs
here_by true x o hs h = h
here_by false x o hs h = inr h

here : (x : List ℕ) (e : Slot) (es : List Slot) → In x (held_in (e ∷ es)) → (x ≡ held_by e) ⊎ In x (held_in es)
here x e es h = here_by (waits e) x (held_by e) (held_in es) h

behind_by : (b : Bool) (x o : List ℕ) (hs : List (List ℕ)) → In x hs → In x (cond b (o ∷ hs) hs)
behind_by true x o hs h = inr h
behind_by false x o hs h = h

-- what is so of those behind a slot is so with the slot
step_by : (b : Bool) (x o : List ℕ) (hs ks : List (List ℕ)) (P : Type 0) → (In x hs → In x ks ⊎ P) → In x (cond b (o ∷ hs) hs) → In x (cond b (o ∷ ks) ks) ⊎ P
step_by true x o hs ks P rest h = ⊎_elim (λ e. inl (inl e)) (λ i. ⊎_elim (λ j. inl (inr j)) inr (rest i)) h
step_by false x o hs ks P rest h = rest h

renew_by : (b : Bool) (d : Datagram) (e : Slot) (es : List Slot) (x : List ℕ) → In x (held_in (cond b (slot d e.given) e ∷ es)) → In x (held_in (e ∷ es)) ⊎ (x ≡ octets_in d)
renew_by true d e es x h = ⊎_elim inr (λ i. inl (behind_by (waits e) x (held_by e) (held_in es) i)) (here x (slot d e.given) es h)
renew_by false d e es x h = inl h

changed_by : (b : Bool) (d : Datagram) (e : Slot) (es : List Slot) (x : List ℕ) → (In x (held_in (change (pair_of (octets_in d)) (renewed d) es)) → In x (held_in es) ⊎ (x ≡ octets_in d)) → In x (held_in (cond b (renewed d e ∷ es) (e ∷ change (pair_of (octets_in d)) (renewed d) es))) → In x (held_in (e ∷ es)) ⊎ (x ≡ octets_in d)
changed_by true d e es x rest h = renew_by (nat_lt (stamp_of (held_by e)) (stamp_of (octets_in d))) d e es x h
changed_by false d e es x rest h = step_by (waits e) x (held_by e) (held_in (change (pair_of (octets_in d)) (renewed d) es)) (held_in es) (x ≡ octets_in d) rest h

changed : (d : Datagram) (es : List Slot) (x : List ℕ) → In x (held_in (change (pair_of (octets_in d)) (renewed d) es)) → In x (held_in es) ⊎ (x ≡ octets_in d)
changed d [] x h = absurd h
changed d (e ∷ es) x h = changed_by (pair_of (octets_in d) e) d e es x (changed d es x) h

pushed : (d : Datagram) (es : List Slot) (x : List ℕ) → In x (held_in (es ++ slot d 0 ∷ [])) → In x (held_in es) ⊎ (x ≡ octets_in d)
pushed d [] x h = ⊎_elim inr absurd (here x (slot d 0) [] h)
pushed d (e ∷ es) x h = step_by (waits e) x (held_by e) (held_in (es ++ slot d 0 ∷ [])) (held_in es) (x ≡ octets_in d) (pushed d es x) h

noted_by : (b c : Bool) (d : Datagram) (es : List Slot) (x : List ℕ) → In x (held_in (cond b (change (pair_of (octets_in d)) (renewed d) es) (cond c (es ++ slot d 0 ∷ []) es))) → In x (held_in es) ⊎ (x ≡ octets_in d)
noted_by true c d es x h = changed d es x h
noted_by false true d es x h = pushed d es x h
noted_by false false d es x h = inl h

-- a frame has 11 to 64 octets
read_frame_lem : (r : Result Frame Fault) → is_ok r ≡ true → (f : Frame) × (r ≡ Ok f)
read_frame_lem (Ok f) t = (f, refl)
read_frame_lem (Err e) t = absurd (false≢true t)

frame_sized : (o : List ℕ) → is_frame o ≡ true → Sized o
frame_sized o t =
    let r = read_frame_lem (frame_in o) t in
    let h = then_ok (header_read o) _ r.0 r.1 in
    let l = header_read_lem o h.0 h.1 in
    (l.low, l.high)

legible_by : (b : Bool) (o g : List ℕ) → is_frame o ≡ b → Some g ≡ cond b (Some o) None → (g ≡ o) × Sized o
legible_by true o g t e = (same_Some g o e, frame_sized o t)
legible_by false o g t e = absurd (none-some g (sym e))

arrived_in : (r : Option Datagram) (o : List ℕ) (es : List Slot) (x : List ℕ) → carried r ≡ legible o → In x (held_in (arrived r es)) → In x (held_in es) ⊎ ((x ≡ o) × Sized o)
arrived_in None o es x e h = inl h
arrived_in (Some d) o es x e h =
    let l = legible_by (is_frame o) o (octets_in d) refl e in
    ⊎_elim inl (λ s. inr (s ∙ l.0, l.1)) (noted_by (any (pair_of (octets_in d)) es) (nat_lt (length es) 16) d es x h)

pub adds : (es fs : List Slot) (o : List ℕ) → Puts es o fs → Adds (held_in es) o (held_in fs)
adds es fs o (r, e, q) x h = arrived_in r o es x e (subst (λ z. In x (held_in z)) q h)

-- what is given waits, and is for the node
later : (n : NodeNumber) (e : Slot) (es : List Slot) (r : Option (List ℕ)) → Gives (held_in es) n r → Gives (held_in (e ∷ es)) n r
later n e es None h = tt
later n e es (Some f) h = (behind_by (waits e) f (held_by e) (held_in es) h.0, h.1)

gives_by : (b : Bool) (n : NodeNumber) (e : Slot) (es : List Slot) → waits_for n e ≡ b → Gives (held_in es) n (first (waits_for n) es) → Gives (held_in (e ∷ es)) n (cond b (Some (held_by e)) (first (waits_for n) es))
gives_by true n e es t rest =
    let a = and_parts _ _ t in
    let i : In (held_by e) (held_by e ∷ held_in es) = inl refl in
    (subst (λ b. In (held_by e) (cond b (held_by e ∷ held_in es) (held_in es))) (sym a.1) i, same_node_lem _ _ a.0)
gives_by false n e es t rest = later n e es (first (waits_for n) es) rest

pub gives : (n : NodeNumber) (es : List Slot) → Gives (held_in es) n (first (waits_for n) es)
gives n [] = tt
gives n (e ∷ es) = gives_by (waits_for n e) n e es refl (gives n es)

leaves_by : (b : Bool) (n : NodeNumber) (e : Slot) (es : List Slot) (x : List ℕ) → (In x (held_in (change (waits_for n) emptied es)) → In x (held_in es)) → In x (held_in (cond b (emptied e ∷ es) (e ∷ change (waits_for n) emptied es))) → In x (held_in (e ∷ es))
leaves_by true n e es x rest h =
    let k : waits (emptied e) ≡ false = le-ltb _ _ (le_refl _) in
    behind_by (waits e) x (held_by e) (held_in es) (subst (λ b. In x (cond b (held_by e ∷ held_in es) (held_in es))) k h)
leaves_by false n e es x rest h = ⊎_elim (λ i. i) absurd (step_by (waits e) x (held_by e) (held_in (change (waits_for n) emptied es)) (held_in es) ⊥ (λ i. inl (rest i)) h)

pub leaves : (n : NodeNumber) (es : List Slot) → Leaves (held_in es) (held_in (change (waits_for n) emptied es))
leaves n [] x h = h
leaves n (e ∷ es) x h = leaves_by (waits_for n e) n e es x (leaves n es x) h
