-- What a carrier does with octets, said of frames.
use Rattle.std.proofs.Common.{◌≡◌, ℕ, ◌+◌, ◌<◌, ◌⊎◌, inl, inr, true, List, [], ◌∷◌, map, Some, Ok, Err, Option, sym, refl, ap, ◌∙◌, subst, ⊎_elim, arith}
use Rattle.std.specs.List.{list_all}
use Rattle.std.proofs.lemmas.Bool.{and_parts}
use Rattle.elements.specs.declared.fault.Fault.{Fault}
use Rattle.elements.specs.declared.node.NodeNumber.{NodeNumber}
use Rattle.elements.proofs.Chains.{same_ok, fault_ok}
use Rattle.messages.specs.Spelling.{octets_of}
use Rattle.frames.specs.declared.frame.Frame.{Frame}
use Rattle.frames.specs.declared.frame.Header.{Header}
use Rattle.frames.specs.Format.{lawful_frame, frame_octets, Spells, header_in, frame_in}
use Rattle.frames.proofs.Headers.{front_there}
use Rattle.frames.proofs.Exactly.{lawful_parts, frame_there}
use Rattle.carrier.specs.Octets.{source_of, destination_of, stamp_of}
use Rattle.carrier.specs.Chains.{PutsAll}
use Rattle.carrier.specs.Order.{Stamps, Still, Moves}
use Rattle.carrier.specs.Waiting.{In, Adds, Gives, Leaves}
use Rattle.station.specs.declared.sending.Outgoing.{Outgoing}
use Rattle.station.specs.Sends.{frames_of, Sent}
use Rattle.law.specs.Sound.{Live}
use Rattle.law.proofs.Premises.{Among, Given, Sends}

-- What waits is the spelling of a lawful frame.
abbrev pub Spelt : List (List ℕ) → Type 0
Spelt ws = (x : List ℕ) → In x ws → (f : Frame) × Spells f x

-- After an end sent: what can be given could be given before, or is new from this end; New says what is new to each node.
pub record After (own : NodeNumber) (New : NodeNumber → Frame → Type 0) (ws : List (List ℕ)) (ls : Stamps) (ws2 : List (List ℕ)) (ls2 : Stamps) : Type 0 where
  pub live : (a b : NodeNumber) (g : Frame) → Live ws2 ls2 a b g → Live ws ls a b g ⊎ ((a ≡ own) × New b g)
  pub still : (a b : NodeNumber) → ls2 a b ≡ ls a b
  pub spelt : Spelt ws → Spelt ws2

-- nothing was sent
pub unsent : (own : NodeNumber) (ws : List (List ℕ)) (ls : Stamps) → After own (λ b g. ⊥) ws ls ws ls
unsent own ws ls = record { live = λ a b g l. inl l; still = λ a b. refl; spelt = λ sp. sp }

-- octets spell one lawful frame
spells_one : (f g : Frame) (x : List ℕ) → Spells f x → Spells g x → f ≡ g
spells_one f g x p q = same_ok f g (sym (frame_there x f p) ∙ frame_there x g q)

-- where a frame's nodes and stamp stand
header_is : (f : Frame) (x : List ℕ) → Spells f x → header_in x ≡ record { source = f.source; destination = f.destination; stamp = f.stamp; answers = f.answers }
header_is f x p =
    let l = lawful_parts f p.0 in
    (front_there x (octets_of f.message) f.source f.destination f.stamp f.answers l.stamp_fits l.answers_fits p.1).0

pub record Front (f : Frame) (x : List ℕ) : Type 0 where
  pub source : source_of x ≡ f.source
  pub destination : destination_of x ≡ f.destination
  pub stamp : stamp_of x ≡ f.stamp

front : (f : Frame) (x : List ℕ) → Spells f x → Front f x
front f x p =
    let h = header_is f x p in
    record { source = ap (λ (t : Header). t.source) h; destination = ap (λ (t : Header). t.destination) h; stamp = ap (λ (t : Header). t.stamp) h }

-- each of these is lawful
all_among : (fs : List Frame) (g : Frame) → list_all lawful_frame fs ≡ true → Among g fs → lawful_frame g ≡ true
all_among [] g a m = absurd m
all_among (f ∷ fs) g a (inl e) = ap lawful_frame e ∙ (and_parts (lawful_frame f) (list_all lawful_frame fs) a).0
all_among (f ∷ fs) g a (inr m) = all_among fs g (and_parts (lawful_frame f) (list_all lawful_frame fs) a).1 m

-- an end's frames are from it
sender : (own : NodeNumber) (last : ℕ) (os : List Outgoing) (g : Frame) → Among g (frames_of own last os) → g.source ≡ own
sender own last [] g m = absurd m
sender own last (o ∷ os) g (inl e) = ap (λ t. t.source) e
sender own last (o ∷ os) g (inr m) = sender own (last + 1) os g m

-- What every carrier promises that gives frames in order.
pub record Carries {C : Type 0} (waiting : C → List (List ℕ)) (latest : C → Stamps) (takes : C → NodeNumber → Option (List ℕ) → C → Type 0) (puts : C → List ℕ → C → Type 0) : Type 0 where
  pub adds : (c : C) (f : List ℕ) (d : C) → puts c f d → Adds (waiting c) f (waiting d)
  pub gives : (c : C) (n : NodeNumber) (r : Option (List ℕ)) (d : C) → takes c n r d → Gives (waiting c) n r
  pub leaves : (c : C) (n : NodeNumber) (r : Option (List ℕ)) (d : C) → takes c n r d → Leaves (waiting c) (waiting d)
  pub still : (c : C) (f : List ℕ) (d : C) → puts c f d → Still (latest c) (latest d)
  pub moves : (c : C) (n : NodeNumber) (r : Option (List ℕ)) (d : C) → takes c n r d → Moves (latest c) r (latest d)

-- these frames were put
record Put (fs : List Frame) (ws : List (List ℕ)) (ls : Stamps) (ws2 : List (List ℕ)) (ls2 : Stamps) : Type 0 where
  waits : (x : List ℕ) → In x ws2 → In x ws ⊎ ((g : Frame) × Among g fs × (x ≡ frame_octets g))
  still : Still ls ls2

module _ {C : Type 0} (waiting : C → List (List ℕ)) (latest : C → Stamps) (takes : C → NodeNumber → Option (List ℕ) → C → Type 0) (puts : C → List ℕ → C → Type 0) (K : Carries waiting latest takes puts) where
  -- frames put one after another
  put_all : (fs : List Frame) (c d : C) → PutsAll puts c (map frame_octets fs) d → Put fs (waiting c) (latest c) (waiting d) (latest d)
  put_all [] c d p = record { waits = λ x i. inl (subst (λ e. In x (waiting e)) (sym p) i); still = λ a b. ap (λ e. latest e a b) (sym p) }
  put_all (f ∷ fs) c d p =
      let m = p.0 in
      let r = put_all fs m d p.2 in
      record {
        waits = λ x i. ⊎_elim
            (λ j. ⊎_elim (λ k. inl k) (λ k. inr (f, inl refl, k.0)) (K.adds c (frame_octets f) m p.1 x j))
            (λ q. inr (q.0, inr q.1, q.2))
            (r.waits x i);
        still = λ a b. r.still a b ∙ K.still c (frame_octets f) m p.1 a b;
      }

  -- after an end sent
  pub sent : (own : NodeNumber) (last : ℕ) (os : List Outgoing) (c d : C) → Sent puts own last os c d → After own (Sends own last os) (waiting c) (latest c) (waiting d) (latest d)
  sent own last os c d s =
      let fs = frames_of own last os in
      let p = put_all fs c d s.0 in
      record {
        live = λ a b g l. ⊎_elim
            (λ i. inl (record { lawful = l.lawful; waits = i; from = l.from; to = l.to; later = subst (λ n. n < g.stamp) (p.still a b) l.later }))
            (λ q.
            let is = spells_one q.0 g (frame_octets g) (all_among fs q.0 s.1 q.1, sym q.2) (l.lawful, refl) in
            let m : Among g fs = subst (λ h. Among h fs) is q.1 in
            inr (sym l.from ∙ sender own last os g m, (m, l.to)))
            (p.waits (frame_octets g) l.waits);
        still = p.still;
        spelt = λ sp x i. ⊎_elim (λ j. sp x j) (λ q. (q.0, (all_among fs q.0 s.1 q.1, sym q.2))) (p.waits x i);
      }

  -- a take gives no octets that do not read
  pub readable : (c : C) (n : NodeNumber) (x : List ℕ) (d : C) (e : Fault) → Spelt (waiting c) → takes c n (Some x) d → frame_in x ≡ Err e → ⊥
  readable c n x d e sp t r =
      let q = sp x (K.gives c n (Some x) d t).0 in
      fault_ok e q.0 (sym r ∙ frame_there x q.0 q.1)

  -- a take gave this frame
  pub took : (c : C) (n : NodeNumber) (x : List ℕ) (d : C) (f : Frame) → Spelt (waiting c) → takes c n (Some x) d → frame_in x ≡ Ok f → Given n f (waiting c) (latest c) (waiting d) (latest d)
  took c n x d f sp t r =
      let gives = K.gives c n (Some x) d t in
      let q = sp x gives.0 in
      let spells : Spells f x = subst (λ g. Spells g x) (same_ok q.0 f (sym (frame_there x q.0 q.1) ∙ r)) q.1 in
      let at = front f x spells in
      let moves = K.moves c n (Some x) d t in
      let to : f.destination ≡ n = sym at.destination ∙ gives.1 in
      let here : (ls : Stamps) → ls (source_of x) (destination_of x) ≡ ls f.source n = λ ls i. ls (at.source i) (gives.1 i) in
      let before = here (latest c) in
      let after = here (latest d) in
      record {
        live = record { lawful = spells.0; waits = subst (λ y. In y (waiting c)) (sym spells.1) gives.0; from = refl; to = to; later = omega (arith, moves.0, before, at.stamp) };
        rest = K.leaves c n (Some x) d t;
        now = sym after ∙ moves.1 ∙ at.stamp;
        other = λ a b ne. moves.2 a b (λ e u. ne (e ∙ at.source) (u ∙ gives.1));
      }
