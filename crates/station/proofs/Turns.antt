-- A loop in which each element of a list is moved in its turn and sends something.
use Rattle.std.proofs.Common.{◌≡◌, ℕ, ◌+◌, ◌<◌, ◌≤◌, List, [], ◌∷◌, ◌++◌, length, get_or, set, take, drop, sym, refl, ap, ◌∙◌, subst, arith}
use Rattle.std.proofs.lemmas.List.{append_assoc, append-nil, length-append, take_all, drop_all, drop_more, take_more_set, drop-set-lt}
use Rattle.elements.specs.declared.node.NodeNumber.{NodeNumber}
use Rattle.station.specs.declared.sending.Outgoing.{Outgoing}
use Rattle.station.specs.Sends.{Sent}
use Rattle.station.proofs.Chains.{sent_more}

-- the element at i is moved, and those behind it are still to be moved
in_place : {X : Type 0} (f g : List X → List X) (xs : List X) (i : ℕ) (d x : X) → i < length xs → ((rest : List X) → f (get_or xs i d ∷ rest) ≡ x ∷ g rest)
    → take (i + 1) (set xs i x) ++ g (drop (i + 1) (set xs i x)) ≡ take i xs ++ f (drop i xs)
in_place f g xs i d x lt one =
    let rest = drop (i + 1) xs in
    (λ t. take_more_set xs i x lt t ++ g (drop-set-lt (i + 1) xs i x (omega arith) t))
    ∙ append_assoc (take i xs) (x ∷ []) (g rest)
    ∙ ap (λ l. take i xs ++ l) (sym (one rest) ∙ ap f (sym (drop_more xs i d lt)))

-- `moved n xs` is what becomes of xs behind the last stamp n, and `sends xs` what they send
module _ {C X : Type 0} (puts : C → List ℕ → C → Type 0) (own : NodeNumber) (moved : ℕ → List X → List X) (sends : List X → List Outgoing) where
  -- All are to be moved, behind the stamp `last` and from c on. The first i were, which left the stamp `now`, xs and d; what is still to be done completes the whole.
  pub record Turns (last : ℕ) (all : List X) (c : C) (i now : ℕ) (xs : List X) (d : C) : Type 0 where
    pub changed : take i xs ++ moved now (drop i xs) ≡ moved last all
    pub taken : now + length (sends (drop i xs)) ≡ last + length (sends all)
    pub sent : (e : C) → Sent puts own now (sends (drop i xs)) d e → Sent puts own last (sends all) c e

  -- all were moved
  abbrev pub Done : ℕ → List X → C → ℕ → List X → C → Type 0
  Done last all c now xs d = (xs ≡ moved last all) × (now ≡ last + length (sends all)) × Sent puts own last (sends all) c d

module _ {C X : Type 0} {puts : C → List ℕ → C → Type 0} {own : NodeNumber} {moved : ℕ → List X → List X} {sends : List X → List Outgoing} {last : ℕ} {all : List X} {c : C} where
  -- the element at i is moved to x, and ss go out
  pub turns_more : {i now : ℕ} {xs : List X} {d : C} (next : ℕ) (e : C) (z x : X) (ss : List Outgoing) → Turns puts own moved sends last all c i now xs d → i < length xs
      → ((rest : List X) → moved now (get_or xs i z ∷ rest) ≡ x ∷ moved next rest)
      → ((rest : List X) → sends (get_or xs i z ∷ rest) ≡ ss ++ sends rest)
      → next ≡ now + length ss → Sent puts own now ss d e
      → Turns puts own moved sends last all c (i + 1) next (set xs i x) e
  turns_more {i} {now} {xs} {d} next e z x ss t lt one some on out =
      let back : drop (i + 1) (set xs i x) ≡ drop (i + 1) xs = drop-set-lt (i + 1) xs i x (omega arith) in
      let rest = sends (drop (i + 1) (set xs i x)) in
      let left : sends (drop i xs) ≡ ss ++ rest = ap sends (drop_more xs i z lt) ∙ some (drop (i + 1) xs) ∙ ap (λ l. ss ++ sends l) (sym back) in
      record {
        changed = in_place (moved now) (moved next) xs i z x lt one ∙ t.changed;
        taken = omega (arith, ap length left, length-append ss rest, t.taken);
        sent = λ f s. t.sent f (subst (λ l. Sent puts own now l d f) (sym left) (sent_more puts own now ss rest d e f out (subst (λ n. Sent puts own n rest e f) on s)));
      }

  -- the end of the loop
  pub turns_all : {i now : ℕ} {xs : List X} {d : C} → Turns puts own moved sends last all c i now xs d → length xs ≤ i → moved now [] ≡ [] → sends [] ≡ [] → Done puts own moved sends last all c now xs d
  turns_all {i} {now} {xs} {d} t end none nothing =
      let left : drop i xs ≡ [] = drop_all i xs end in
      let sends_left : sends (drop i xs) ≡ [] = ap sends left ∙ nothing in (
        sym ((λ k. take_all i xs end k ++ (ap (moved now) left ∙ none) k) ∙ append-nil xs) ∙ t.changed,
        omega (arith, ap length sends_left, t.taken),
        t.sent d (subst (λ l. Sent puts own now l d d) (sym sends_left) (refl, refl)),
      )
