-- One turn of a loop over what ticks.
use Rattle.std.proofs.Common.{◌≡◌, ℕ, ◌+◌, ◌<◌, ◌≤◌, Bool, true, List, ◌∷◌, ◌++◌, length, get_or, set, drop, sym, ap, ◌∙◌, subst, arith}
use Rattle.std.proofs.lemmas.List.{drop_more, drop-set-lt}
use Rattle.std.proofs.lemmas.Bool.{and_parts}
use Rattle.std.specs.List.{list_all}
use Rattle.elements.specs.declared.node.NodeNumber.{NodeNumber}
use Rattle.station.specs.declared.sending.Sender.{Sender}
use Rattle.station.specs.Sends.{HasStamps, Sent}
use Rattle.station.specs.Times.{Clock, each_ticked, each_sends, each_doubts}
use Rattle.station.proofs.Turns.{Turns, turns_more}

-- the element at i passes a test, and those behind it, whatever is written at i
pub all_more : {X : Type 0} (p : X → Bool) (xs : List X) (i : ℕ) (z x : X) → i < length xs → list_all p (drop i xs) ≡ true
    → (p (get_or xs i z) ≡ true) × (list_all p (drop (i + 1) (set xs i x)) ≡ true)
all_more p xs i z x lt all =
    let parts = and_parts (p (get_or xs i z)) (list_all p (drop (i + 1) xs)) (ap (list_all p) (sym (drop_more xs i z lt)) ∙ all) in
    (parts.0, ap (list_all p) (drop-set-lt (i + 1) xs i x (omega arith)) ∙ parts.1)

-- it can have its tick, for which it takes so many stamps at most
abbrev pub Ready : {X : Type 0} → Clock X → ℕ → Sender → X → Type 0
Ready k most s x = HasStamps most s × (k.may s.own x ≡ true)

-- What is still to do while the first i of these had their ticks, which left xs and d: `room n` stamps are left for n of them
-- and what comes behind.
pub record Going {X C : Type 0} (k : Clock X) (room : ℕ → ℕ) (puts : C → List ℕ → C → Type 0) (own : NodeNumber) (last : ℕ)
    (all : List X) (c : C) (i : ℕ) (s : Sender) (xs : List X) (d : C) : Type 0 where
  pub stamps : HasStamps (room (length (drop i xs))) s
  pub may : list_all (k.may own) (drop i xs) ≡ true
  pub turns : Turns puts own (each_ticked (k.ticked own) (k.sends own)) (each_sends (k.sends own)) last all c i s.last xs d

-- Each of these takes `most` stamps at most.
module _ {X C : Type 0} (k : Clock X) (most : ℕ) (few : (n : NodeNumber) (x : X) → length (k.sends n x) ≤ most)
    (room : ℕ → ℕ) (wide : (n : ℕ) → most + room n ≤ room (n + 1)) where
  pub one_turn : {puts : C → List ℕ → C → Type 0} {own : NodeNumber} {last : ℕ} {all : List X} {c : C} {i : ℕ} {s : Sender} {xs : List X} {d : C}
      (t : Sender) (e : C) (z y x : X) → Going k room puts own last all c i s xs d → s.own ≡ own → i < length xs → y ≡ get_or xs i z
      → (Ready k most s y → x ≡ k.ticked s.own s.last y)
      → (Ready k most s y → t.last ≡ s.last + length (k.sends s.own y))
      → (Ready k most s y → Sent puts s.own s.last (k.sends s.own y) d e)
      → Going k room puts own last all c (i + 1) t (set xs i x) e
  one_turn {puts} {own} {last} {all} {c} {i} {s} {xs} {d} t e z y x g same lt here is on out =
      let front : get_or xs i z ≡ y = sym here in
      let left : drop i xs ≡ y ∷ drop (i + 1) xs = drop_more xs i z lt ∙ ap (λ w. w ∷ drop (i + 1) xs) front in
      let back : drop (i + 1) (set xs i x) ≡ drop (i + 1) xs = drop-set-lt (i + 1) xs i x (omega arith) in
      let rest = length (drop (i + 1) xs) in
      let size : length (drop i xs) ≡ rest + 1 = omega (arith, ap length left) in
      let tests = all_more (k.may own) xs i z x lt g.may in
      let enough : HasStamps (room (rest + 1)) s = subst (λ n. HasStamps (room n) s) size g.stamps in
      let can : Ready k most s y = (omega (arith, enough, wide rest), (λ j. k.may (same j) (here j)) ∙ tests.0) in
      let moved : x ≡ k.ticked own s.last y = is can ∙ ap (λ n. k.ticked n s.last y) same in
      let next : t.last ≡ s.last + length (k.sends own y) = on can ∙ ap (λ n. s.last + length (k.sends n y)) same in
      let it = subst (λ n. Sent puts n s.last (k.sends n y) d e) same (out can) in
      let after : HasStamps (room rest) t = omega (arith, enough, wide rest, next, few own y) in
      record {
        stamps = subst (λ l. HasStamps (room (length l)) t) (sym back) after;
        may = tests.1;
        turns = turns_more t.last e z x (k.sends own y) g.turns lt
            (λ ys. ap (λ w. k.ticked own s.last w ∷ each_ticked (k.ticked own) (k.sends own) (s.last + length (k.sends own w)) ys) front
            ∙ (λ j. sym moved j ∷ each_ticked (k.ticked own) (k.sends own) (sym next j) ys))
            (λ ys. ap (λ w. k.sends own w ++ each_sends (k.sends own) ys) front) next it;
      }

-- what the peer at i makes of the records, those behind it are still to do
pub doubt_turn : {P R : Type 0} (doubts : P → List R → List R) (ps : List P) (i : ℕ) (z x : P) (rs after : List R) → i < length ps → after ≡ doubts (get_or ps i z) rs
    → each_doubts doubts (drop (i + 1) (set ps i x)) after ≡ each_doubts doubts (drop i ps) rs
doubt_turn doubts ps i z x rs after lt is =
    (λ k. each_doubts doubts (drop-set-lt (i + 1) ps i x (omega arith) k) (is k)) ∙ ap (λ l. each_doubts doubts l rs) (sym (drop_more ps i z lt))
