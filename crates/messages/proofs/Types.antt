-- The type octet that a message begins with.
use Rattle.std.proofs.Common.{◌≡◌, ℕ, ◌≢◌, eqb, List, [], ◌∷◌, Ok, Err, Some, None, Option, Result, MatchResult, sym, refl, ap, ◌∙◌, ⊎_elim}
use Rattle.std.specs.Prelude.{slice_get}
use Rattle.std.specs.List.{find}
use Rattle.std.proofs.lemmas.Bool.{cond-true, cond-false, eqb-true, ne_eqb, lt-ltb, cases_Bool}
use Rattle.std.proofs.lemmas.Option.{get_or_from_slice_get, slice_get_within, none-some, same_Some}
use Rattle.elements.specs.declared.fault.Fault.{Fault}
use Rattle.elements.specs.declared.fault.FaultKind.TheVariants as fault
use Rattle.elements.specs.Faults.{wrong}
use Rattle.elements.proofs.Chains.{same_ok, fault_ok}
use Rattle.messages.specs.declared.kind.MessageType.{MessageType}
use Rattle.messages.specs.declared.kind.MessageType.TheVariants as kind
use Rattle.messages.specs.declared.kind.UnknownType.{UnknownType}
use Rattle.messages.specs.Kinds.{octet_of, kinds, kind_in, TypeOf}
use Rattle.messages.specs.Reading.{known_or, kind_at}

-- each kind is the one of its octet
pub kind_there : (k : MessageType) → kind_in (octet_of k) ≡ Some k
kind_there kind.Paging = refl
kind_there _ = refl

-- the kind of an octet has that octet
found_back : (n : ℕ) (ks : List MessageType) (k : MessageType) → find (λ j. eqb (octet_of j) n) ks ≡ Some k → octet_of k ≡ n
found_back n [] k e = absurd (none-some k e)
found_back n (j ∷ ks) k e =
    ⊎_elim
    (λ t. ap octet_of (sym (same_Some j k (sym (cond-true _ _ _ t) ∙ e))) ∙ eqb-true (octet_of j) n t)
    (λ f. found_back n ks k (sym (cond-false _ _ _ f) ∙ e))
    (cases_Bool (eqb (octet_of j) n))

known : (o : Option MessageType) (p : ℕ) (k : MessageType) → known_or o p ≡ Ok k → o ≡ Some k
known (Some j) p k e = ap Some (same_ok j k e)
known None p k e = fault_ok _ k e

pub kind_back : (n p : ℕ) (k : MessageType) → known_or (kind_in n) p ≡ Ok k → octet_of k ≡ n
kind_back n p k e = found_back n kinds k (known (kind_in n) p k e)

-- an octet that no kind has is that of none
none_found : (n : ℕ) → ((k : MessageType) → octet_of k ≢ n) → (ks : List MessageType) → find (λ j. eqb (octet_of j) n) ks ≡ None
none_found n none [] = refl
none_found n none (k ∷ ks) = cond-false _ _ _ (ne_eqb (octet_of k) n (none k)) ∙ none_found n none ks

pub untyped : (n : ℕ) → ((k : MessageType) → octet_of k ≢ n) → kind_in n ≡ None
untyped n none = none_found n none kinds

-- what a conversion makes of an octet, or the fault at a place where it makes nothing
pub known_type : (n p : ℕ) (t : Result MessageType UnknownType) (r : Result MessageType Fault) → TypeOf n t → MatchResult t (λ k. r ≡ Ok k) (λ _. r ≡ wrong fault.MessageType p) → r ≡ known_or (kind_in n) p
known_type n p (Ok k) r h e = e ∙ sym (ap (λ m. known_or (kind_in m) p) (sym h) ∙ ap (λ o. known_or o p) (kind_there k))
known_type n p (Err d) r h e = e ∙ sym (ap (λ o. known_or o p) (untyped n h.1))

-- the octet at a place, as its kind or the fault there
pub begun : (s : List ℕ) (at n : ℕ) → slice_get s at ≡ Some n → kind_at s at ≡ known_or (kind_in n) at
begun s at n g = cond-true _ _ _ (lt-ltb at _ (slice_get_within s at n g)) ∙ ap (λ m. known_or (kind_in m) at) (get_or_from_slice_get s at n 0 g)
