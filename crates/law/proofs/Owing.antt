-- What moves of the SGSN do to what is owed.
use Rattle.std.proofs.Common.{◌≡◌, ℕ, ◌+◌, ◌≤◌, Bool, true, false, cond, ltb, List, [], ◌∷◌, map, length, Some, None, Option, refl, sym, ap, ◌∙◌, subst, arith}
use Rattle.std.specs.List.{count_by}
use Rattle.std.specs.Option.{option_map}
use Rattle.std.proofs.lemmas.Bool.Decides.{nat_tests}
use Rattle.std.proofs.lemmas.List.Sums.{sum_by-cons}
use Rattle.imsi.specs.declared.Imsi.{Imsi}
use Rattle.elements.specs.declared.code.Class.{Class}
use Rattle.elements.specs.declared.node.VlrNumber.{VlrNumber}
use Rattle.messages.specs.declared.message.Message.{Message}
use Rattle.directory.specs.Lookup.{at, stored}
use Rattle.directory.specs.Order.{rank_of, same}
use Rattle.directory.proofs.Lookups.{at-stored, at-map, same_true}
use Rattle.station.specs.Rows.{repeat_now}
use Rattle.context.specs.declared.context.Context.{Context}
use Rattle.context.specs.declared.errand.Errand.{Errand}
use Rattle.context.specs.declared.errand.Errand.TheVariants as errand
use Rattle.context.specs.declared.errand.Open.{Open}
use Rattle.context.specs.declared.kind.Request.{Request}
use Rattle.context.specs.declared.kind.RequestKind.{RequestKind}
use Rattle.context.specs.declared.kind.DetachKind.{DetachKind}
use Rattle.context.specs.Answering.{answered}
use Rattle.context.specs.Contexts.{whose, doubtful_at}
use Rattle.context.specs.Detaching as detach
use Rattle.context.specs.Errands.{owes}
use Rattle.context.specs.Paging as page
use Rattle.context.specs.Requesting as request
use Rattle.context.specs.Ticking.{ticks_left, ticked_errand, context_ticked, context_sends}
use Rattle.sgsn.specs.declared.peer.Peer.{Peer}
use Rattle.sgsn.specs.Peers.{doubted_by, doubted_by_all}
use Rattle.sgsn.specs.Recovering.{records_ticked, ticked}
use Rattle.sgsn.specs.State as sgsn
use Rattle.sgsn.proofs.Keeps.{doubtful_whose}
use Rattle.sgsn.proofs.Moves.{settled}
use Rattle.sgsn.proofs.Ticks.{whose_ticked}
use Rattle.law.specs.Laws.{owing}
use Rattle.law.specs.Tables.{errand_in, errand_of}

-- after so many ticks it is still open, and ends before the 32nd
abbrev pub InTime : ℕ → Open → Type 0
InTime t o = (t + ticks_left o ≤ 32) × (1 ≤ o.ticks)

-- What a record owes stays, and what is open then was so before.
abbrev pub Stays : Errand → Errand → Type 0
Stays a b = (owes b ≡ owes a) × ((o : Open) → b ≡ errand.Open o → a ≡ errand.Open o)

answered_owes : (v : VlrNumber) (n : ℕ) (reset : Option ℕ) (k : Message) (r : Context) → owes (answered v n reset k r).errand ≡ owes r.errand
answered_owes v n reset k r = grind (arith, nat_tests)

answered_open : (v : VlrNumber) (n : ℕ) (reset : Option ℕ) (k : Message) (r : Context) (o : Open) → (answered v n reset k r).errand ≡ errand.Open o → r.errand ≡ errand.Open o
answered_open v n reset k r o e = grind (arith, nat_tests)

pub answered_stays : (v : VlrNumber) (n : ℕ) (reset : Option ℕ) (k : Message) (r : Context) → Stays r.errand (answered v n reset k r).errand
answered_stays v n reset k r = (answered_owes v n reset k r, answered_open v n reset k r)

-- neither a page nor a doubt changes what is owed
pub paged_errand : (v : VlrNumber) (n : ℕ) (r : Context) → (page.paged v n r).0.errand ≡ r.errand
paged_errand v n r = grind (arith, nat_tests)

pub doubtful_errand : (v : VlrNumber) (r : Context) → (doubtful_at v r).errand ≡ r.errand
doubtful_errand v r = grind (arith, nat_tests)

-- a request and a detach owe a reply, and are in time
pub requested_owes : (k : RequestKind) (c : Class) (q : Request) (n : ℕ) (r : Context) → owes (request.requested k c q n r).0.errand ≡ true
requested_owes k c q n r = grind (arith, nat_tests)

pub requested_left : (k : RequestKind) (c : Class) (q : Request) (n : ℕ) (r : Context) (o : Open) → (request.requested k c q n r).0.errand ≡ errand.Open o → InTime 0 o
requested_left k c q n r o e = grind (arith, nat_tests)

pub detached_owes : (k : DetachKind) (n : ℕ) (r : Context) → owes (detach.detached k n r).0.errand ≡ true
detached_owes k n r = grind (arith, nat_tests)

pub detached_left : (k : DetachKind) (n : ℕ) (r : Context) (o : Open) → (detach.detached k n r).0.errand ≡ errand.Open o → InTime 0 o
detached_left k n r o e = grind (arith, nat_tests)

-- nothing is owed once it is settled
pub settled_owes : (r : Context) → owes (settled r).errand ≡ false
settled_owes r = grind (arith, nat_tests)

-- a tick leaves what is owed, and what is in time
ticked_owes : (n : ℕ) (r : Context) → owes (context_ticked n r).errand ≡ owes r.errand
ticked_owes n r = grind (arith, nat_tests)

ticked_from : (n t : ℕ) (r : Context) (e : Errand) → r.errand ≡ e → ((o : Open) → e ≡ errand.Open o → InTime t o) → (o : Open) → (ticked_errand e n r).errand ≡ errand.Open o → InTime (1 + t) o
ticked_from n t r errand.Idle is left o e = absurd (cc)
ticked_from n t r (errand.Open p) is left o e = let l = left p refl in grind (arith, nat_tests)
ticked_from n t r (errand.Ended v) is left o e = absurd (cc)

-- Counts of records.
abbrev pub one : Bool → ℕ
one b = cond b 1 0

abbrev counted : {R : Type 0} → (R → Bool) → Option R → ℕ
counted p None = 0
counted p (Some x) = one (p x)

count-cons : {R : Type 0} (p : R → Bool) (x : R) (xs : List R) → count_by p (x ∷ xs) ≡ one (p x) + count_by p xs
count-cons p x xs = sum_by-cons (λ y. one (p y)) x xs

-- a store puts one record in the place of another, or of none
count-stored : {R : Type 0} (w : R → Imsi) (p : R → Bool) (r : R) (xs : List R) → count_by p (stored w r xs) + counted p (at w xs (w r)) ≡ count_by p xs + one (p r)
count-stored w p r [] = omega arith
count-stored w p r (x ∷ xs) = by_place (same (w r) (w x)) (ltb (rank_of (w r)) (rank_of (w x))) (count-stored w p r xs)
  where
    by_place : (a b : Bool) → count_by p (stored w r xs) + counted p (at w xs (w r)) ≡ count_by p xs + one (p r) → count_by p (cond a (r ∷ xs) (cond b (r ∷ x ∷ xs) (x ∷ stored w r xs))) + counted p (cond a (Some x) (cond b None (at w xs (w r)))) ≡ count_by p (x ∷ xs) + one (p r)
    by_place true b rest = omega (arith, count-cons p r xs, count-cons p x xs)
    by_place false true rest = omega (arith, count-cons p r (x ∷ xs))
    by_place false false rest = omega (arith, count-cons p x (stored w r xs), count-cons p x xs)

count-map : {R : Type 0} (p : R → Bool) (f : R → R) → ((x : R) → p (f x) ≡ p x) → (xs : List R) → count_by p (map f xs) ≡ count_by p xs
count-map p f keeps [] = refl
count-map p f keeps (x ∷ xs) = omega (arith, count-cons p (f x) (map f xs), count-cons p x xs, ap one (keeps x), count-map p f keeps xs)

abbrev owing_record : Context → Bool
owing_record r = owes r.errand

count-ticked : (last : ℕ) (rs : List Context) → count_by owing_record (records_ticked last rs) ≡ count_by owing_record rs
count-ticked last [] = refl
count-ticked last (r ∷ rs) =
    let next = last + length (context_sends r) in
    omega (arith, count-cons owing_record (context_ticked last r) (records_ticked next rs), count-cons owing_record r rs, ap one (ticked_owes last r), count-ticked next rs)

-- each record ticks, with some last stamp
ticked-at : (last : ℕ) (rs : List Context) (m : Imsi) → (n : ℕ) × (at whose (records_ticked last rs) m ≡ option_map (context_ticked n) (at whose rs m))
ticked-at last [] m = (0, refl)
ticked-at last (r ∷ rs) m =
    let next = last + length (context_sends r) in
    let x = context_ticked last r in
    subst (λ i. (n : ℕ) × (cond (same m i) (Some x) (cond (ltb (rank_of m) (rank_of i)) None (at whose (records_ticked next rs) m)) ≡ option_map (context_ticked n) (cond (same m (whose r)) (Some r) (cond (ltb (rank_of m) (rank_of (whose r))) None (at whose rs m)))))
    (sym (whose_ticked last r)) (by_place (same m (whose r)) (ltb (rank_of m) (rank_of (whose r))) (ticked-at next rs m))
  where
    by_place : (a b : Bool) → (n : ℕ) × (at whose (records_ticked (last + length (context_sends r)) rs) m ≡ option_map (context_ticked n) (at whose rs m)) → (n : ℕ) × (cond a (Some (context_ticked last r)) (cond b None (at whose (records_ticked (last + length (context_sends r)) rs) m)) ≡ option_map (context_ticked n) (cond a (Some r) (cond b None (at whose rs m))))
    by_place true b rest = (last, refl)
    by_place false true rest = (last, refl)
    by_place false false rest = rest

errand_map : (f : Context → Context) → ((r : Context) → (f r).errand ≡ r.errand) → (o : Option Context) → errand_in (option_map f o) ≡ errand_in o
errand_map f keeps None = refl
errand_map f keeps (Some r) = keeps r

errand_cond : (b : Bool) (r : Context) (o : Option Context) → errand_in (cond b (Some r) o) ≡ cond b r.errand (errand_in o)
errand_cond true r o = refl
errand_cond false r o = refl

-- what a store of a mobile's record makes of what is owed
pub errand_after : (s t : sgsn.State) (i : Imsi) (r : Context) → whose r ≡ i → t.records ≡ stored whose r s.records → (m : Imsi) → errand_of t m ≡ cond (same m i) r.errand (errand_of s m)
errand_after s t i r its e m =
    ap (λ rs. errand_in (at whose rs m)) e
    ∙ ap errand_in (at-stored whose r s.records m)
    ∙ (λ x. errand_in (cond (same m (its x)) (Some r) (at whose s.records m)))
    ∙ errand_cond (same m i) r (at whose s.records m)

counted_owes : (o : Option Context) → counted owing_record o ≡ one (owes (errand_in o))
counted_owes None = refl
counted_owes (Some r) = refl

pub owing_after : (s t : sgsn.State) (i : Imsi) (r : Context) → whose r ≡ i → t.records ≡ stored whose r s.records → owing t + one (owes (errand_of s i)) ≡ owing s + one (owes r.errand)
owing_after s t i r its e =
    omega (arith, ap (λ rs. count_by owing_record rs) e, count-stored whose owing_record r s.records, counted_owes (at whose s.records (whose r)), ap (λ n. one (owes (errand_of s n))) its)

pub stays_same : (a b : Errand) → b ≡ a → Stays a b
stays_same a b e = (ap owes e, λ o q. sym e ∙ q)

-- The SGSN goes from s to t, and owes as before.
pub record Kept (s t : sgsn.State) : Type 0 where
  pub own : t.own ≡ s.own
  pub stays : (m : Imsi) → Stays (errand_of s m) (errand_of t m)
  pub count : owing t ≡ owing s

pub kept_same : (s t : sgsn.State) → t.own ≡ s.own → t.records ≡ s.records → Kept s t
kept_same s t own e = record {
  own = own;
  stays = λ m. stays_same _ _ (ap (λ rs. errand_in (at whose rs m)) e);
  count = ap (λ rs. count_by owing_record rs) e;
}

pub kept_map : (s t : sgsn.State) (f : Context → Context) → ((r : Context) → whose (f r) ≡ whose r) → ((r : Context) → (f r).errand ≡ r.errand) → t.own ≡ s.own → t.records ≡ map f s.records → Kept s t
kept_map s t f its keeps own e = record {
  own = own;
  stays = λ m. stays_same _ _ (ap (λ rs. errand_in (at whose rs m)) e ∙ ap errand_in (at-map whose f its s.records m) ∙ errand_map f keeps (at whose s.records m));
  count = ap (λ rs. count_by owing_record rs) e ∙ count-map owing_record f (λ r. ap owes (keeps r)) s.records;
}

pub kept_stored : (s t : sgsn.State) (i : Imsi) (r : Context) → whose r ≡ i → Stays (errand_of s i) r.errand → t.own ≡ s.own → t.records ≡ stored whose r s.records → Kept s t
kept_stored s t i r its stays own e = record {
  own = own;
  stays = λ m. subst (λ x. Stays (errand_of s m) x) (sym (errand_after s t i r its e m)) (by_mobile m (same m i) refl);
  count = omega (arith, owing_after s t i r its e, ap one stays.0);
}
  where
    by_mobile : (m : Imsi) (b : Bool) → same m i ≡ b → Stays (errand_of s m) (cond b r.errand (errand_of s m))
    by_mobile m true q = subst (λ n. Stays (errand_of s n) r.errand) (sym (same_true m i q)) stays
    by_mobile m false q = stays_same _ _ refl

-- a tick of the SGSN
doubted-at : (ps : List Peer) (rs : List Context) (m : Imsi) → errand_in (at whose (doubted_by_all ps rs) m) ≡ errand_in (at whose rs m)
doubted-at [] rs m = refl
doubted-at (p ∷ ps) rs m = doubted-at ps (doubted_by p rs) m ∙ by_reset (repeat_now p.row)
  where
    by_reset : (b : Bool) → errand_in (at whose (cond b (map (doubtful_at p.vlr) rs) rs) m) ≡ errand_in (at whose rs m)
    by_reset true = ap errand_in (at-map whose (doubtful_at p.vlr) (doubtful_whose p.vlr) rs m) ∙ errand_map (doubtful_at p.vlr) (doubtful_errand p.vlr) (at whose rs m)
    by_reset false = refl

count-doubted : (ps : List Peer) (rs : List Context) → count_by owing_record (doubted_by_all ps rs) ≡ count_by owing_record rs
count-doubted [] rs = refl
count-doubted (p ∷ ps) rs = count-doubted ps (doubted_by p rs) ∙ by_reset (repeat_now p.row)
  where
    by_reset : (b : Bool) → count_by owing_record (cond b (map (doubtful_at p.vlr) rs) rs) ≡ count_by owing_record rs
    by_reset true = count-map owing_record (doubtful_at p.vlr) (λ r. ap owes (doubtful_errand p.vlr r)) rs
    by_reset false = refl

-- what is owed stays so, and what is in time then is so after the tick
abbrev pub Ticks : ℕ → Errand → Errand → Type 0
Ticks t a b = (owes b ≡ owes a) × (((o : Open) → a ≡ errand.Open o → InTime t o) → (o : Open) → b ≡ errand.Open o → InTime (1 + t) o)

ticks_one : (n t : ℕ) (o : Option Context) → Ticks t (errand_in o) (errand_in (option_map (context_ticked n) o))
ticks_one n t None = (refl, λ left o e. absurd (cc))
ticks_one n t (Some r) = (ticked_owes n r, λ left o e. ticked_from n t r r.errand refl left o e)

pub ticked_owed : (s : sgsn.State) → owing (ticked s) ≡ owing s
ticked_owed s = count-doubted s.peers (records_ticked s.last s.records) ∙ count-ticked s.last s.records

pub ticked_time : (s : sgsn.State) (m : Imsi) (t : ℕ) → Ticks t (errand_of s m) (errand_of (ticked s) m)
ticked_time s m t =
    let x = ticked-at s.last s.records m in
    subst (λ e. Ticks t (errand_of s m) e) (sym (doubted-at s.peers (records_ticked s.last s.records) m ∙ ap errand_in x.1)) (ticks_one x.0 t (at whose s.records m))
