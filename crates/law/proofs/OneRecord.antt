-- Moves of an SGSN that leave what it keeps of its VLRs, and those that store one record.
use Rattle.std.proofs.Common.{◌≡◌, ℕ, ◌+◌, ◌<◌, ◌≤◌, ◌⊎◌, inl, inr, true, false, not, List, [], ◌∷◌, length, Some, None, Option, refl, sym, ap, ◌∙◌, subst, ⊎_elim, arith}
use Rattle.std.proofs.lemmas.Bool.{true≢false, not-true, cases_Bool, cond-true, cond-false}
use Rattle.std.proofs.lemmas.Option.{none-some}
use Rattle.std.specs.List.{list_all}
use Rattle.imsi.specs.declared.Imsi.{Imsi}
use Rattle.frames.specs.declared.frame.Frame.{Frame}
use Rattle.carrier.specs.Order.{Stamps}
use Rattle.directory.specs.Order.{same}
use Rattle.directory.specs.Lookup.{at, stored}
use Rattle.directory.proofs.Lookups.{at-stored, at-whose, same_true}
use Rattle.station.specs.declared.mark.Mark.TheVariants as mark
use Rattle.station.specs.declared.sending.Outgoing.{Outgoing}
use Rattle.station.specs.Sends.{frame_of, frames_of}
use Rattle.context.specs.declared.context.Context.{Context}
use Rattle.context.specs.Answering.{is_above}
use Rattle.context.specs.Contexts.{whose}
use Rattle.sgsn.specs.Delivering.{found}
use Rattle.sgsn.specs.State as sgsn
use Rattle.vlr.specs.State as vlr
use Rattle.law.specs.Tables.{mark_in, errand_in}
use Rattle.law.specs.Sound.{harms, is_acknowledgement, Sure, asked_in, asked, peer_of, reset_in, reset_to, due_in, due_to}
use Rattle.law.proofs.Premises.{Among, Granted, Sends, SgsnMove}
use Rattle.law.proofs.Quieter.{Quieter, FoundQuieter}
use Rattle.law.proofs.Sendings.{among_stamps, among_all}

-- the record stored is its mobile's, and any other mobile's is the one before
abbrev AfterStore : Context → List Context → List Context → Imsi → Type 0
AfterStore r xs ys m = ((m ≡ whose r) × (at whose ys m ≡ Some r)) ⊎ ((same m (whose r) ≡ false) × (at whose ys m ≡ at whose xs m))

after_store : (r : Context) (xs : List Context) (m : Imsi) → AfterStore r xs (stored whose r xs) m
after_store r xs m = ⊎_elim
    (λ t. inl (same_true m (whose r) t, at-stored whose r xs m ∙ cond-true (same m (whose r)) (Some r) (at whose xs m) t))
    (λ f. inr (f, at-stored whose r xs m ∙ cond-false (same m (whose r)) (Some r) (at whose xs m) f))
    (cases_Bool (same m (whose r)))

-- The SGSN goes from s to t, and sends New to v.
module _ (s t : sgsn.State) (v : vlr.State) (ws : List (List ℕ)) (ls : Stamps) (New : Frame → Type 0) where
  -- what it must show of its records, if it keeps the same of the RESETs from and to v
  pub record RecordsMove : Type 0 where
    pub own : t.own ≡ s.own
    pub reset : reset_to t v.own ≡ reset_to s v.own
    pub due : due_to t v.own ≡ due_to s v.own
    pub last : s.last ≤ t.last
    pub stamps : (g : Frame) → New g → (s.last < g.stamp) × (g.stamp ≤ t.last)
    pub sure : (m : Imsi) → Sure t v.own m → Sure s v.own m ⊎ Granted s t v ws ls New m
    pub harmless : (m : Imsi) → Sure t v.own m → (g : Frame) → New g → harms m g.message ≡ false
    pub asking : (m : Imsi) (r : ℕ) → asked t v.own m ≡ Some r → (asked s v.own m ≡ Some r) ⊎ ((r ≡ s.last + 1) × (r ≤ t.last))
    pub behind : (m : Imsi) (r : ℕ) → asked t v.own m ≡ Some r → (g : Frame) → New g → r < g.stamp → harms m g.message ≡ false
    pub other : (g : Frame) → New g → is_acknowledgement g.message ≡ false

  -- what it must show if it stores this record, too
  pub record StoreMove (r : Context) : Type 0 where
    pub own : t.own ≡ s.own
    pub peers : t.peers ≡ s.peers
    pub records : t.records ≡ stored whose r s.records
    pub last : s.last ≤ t.last
    pub sure : r.mark ≡ mark.Confirmed (record { node = v.own }) → Sure s v.own (whose r) ⊎ Granted s t v ws ls New (whose r)
    pub asking : (n : ℕ) → asked_in v.own r.errand ≡ Some n → (asked s v.own (whose r) ≡ Some n) ⊎ ((n ≡ s.last + 1) × (n ≤ t.last))
    -- what is sent has the next stamp and is about that mobile, of which no VLR is sure and which asks nothing else
    pub next : (g : Frame) → New g → (g.stamp ≡ s.last + 1) × (g.stamp ≤ t.last)
    pub other : (g : Frame) → New g → is_acknowledgement g.message ≡ false
    pub about : (g : Frame) → New g → (m : Imsi) → same m (whose r) ≡ false → harms m g.message ≡ false
    pub unsure : (g : Frame) → New g → r.mark ≡ mark.Confirmed (record { node = v.own }) → ⊥
    pub open_now : (g : Frame) → New g → (n : ℕ) → asked_in v.own r.errand ≡ Some n → s.last < n

  pub rows_stay : ((x : ℕ) → reset_to s v.own ≡ Some x → x ≤ s.last) → RecordsMove → SgsnMove s t v ws ls New
  rows_stay B M =
      record {
        own = M.own;
        last = M.last;
        stamps = M.stamps;
        sure = M.sure;
        harmless = M.harmless;
        asking = M.asking;
        behind = λ m r a b. M.behind m r a;
        reset = λ r l a. subst (λ o. is_above o r ≡ true) M.reset a;
        reset_before = λ x e. omega (arith, B x (sym M.reset ∙ e), M.last);
        due = λ x e. inl (sym M.due ∙ e);
        acknowledged = λ g n a. absurd (true≢false (sym a ∙ M.other g n));
      }

  pub stored_moves : (r : Context) → ((x : ℕ) → reset_to s v.own ≡ Some x → x ≤ s.last) → StoreMove r → SgsnMove s t v ws ls New
  stored_moves r B M =
      let look : (m : Imsi) → AfterStore r s.records t.records m = λ m. subst (λ xs. AfterStore r s.records xs m) (sym M.records) (after_store r s.records m) in
      rows_stay B (record {
        own = M.own;
        reset = ap (λ ps. reset_in (peer_of v.own ps)) M.peers;
        due = ap (λ ps. due_in (peer_of v.own ps)) M.peers;
        last = M.last;
        stamps = λ g n. let p = M.next g n in (omega (arith, p.0), p.1);
        sure = λ m h. ⊎_elim
            (λ c. subst (λ i. Sure s v.own i ⊎ Granted s t v ws ls New i) (sym c.0) (M.sure (sym (ap mark_in c.1) ∙ h)))
            (λ c. inl (sym (ap mark_in c.1) ∙ h))
            (look m);
        harmless = λ m h g n. ⊎_elim
            (λ c. absurd (M.unsure g n (sym (ap mark_in c.1) ∙ h)))
            (λ c. M.about g n m c.0)
            (look m);
        asking = λ m k a. ⊎_elim
            (λ c. subst (λ i. (asked s v.own i ≡ Some k) ⊎ ((k ≡ s.last + 1) × (k ≤ t.last))) (sym c.0) (M.asking k (sym (ap (λ o. asked_in v.own (errand_in o)) c.1) ∙ a)))
            (λ c. inl (sym (ap (λ o. asked_in v.own (errand_in o)) c.1) ∙ a))
            (look m);
        behind = λ m k a g n l. ⊎_elim
            (λ c. absurd (omega (arith, M.open_now g n k (sym (ap (λ o. asked_in v.own (errand_in o)) c.1) ∙ a), l, (M.next g n).0)))
            (λ c. M.about g n m c.0)
            (look m);
        other = M.other;
      })

-- a record that was found is found by its own mobile
pub own_record : (s : sgsn.State) (i : Imsi) (r : Context) → sgsn.record_at s i ≡ Some r → sgsn.record_at s (whose r) ≡ Some r
own_record s i r e = subst (λ j. sgsn.record_at s j ≡ Some r) (sym (at-whose whose s.records i r e)) e

-- The record of a message's mobile is found by that mobile.
pub noted_at : (s : sgsn.State) (o : Option Imsi) (r : Context) → found s o ≡ Some r → (i : Imsi) × (sgsn.record_at s i ≡ Some r)
noted_at s None r e = absurd (none-some r e)
noted_at s (Some i) r e = (i, e)

-- these frames take no mark away, and acknowledge nothing
pub record Spares (os : List Outgoing) : Type 0 where
  pub harmless : (m : Imsi) → list_all (λ o. not (harms m o.message)) os ≡ true
  pub other : list_all (λ o. not (is_acknowledgement o.message)) os ≡ true

pub none_sent : Spares []
none_sent = record { harmless = λ m. refl; other = refl }

module _ (s : sgsn.State) (v : vlr.State) (ws : List (List ℕ)) (ls : Stamps) (B : (x : ℕ) → reset_to s v.own ≡ Some x → x ≤ s.last) where
  -- the SGSN s moves so, and sends these
  abbrev pub Moves : sgsn.State → List Outgoing → Type 0
  Moves t os = SgsnMove s t v ws ls (Sends s.own s.last os v.own)

  -- no VLR becomes surer, nothing more is asked, and what is sent spares every mobile
  quieter_moves : (n : ℕ) (rs : List Context) (os : List Outgoing) → n ≡ s.last + length os → ((m : Imsi) → FoundQuieter (sgsn.record_at s m) (at whose rs m)) → Spares os → Moves (record s { last = n; records = rs }) os
  quieter_moves n rs os now seen spare = rows_stay s (record s { last = n; records = rs }) v ws ls (Sends s.own s.last os v.own) B (record {
    own = refl;
    reset = refl;
    due = refl;
    last = omega (arith, now);
    stamps = λ g x. let h = among_stamps s.own s.last os g x.0 in (h.0, omega (arith, h.1, now));
    sure = λ m h. inl ((seen m).sure _ h);
    harmless = λ m h g x. spared m g x.0;
    asking = λ m r a. inl ((seen m).asking v.own r a);
    behind = λ m r a g x l. spared m g x.0;
    other = λ g x. not-true _ (among_all (λ k. not (is_acknowledgement k)) s.own s.last os g spare.other x.0);
  })
    where
      spared : (m : Imsi) (g : Frame) → Among g (frames_of s.own s.last os) → harms m g.message ≡ false
      spared m g x = not-true _ (among_all (λ k. not (harms m k)) s.own s.last os g (spare.harmless m) x)

  -- nothing changes, and nothing is sent
  pub still : Moves s []
  still = quieter_moves s.last s.records [] (omega arith) (λ m. record { sure = λ n h. h; asking = λ a n h. h }) none_sent

  -- a record is stored by which no VLR is surer, and nothing more is asked
  pub stored_quieter : (n : ℕ) (r : Context) (os : List Outgoing) → n ≡ s.last + length os → FoundQuieter (sgsn.record_at s (whose r)) (Some r) → Spares os → Moves (record s { last = n; records = stored whose r s.records }) os
  stored_quieter n r os now q spare = quieter_moves n (stored whose r s.records) os now
      (λ m. ⊎_elim
      (λ c. subst (λ i. FoundQuieter (sgsn.record_at s i) (at whose (stored whose r s.records) i)) (sym c.0) (subst (FoundQuieter (sgsn.record_at s (whose r))) (sym (sym (ap (at whose (stored whose r s.records)) c.0) ∙ c.1)) q))
      (λ c. subst (FoundQuieter (sgsn.record_at s m)) (sym c.1) (record { sure = λ n h. h; asking = λ a n h. h }))
      (after_store r s.records m))
      spare

  -- a record that was found is stored quieter
  pub quiet : (n : ℕ) (i : Imsi) (r r2 : Context) (os : List Outgoing) → n ≡ s.last + length os → sgsn.record_at s i ≡ Some r → Quieter r r2 → Spares os → Moves (record s { last = n; records = stored whose r2 s.records }) os
  quiet n i r r2 os now e q spare =
      let its : sgsn.record_at s (whose r2) ≡ Some r = ap (sgsn.record_at s) q.mobile ∙ own_record s i r e in
      stored_quieter n r2 os now (subst (λ o. FoundQuieter o (Some r2)) (sym its) (record { sure = q.sure; asking = q.asking })) spare

  -- a record is stored that asks nothing, and nothing is sent
  pub silent : (r : Context) → (r.mark ≡ mark.Confirmed (record { node = v.own }) → Sure s v.own (whose r) ⊎ Granted s (sgsn.with_context s r) v ws ls (Sends s.own s.last [] v.own) (whose r))
      → ((n : ℕ) → asked_in v.own r.errand ≡ Some n → ⊥) → Moves (sgsn.with_context s r) []
  silent r sure asking = stored_moves s (sgsn.with_context s r) v ws ls (Sends s.own s.last [] v.own) r B (record {
    own = refl;
    peers = refl;
    records = refl;
    last = omega arith;
    sure = sure;
    asking = λ n a. absurd (asking n a);
    next = λ g n. absurd n.0;
    other = λ g n. absurd n.0;
    about = λ g n. absurd n.0;
    unsure = λ g n. absurd n.0;
    open_now = λ g n. absurd n.0;
  })

  -- a record is stored of which no VLR is sure, and a frame about its mobile is sent
  pub told : (r : Context) (x : Outgoing)
      → is_acknowledgement x.message ≡ false
      → ((m : Imsi) → same m (whose r) ≡ false → harms m x.message ≡ false)
      → (r.mark ≡ mark.Confirmed (record { node = v.own }) → ⊥)
      → ((n : ℕ) → asked_in v.own r.errand ≡ Some n → n ≡ s.last + 1)
      → Moves (sgsn.with_sent s r (x ∷ [])) (x ∷ [])
  told r x other about unsure asking = stored_moves s (sgsn.with_sent s r (x ∷ [])) v ws ls (Sends s.own s.last (x ∷ []) v.own) r B (record {
    own = refl;
    peers = refl;
    records = refl;
    last = omega arith;
    sure = λ e. absurd (unsure e);
    asking = λ n a. inr (asking n a, omega (arith, asking n a));
    next = λ g n. let e = only g n in (ap (λ f. f.stamp) e, omega (arith, ap (λ f. f.stamp) e));
    other = λ g n. ap (λ f. is_acknowledgement f.message) (only g n) ∙ other;
    about = λ g n m d. ap (λ f. harms m f.message) (only g n) ∙ about m d;
    unsure = λ g n. unsure;
    open_now = λ g n k a. omega (arith, asking k a);
  })
    where
      only : (g : Frame) → Sends s.own s.last (x ∷ []) v.own g → g ≡ frame_of s.own s.last x
      only g n = ⊎_elim (λ e. e) (λ z. absurd z) n.0
