-- What a tick makes of all records: each keeps its mobile, and becomes what its own tick makes of it.
use Rattle.std.proofs.Common.{◌≡◌, ℕ, ◌+◌, ◌≤◌, Bool, true, false, cond, ltb, List, [], ◌∷◌, ◌++◌, map, length, get_or, None, Some, Option, sym, refl, ap, ◌∙◌, ⊎_elim, arith}
use Rattle.std.proofs.Math.ListN.{get_or-map}
use Rattle.std.proofs.lemmas.List.{append_assoc, length-append, length-map}
use Rattle.std.proofs.lemmas.Bool.{cases_Bool, cond_both}
use Rattle.std.proofs.lemmas.Bool.Decides.{nat_tests}
use Rattle.std.specs.Option.{option_map}
use Rattle.imsi.specs.declared.Imsi.{Imsi}
use Rattle.elements.specs.declared.node.VlrNumber.{VlrNumber}
use Rattle.directory.specs.Lookup.{at}
use Rattle.directory.proofs.Lookups.{at-map}
use Rattle.directory.specs.Order.{rank_of, same, Climbs}
use Rattle.station.specs.declared.sending.Outgoing.{Outgoing}
use Rattle.station.specs.Rows.{repeat_now}
use Rattle.context.specs.declared.context.Context.{Context}
use Rattle.context.specs.Contexts.{whose, doubtful_at}
use Rattle.context.specs.Ticking.{context_ticked, context_sends}
use Rattle.sgsn.specs.declared.peer.Peer.{Peer}
use Rattle.sgsn.specs.Peers.{doubted_by, doubted_by_all}
use Rattle.sgsn.specs.Recovering.{records_ticked, records_sends}
use Rattle.sgsn.proofs.Keeps.{doubtful_whose}

-- records of the same mobiles rise alike
pub Climbs_same : {R : Type 0} (w : R → Imsi) (xs ys : List R) → map w ys ≡ map w xs → Climbs w xs → Climbs w ys
Climbs_same {R} w xs ys e up k d lt =
    let size : length ys ≡ length xs = sym (length-map ys w) ∙ ap length e ∙ length-map xs w in
    let key : (i : ℕ) → w (get_or ys i d) ≡ w (get_or xs i d) = λ i. sym (get_or-map w ys i d) ∙ ap (λ l. get_or l i (w d)) e ∙ get_or-map w xs i d in
    omega (arith, ap rank_of (key k), ap rank_of (key (k + 1)), up k d (omega arith))

pub whose_ticked : (last : ℕ) (r : Context) → whose (context_ticked last r) ≡ whose r
whose_ticked last r = grind (arith, nat_tests)

pub mobiles_ticked : (last : ℕ) (rs : List Context) → map whose (records_ticked last rs) ≡ map whose rs
mobiles_ticked last [] = refl
mobiles_ticked last (r ∷ rs) = λ i. whose_ticked last r i ∷ mobiles_ticked (last + length (context_sends r)) rs i

mobiles_map : (f : Context → Context) (rs : List Context) → ((r : Context) → whose (f r) ≡ whose r) → map whose (map f rs) ≡ map whose rs
mobiles_map f [] keeps = refl
mobiles_map f (r ∷ rs) keeps = λ i. keeps r i ∷ mobiles_map f rs keeps i

pub mobiles_doubted : (ps : List Peer) (rs : List Context) → map whose (doubted_by_all ps rs) ≡ map whose rs
mobiles_doubted [] rs = refl
mobiles_doubted (p ∷ ps) rs =
    mobiles_doubted ps (doubted_by p rs)
    ∙ cond_both (repeat_now p.row) (map (doubtful_at p.vlr) rs) rs (λ l. map whose l ≡ map whose rs) (λ e. mobiles_map (doubtful_at p.vlr) rs (doubtful_whose p.vlr)) (λ e. refl)

-- what a mobile's tick sends, if it has a record
abbrev pub sends_of : Option Context → List Outgoing
sends_of None = []
sends_of (Some r) = context_sends r

-- A mobile's record among all that tick: what the others send before and behind it, and that it ticks with the stamps between.
pub record TickedAt (last : ℕ) (rs : List Context) (m : Imsi) : Type 0 where
  pub before : List Outgoing
  pub behind : List Outgoing
  pub sends : records_sends rs ≡ before ++ (sends_of (at whose rs m) ++ behind)
  pub ticked : at whose (records_ticked last rs) m ≡ option_map (context_ticked (last + length before)) (at whose rs m)

-- one step of a lookup
at_step : (xs : List Context) (m : Imsi) (r : Context) (a b : Bool) → same m (whose r) ≡ a → ltb (rank_of m) (rank_of (whose r)) ≡ b → at whose (r ∷ xs) m ≡ cond a (Some r) (cond b None (at whose xs m))
at_step xs m r a b e f = λ i. cond (e i) (Some r) (cond (f i) None (at whose xs m))

pub ticked_at : (last : ℕ) (rs : List Context) (m : Imsi) → TickedAt last rs m
ticked_at last [] m = record { before = []; behind = []; sends = refl; ticked = refl }
ticked_at last (r ∷ rs) m =
    let t = context_ticked last r in
    let its : whose t ≡ whose r = whose_ticked last r in
    let here = context_sends r in
    let next = last + length here in
    let less = ltb (rank_of m) (rank_of (whose r)) in
    let first : last ≡ last + 0 = omega arith in
    let rest = ticked_at next rs m in
    let step : (a b : Bool) → same m (whose r) ≡ a → less ≡ b → at whose (records_ticked last (r ∷ rs)) m ≡ cond a (Some t) (cond b None (at whose (records_ticked next rs) m))
    = λ a b e f. at_step (records_ticked next rs) m t a b (ap (same m) its ∙ e) (ap (λ i. ltb (rank_of m) (rank_of i)) its ∙ f) in
    ⊎_elim
    (λ e. let found : at whose (r ∷ rs) m ≡ Some r = at_step rs m r true less e refl in
    record {
      before = [];
      behind = records_sends rs;
      sends = ap (λ o. sends_of o ++ records_sends rs) (sym found);
      ticked = step true less e refl ∙ (λ i. option_map (context_ticked (first i)) (sym found i));
    })
    (λ e. ⊎_elim
    (λ f. let found : at whose (r ∷ rs) m ≡ None = at_step rs m r false true e f in
    record {
      before = [];
      behind = records_sends (r ∷ rs);
      sends = ap (λ o. sends_of o ++ records_sends (r ∷ rs)) (sym found);
      ticked = step false true e f ∙ (λ i. option_map (context_ticked (first i)) (sym found i));
    })
    (λ f. let found : at whose (r ∷ rs) m ≡ at whose rs m = at_step rs m r false false e f in
    let far : next + length rest.before ≡ last + length (here ++ rest.before) = omega (arith, length-append here rest.before) in
    record {
      before = here ++ rest.before;
      behind = rest.behind;
      sends = ap (λ l. here ++ l) rest.sends ∙ sym (append_assoc here rest.before (sends_of (at whose rs m) ++ rest.behind)) ∙ ap (λ o. (here ++ rest.before) ++ (sends_of o ++ rest.behind)) (sym found);
      ticked = step false false e f ∙ rest.ticked ∙ (λ i. option_map (context_ticked (far i)) (sym found i));
    })
    (cases_Bool less))
    (cases_Bool (same m (whose r)))

-- the stamp behind which the mobile's record ticks
pub ticked_from : (last : ℕ) (rs : List Context) (m : Imsi)
    → (n : ℕ) × (last ≤ n) × (n + length (sends_of (at whose rs m)) ≤ last + length (records_sends rs)) × (at whose (records_ticked last rs) m ≡ option_map (context_ticked n) (at whose rs m))
ticked_from last rs m =
    let t = ticked_at last rs m in
    let own = sends_of (at whose rs m) in
    (last + length t.before, omega arith, omega (arith, ap length t.sends, length-append t.before (own ++ t.behind), length-append own t.behind), t.ticked)

-- what a repeat to each VLR whose RESET is repeated makes of one record
abbrev pub doubted_record : List Peer → Context → Context
doubted_record [] r = r
doubted_record (p ∷ ps) r = doubted_record ps (cond (repeat_now p.row) (doubtful_at p.vlr r) r)

map_composed : {X : Type 0} (f g : X → X) (o : Option X) → option_map f (option_map g o) ≡ option_map (λ x. f (g x)) o
map_composed f g None = refl
map_composed f g (Some x) = refl

map_id : {X : Type 0} (o : Option X) → o ≡ option_map (λ x. x) o
map_id None = refl
map_id (Some x) = refl

at_doubted : (p : Peer) (rs : List Context) (m : Imsi) (b : Bool) → at whose (cond b (map (doubtful_at p.vlr) rs) rs) m ≡ option_map (λ r. cond b (doubtful_at p.vlr r) r) (at whose rs m)
at_doubted p rs m true = at-map whose (doubtful_at p.vlr) (doubtful_whose p.vlr) rs m
at_doubted p rs m false = map_id (at whose rs m)

pub at_doubted_all : (ps : List Peer) (rs : List Context) (m : Imsi) → at whose (doubted_by_all ps rs) m ≡ option_map (doubted_record ps) (at whose rs m)
at_doubted_all [] rs m = map_id (at whose rs m)
at_doubted_all (p ∷ ps) rs m =
    at_doubted_all ps (doubted_by p rs) m
    ∙ ap (option_map (doubted_record ps)) (at_doubted p rs m (repeat_now p.row))
    ∙ map_composed (doubted_record ps) (λ r. cond (repeat_now p.row) (doubtful_at p.vlr r) r) (at whose rs m)
