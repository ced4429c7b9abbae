-- Each move of a mobile's record leaves one that an SGSN may keep, and what is sent for it may go.
use Rattle.std.proofs.Common.{◌≡◌, ℕ, ◌+◌, Bool, true, ◌||◌, List, [], ◌∷◌, map, length, Some, Option, sym, refl, ap, ◌∙◌, arith}
use Rattle.std.proofs.lemmas.Bool.{true≢false, and_parts, and_from, cond_both}
use Rattle.std.proofs.lemmas.Bool.Decides.{nat_tests}
use Rattle.std.proofs.lemmas.List.Folds.{list_all-map}
use Rattle.std.specs.List.{list_all}
use Rattle.imsi.specs.declared.Imsi.{Imsi}
use Rattle.imsi.specs.Spelling.{lawful_imsi}
use Rattle.elements.specs.declared.code.Class.{Class}
use Rattle.elements.specs.declared.node.NodeNumber.{NodeNumber}
use Rattle.elements.specs.declared.node.VlrNumber.{VlrNumber}
use Rattle.messages.specs.declared.message.Message.{Message}
use Rattle.messages.specs.Lawful.{lawful_area}
use Rattle.frames.specs.declared.frame.Frame.{Frame}
use Rattle.frames.specs.Format.{lawful_nodes}
use Rattle.directory.specs.Lookup.{at, stored}
use Rattle.directory.proofs.Everyone.{all_at, all_stored, all_map}
use Rattle.station.specs.declared.row.Row.{Row}
use Rattle.station.specs.Sends.{may_go, outgoing_in}
use Rattle.context.specs.declared.class.ServiceClass.{ServiceClass}
use Rattle.context.specs.declared.context.Context.{Context}
use Rattle.context.specs.declared.kind.Request.{Request}
use Rattle.context.specs.declared.kind.RequestKind.{RequestKind}
use Rattle.context.specs.declared.kind.DetachKind.{DetachKind}
use Rattle.context.specs.Codes.{attaches, voice_class}
use Rattle.context.specs.Contexts.{whose, new_context, attached_now, doubtful, doubtful_at}
use Rattle.context.specs.Requesting.{requested}
use Rattle.context.specs.Detaching.{detached}
use Rattle.context.specs.Answering.{answered}
use Rattle.context.specs.Paging.{paged}
use Rattle.context.specs.Ticking.{context_ticked, context_sends}
use Rattle.sgsn.specs.declared.peer.Peer.{Peer}
use Rattle.sgsn.specs.Fitting.{is_one_of, fits_in}
use Rattle.station.specs.Rows.{repeat_now}
use Rattle.sgsn.specs.Peers.{with_row, sent_it, row_changed, peers_lost, peer_sends, peers_ticked, doubted_by, doubted_by_all}
use Rattle.sgsn.specs.Recovering.{records_ticked}
use Rattle.sgsn.proofs.Moves.{settled}

pub fits_at : (vs : List VlrNumber) (xs : List Context) (i : Imsi) (r : Context) → list_all (fits_in vs) xs ≡ true → at whose xs i ≡ Some r → fits_in vs r ≡ true
fits_at vs xs i r f e = all_at whose (fits_in vs) xs i r f e

pub fits_stored : (vs : List VlrNumber) (r : Context) (xs : List Context) → list_all (fits_in vs) xs ≡ true → fits_in vs r ≡ true → list_all (fits_in vs) (stored whose r xs) ≡ true
fits_stored vs r xs f g = all_stored whose (fits_in vs) r xs f g

pub fits_map : (vs : List VlrNumber) (f : Context → Context) (xs : List Context) → ((r : Context) → fits_in vs r ≡ true → fits_in vs (f r) ≡ true) → list_all (fits_in vs) xs ≡ true → list_all (fits_in vs) (map f xs) ≡ true
fits_map vs f xs keeps g = all_map (fits_in vs) f xs keeps g

pub fits_new : (vs : List VlrNumber) (i : Imsi) (c : ServiceClass) → lawful_imsi i.digits i.value ≡ true → fits_in vs (new_context i c) ≡ true
fits_new vs i c l = grind (arith, l)

pub fits_attached : (vs : List VlrNumber) (r : Context) → fits_in vs r ≡ true → fits_in vs (attached_now r) ≡ true
fits_attached vs r f = grind (arith, nat_tests)

pub fits_doubtful : (vs : List VlrNumber) (r : Context) → fits_in vs r ≡ true → fits_in vs (doubtful r) ≡ true
fits_doubtful vs r f = grind (arith, nat_tests)

pub fits_doubtful_at : (vs : List VlrNumber) (v : VlrNumber) (r : Context) → fits_in vs r ≡ true → fits_in vs (doubtful_at v r) ≡ true
fits_doubtful_at vs v r f = grind (arith, nat_tests)

pub fits_settled : (vs : List VlrNumber) (r : Context) → fits_in vs r ≡ true → fits_in vs (settled r) ≡ true
fits_settled vs r f = grind (arith, nat_tests)

pub fits_requested : (vs : List VlrNumber) (k : RequestKind) (c : Class) (q : Request) (n : ℕ) (r : Context) → fits_in vs r ≡ true → voice_class r.class ≡ Some c → is_one_of vs q.vlr ≡ true → (attaches k || r.attached) ≡ true → fits_in vs (requested k c q n r).0 ≡ true
fits_requested vs k c q n r f voice its has = grind (arith, nat_tests)

pub fits_detached : (vs : List VlrNumber) (k : DetachKind) (n : ℕ) (r : Context) → fits_in vs r ≡ true → fits_in vs (detached k n r).0 ≡ true
fits_detached vs k n r f = grind (arith, nat_tests)

pub fits_answered : (vs : List VlrNumber) (v : VlrNumber) (n : ℕ) (reset : Option ℕ) (m : Message) (r : Context) → fits_in vs r ≡ true → fits_in vs (answered v n reset m r) ≡ true
fits_answered vs v n reset m r f = grind (arith, nat_tests)

pub fits_paged : (vs : List VlrNumber) (v : VlrNumber) (n : ℕ) (r : Context) → fits_in vs r ≡ true → is_one_of vs v ≡ true → fits_in vs (paged v n r).0 ≡ true
fits_paged vs v n r f its = grind (arith, nat_tests)

pub fits_ticked : (vs : List VlrNumber) (last : ℕ) (r : Context) → fits_in vs r ≡ true → fits_in vs (context_ticked last r) ≡ true
fits_ticked vs last r f = grind (arith, nat_tests)

pub fits_all_ticked : (vs : List VlrNumber) (last : ℕ) (rs : List Context) → list_all (fits_in vs) rs ≡ true → list_all (fits_in vs) (records_ticked last rs) ≡ true
fits_all_ticked vs last [] f = refl
fits_all_ticked vs last (r ∷ rs) f =
    let parts = and_parts (fits_in vs r) (list_all (fits_in vs) rs) f in
    and_from _ _ (fits_ticked vs last r parts.0) (fits_all_ticked vs (last + length (context_sends r)) rs parts.1)

pub fits_doubted : (vs : List VlrNumber) (ps : List Peer) (rs : List Context) → list_all (fits_in vs) rs ≡ true → list_all (fits_in vs) (doubted_by_all ps rs) ≡ true
fits_doubted vs [] rs f = f
fits_doubted vs (p ∷ ps) rs f = fits_doubted vs ps (doubted_by p rs) (cond_both (repeat_now p.row) (map (doubtful_at p.vlr) rs) rs (λ l. list_all (fits_in vs) l ≡ true) (λ e. fits_map vs (doubtful_at p.vlr) rs (fits_doubtful_at vs p.vlr) f) (λ e. f))

-- what changes what is kept of a VLR leaves its number
pub vlrs_changed : (f : Frame) (g : Row → Row) (ps : List Peer) → map (λ p. p.vlr) (row_changed f g ps) ≡ map (λ p. p.vlr) ps
vlrs_changed f g [] = refl
vlrs_changed f g (p ∷ ps) = cond_both (sent_it f p) (with_row p (g p.row) ∷ ps) (p ∷ row_changed f g ps) (λ l. map (λ p. p.vlr) l ≡ map (λ p. p.vlr) (p ∷ ps)) (λ e. refl) (λ e. ap (λ l. p.vlr ∷ l) (vlrs_changed f g ps))

pub vlrs_lost : (last : ℕ) (ps : List Peer) → map (λ p. p.vlr) (peers_lost last ps) ≡ map (λ p. p.vlr) ps
vlrs_lost last [] = refl
vlrs_lost last (p ∷ ps) = ap (λ l. p.vlr ∷ l) (vlrs_lost (last + 1) ps)

pub vlrs_ticked : (own : NodeNumber) (last : ℕ) (ps : List Peer) → map (λ p. p.vlr) (peers_ticked own last ps) ≡ map (λ p. p.vlr) ps
vlrs_ticked own last [] = refl
vlrs_ticked own last (p ∷ ps) = ap (λ l. p.vlr ∷ l) (vlrs_ticked own (last + length (peer_sends own p)) ps)

-- this node can send to each of them
abbrev pub reaches : NodeNumber → List VlrNumber → Bool
reaches own vs = list_all (λ v. lawful_nodes own v.node) vs

pub reach_peers : (own : NodeNumber) (ps : List Peer) → list_all (λ p. lawful_nodes own p.vlr.node) ps ≡ true → reaches own (map (λ p. p.vlr) ps) ≡ true
reach_peers own ps e = list_all-map (λ v. lawful_nodes own v.node) (λ p. p.vlr) ps ∙ e

pub reach_one : (own : NodeNumber) (vs : List VlrNumber) (v : VlrNumber) → reaches own vs ≡ true → is_one_of vs v ≡ true → lawful_nodes own v.node ≡ true
reach_one own [] v all its = absurd (true≢false (sym its))
reach_one own (w ∷ vs) v all its = grind (arith, nat_tests, reach_one own vs v)

pub may_request : (own : NodeNumber) (vs : List VlrNumber) (k : RequestKind) (c : Class) (q : Request) (n : ℕ) (r : Context) → reaches own vs ≡ true → fits_in vs r ≡ true → is_one_of vs q.vlr ≡ true → lawful_area q.old_area ≡ true → lawful_area q.new_area ≡ true → list_all (may_go own) (outgoing_in (requested k c q n r).1) ≡ true
may_request own vs k c q n r all f its old new = grind (arith, nat_tests, reach_one own vs q.vlr all its)

pub may_detach : (own : NodeNumber) (vs : List VlrNumber) (k : DetachKind) (n : ℕ) (r : Context) → reaches own vs ≡ true → fits_in vs r ≡ true → list_all (may_go own) (outgoing_in (detached k n r).1) ≡ true
may_detach own vs k n r all f = grind (arith, nat_tests, reach_one)

pub may_page : (own : NodeNumber) (vs : List VlrNumber) (v : VlrNumber) (n : ℕ) (r : Context) → reaches own vs ≡ true → fits_in vs r ≡ true → is_one_of vs v ≡ true → list_all (may_go own) (outgoing_in (paged v n r).1) ≡ true
may_page own vs v n r all f its = grind (arith, nat_tests, reach_one)

pub may_tick : (own : NodeNumber) (vs : List VlrNumber) (r : Context) → reaches own vs ≡ true → fits_in vs r ≡ true → list_all (may_go own) (context_sends r) ≡ true
may_tick own vs r all f = grind (arith, nat_tests, reach_one)

pub may_each_tick : (own : NodeNumber) (vs : List VlrNumber) (rs : List Context) → reaches own vs ≡ true → list_all (fits_in vs) rs ≡ true → list_all (λ r. list_all (may_go own) (context_sends r)) rs ≡ true
may_each_tick own vs [] all f = refl
may_each_tick own vs (r ∷ rs) all f =
    let parts = and_parts (fits_in vs r) (list_all (fits_in vs) rs) f in
    and_from _ _ (may_tick own vs r all parts.0) (may_each_tick own vs rs all parts.1)
