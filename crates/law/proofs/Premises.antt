-- What a move of one end must show, so that what stands between the ends still stands after it.
use Rattle.std.proofs.Common.{◌≡◌, ℕ, ◌+◌, ◌<◌, ◌≤◌, ◌⊎◌, Bool, true, false, List, [], ◌∷◌, Some, None}
use Rattle.std.specs.Prelude.{◌≢◌, ◌&&◌, not, map, nat_lt}
use Rattle.std.specs.List.{list_all}
use Rattle.elements.specs.declared.node.NodeNumber.{NodeNumber}
use Rattle.carrier.specs.Waiting.{In}
use Rattle.station.specs.declared.sending.Outgoing.{Outgoing}
use Rattle.station.specs.Sends.{frames_of}
use Rattle.directory.specs.Order.{rank_of, same}
use Rattle.context.specs.Contexts.{whose}
use Rattle.sgsn.specs.Fitting.{fits_in}
use Rattle.imsi.specs.declared.Imsi.{Imsi}
use Rattle.frames.specs.declared.frame.Frame.{Frame}
use Rattle.carrier.specs.Order.{Stamps}
use Rattle.context.specs.Answering.{is_above}
use Rattle.sgsn.specs.State as sgsn
use Rattle.vlr.specs.State as vlr
use Rattle.law.specs.Sound.{Live, harms, is_acknowledgement, accepts, Sure, SureBy, asked, reset_to, due_to}

-- this frame is one of these
abbrev pub Among : Frame → List Frame → Type 0
Among g [] = ⊥
Among g (f ∷ fs) = (g ≡ f) ⊎ Among g fs

-- what an end sends behind this last stamp to this node
abbrev pub Sends : NodeNumber → ℕ → List Outgoing → NodeNumber → Frame → Type 0
Sends own last os n g = Among g (frames_of own last os) × (g.destination ≡ n)

-- a search for the first mobile passes the second
abbrev pub passes : Imsi → Imsi → Bool
passes m n = not (same m n) && not (nat_lt (rank_of m) (rank_of n))

-- a search for each of these mobiles passes those before it
abbrev pub rising : List Imsi → Bool
rising [] = true
rising (n ∷ ms) = list_all (λ m. passes m n) ms && rising ms

-- The records of an SGSN are such as it may keep, and each is the one that is found for its mobile.
pub record Fit (s : sgsn.State) : Type 0 where
  pub fits : list_all (fits_in (sgsn.vlrs_of s)) s.records ≡ true
  pub rise : rising (map whose s.records) ≡ true

-- A take for node b gave this frame, from what waited and could be given before.
pub record Given (b : NodeNumber) (f : Frame) (ws : List (List ℕ)) (ls : Stamps) (ws1 : List (List ℕ)) (ls1 : Stamps) : Type 0 where
  pub live : Live ws ls f.source b f
  pub rest : (x : List ℕ) → In x ws1 → In x ws
  pub now : ls1 f.source b ≡ f.stamp
  pub other : (a c : NodeNumber) → (a ≡ f.source → c ≢ b) → ls1 a c ≡ ls a c

-- The SGSN goes from s to t; New are the frames that it sends to the VLR v meanwhile.
module _ (s t : sgsn.State) (v : vlr.State) (ws : List (List ℕ)) (ls : Stamps) (New : Frame → Type 0) where
  -- an answer made the SGSN sure of a mobile, with good reason
  pub record Granted (m : Imsi) : Type 0 where
    pub quiet : v.row.recovery ≡ None → SureBy v m
    pub due : (x : ℕ) → due_to s v.own ≡ Some x → v.row.reset ≡ Some x → SureBy v m
    pub acknowledged : (f : Frame) → Live ws ls s.own v.own f → is_acknowledgement f.message ≡ true → v.row.reset ≡ Some f.answers → SureBy v m
    pub clear : (f : Frame) → Live ws ls s.own v.own f → harms m f.message ≡ false

  -- a RESET of the VLR was taken, and no mobile is sure there
  pub record Heard (x : ℕ) : Type 0 where
    pub given : x ≤ ls v.own s.own
    pub sent : x ≤ v.last
    pub doubted : (m : Imsi) → Sure t v.own m → ⊥

  pub record SgsnMove : Type 0 where
    pub own : t.own ≡ s.own
    pub last : s.last ≤ t.last
    pub stamps : (g : Frame) → New g → (s.last < g.stamp) × (g.stamp ≤ t.last)
    pub sure : (m : Imsi) → Sure t v.own m → Sure s v.own m ⊎ Granted m
    pub harmless : (m : Imsi) → Sure t v.own m → (g : Frame) → New g → harms m g.message ≡ false
    pub asking : (m : Imsi) (r : ℕ) → asked t v.own m ≡ Some r → (asked s v.own m ≡ Some r) ⊎ ((r ≡ s.last + 1) × (r ≤ t.last))
    pub behind : (m : Imsi) (r : ℕ) → asked t v.own m ≡ Some r → is_above (reset_to t v.own) r ≡ true → (g : Frame) → New g → r < g.stamp → harms m g.message ≡ false
    pub reset : (r : ℕ) → r ≤ s.last → is_above (reset_to t v.own) r ≡ true → is_above (reset_to s v.own) r ≡ true
    pub reset_before : (x : ℕ) → reset_to t v.own ≡ Some x → x ≤ t.last
    pub due : (x : ℕ) → due_to t v.own ≡ Some x → (due_to s v.own ≡ Some x) ⊎ Heard x
    pub acknowledged : (g : Frame) → New g → is_acknowledgement g.message ≡ true → due_to s v.own ≡ Some g.answers

-- The VLR goes from v to w; New are the frames that it sends meanwhile.
module _ (s : sgsn.State) (v w : vlr.State) (ws : List (List ℕ)) (ls : Stamps) (New : Frame → Type 0) where
  -- the last RESET was acknowledged
  pub record Ended : Type 0 where
    pub stamp : ℕ
    pub reset : v.row.reset ≡ Some stamp
    pub given : stamp ≤ ls v.own s.own
    pub agreed : (m : Imsi) → Sure s v.own m → SureBy v m

  -- the mark of a mobile could be taken away: the SGSN is not sure of it, and waits for no acceptance that is on its way
  pub record Harmed (m : Imsi) : Type 0 where
    pub unsure : Sure s v.own m → ⊥
    pub unasked : (r : ℕ) → asked s v.own m ≡ Some r → is_above (reset_to s v.own) r ≡ true → (f : Frame) → Live ws ls v.own s.own f → accepts m f.message ≡ true → f.answers ≡ r → ⊥

  pub record VlrMove : Type 0 where
    pub own : w.own ≡ v.own
    pub sgsn : w.sgsn ≡ v.sgsn
    pub last : v.last ≤ w.last
    pub stamps : (g : Frame) → New g → (v.last < g.stamp) × (g.stamp ≤ w.last)
    pub reset : w.row.reset ≡ v.row.reset
    pub recovery : w.row.recovery ≡ None → (v.row.recovery ≡ None) ⊎ Ended
    pub sure : (m : Imsi) → SureBy v m → SureBy w m ⊎ Harmed m
    pub accepting : (m : Imsi) (g : Frame) → New g → accepts m g.message ≡ true → SureBy w m × (g.answers ≤ ls s.own v.own) × (g.answers ≤ s.last)

  -- the VLR lost its marks, or repeats its RESET
  pub record VlrRestart : Type 0 where
    pub own : w.own ≡ v.own
    pub sgsn : w.sgsn ≡ v.sgsn
    pub last : v.last ≤ w.last
    pub stamps : (g : Frame) → New g → (v.last < g.stamp) × (g.stamp ≤ w.last)
    pub stamp : ℕ
    pub reset : w.row.reset ≡ Some stamp
    pub later : v.last < stamp
    pub recovery : w.row.recovery ≡ None → ⊥
    pub accepting : (m : Imsi) (g : Frame) → New g → accepts m g.message ≡ false
