-- A frame that one of its VLRs sent is taken; any other has no effect.
use Rattle.std.proofs.Common.{◌≡◌, ℕ, false, List, Some, Ok, Err, Option, Result, sym, ap, ◌∙◌, subst, if◌then◌else◌}
use Rattle.elements.specs.declared.fault.Fault.{Fault}
use Rattle.elements.specs.declared.node.NodeNumber.{NodeNumber}
use Rattle.frames.specs.declared.frame.Frame.{Frame}
use Rattle.station.specs.declared.denial.Denial.TheVariants as denial
use Rattle.station.specs.declared.receiving.Delivery.{Delivery}
use Rattle.station.specs.declared.receiving.Refusal.{Refusal}
use Rattle.station.specs.declared.receiving.Refusal.TheVariants.{Denied}
use Rattle.station.specs.Calls.{AtOnce, Taking, Done, Does, by_taken}
use Rattle.station.specs.Receiving.{Received}
use Rattle.station.specs.Sends.{is_worn}
use Rattle.sgsn.specs.declared.peer.Peer.{Peer}
use Rattle.sgsn.specs.Peers.{peer_from}
use Rattle.sgsn.specs.State.{State, own_of, last_of}
use Rattle.sgsn.specs.Delivering.{taken, frame_plan, delivery}

pub read_as : {C : Type 0} (takes : C → NodeNumber → Option (List ℕ) → C → Type 0) (own : NodeNumber) (o : Option (Result Frame Fault)) (r : Result Frame Fault) (f : Frame) (c m : C)
    → o ≡ Some r → r ≡ Ok f → Received takes own o c m → Received takes own (Some (Ok f)) c m
read_as takes own o r f c m some ok received = subst (λ x. Received takes own x c m) (some ∙ ap Some ok) received

module _ {C : Type 0} (takes : C → NodeNumber → Option (List ℕ) → C → Type 0) (puts : C → List ℕ → C → Type 0) (s : State) (c m : C) (f : Frame) where
  -- this frame was taken, and has this plan
  pub by_frame : (o : Option Peer) (a : Delivery) (t : State) (d : C) → is_worn s.last ≡ false → Received takes s.own (Some (Ok f)) c m → peer_from f s.peers ≡ o
      → Done own_of last_of {E = Refusal} puts (Ok (taken s f o)) (Ok a) s m t d → Does own_of last_of takes puts (delivery s) (Ok a) s c t d
  by_frame o a t d fresh received from done =
      subst (λ b. Does own_of last_of takes puts (if b then AtOnce (Err (Denied denial.Worn)) else Taking (by_taken frame_plan s)) (Ok a) s c t d) (sym fresh)
      (record { got = Some (Ok f); between = m; received = received; done = subst (λ o. Done own_of last_of {E = Refusal} puts (Ok (taken s f o)) (Ok a) s m t d) (sym from) done })
