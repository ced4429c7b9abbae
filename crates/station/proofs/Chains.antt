-- Frames sent one after the other, and more behind them.
use Rattle.std.proofs.Common.{ℕ, ◌+◌, List, [], ◌∷◌, ◌++◌, length, sym, subst, arith}
use Rattle.std.proofs.lemmas.Bool.{and_parts, and_from}
use Rattle.std.specs.List.{list_all}
use Rattle.elements.specs.declared.node.NodeNumber.{NodeNumber}
use Rattle.frames.specs.Format.{lawful_frame}
use Rattle.station.specs.declared.sending.Outgoing.{Outgoing}
use Rattle.station.specs.Sends.{frame_of, frames_of, Sent}

pub sent_more : {C : Type 0} (puts : C → List ℕ → C → Type 0) (own : NodeNumber) (last : ℕ) (xs ys : List Outgoing) (c m d : C) → Sent puts own last xs c m → Sent puts own (last + length xs) ys m d → Sent puts own last (xs ++ ys) c d
sent_more puts own last [] ys c m d a b =
    subst (λ e. Sent puts own last ys e d) (sym a.0) (subst (λ n. Sent puts own n ys m d) (omega arith) b)
sent_more puts own last (x ∷ xs) ys c m d a b =
    let parts = and_parts (lawful_frame (frame_of own last x)) (list_all lawful_frame (frames_of own (last + 1) xs)) a.1 in
    let rest = sent_more puts own (last + 1) xs ys a.0.0 m d (a.0.2, parts.1) (subst (λ n. Sent puts own n ys m d) (omega arith) b) in
    ((a.0.0, a.0.1, rest.0), and_from _ _ parts.0 rest.1)
