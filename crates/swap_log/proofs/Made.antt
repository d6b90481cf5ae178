use Rattle.std.proofs.Common.{◌≡◌, ℕ, List, [], None, sym, refl, ap, ◌∙◌, subst}
use Rattle.page_store.specs.Stores.{empty_store}
use Rattle.page_store.proofs.Counts.{counted_same}
use Rattle.swap_log.specs.Layout.{OneLivePosition, positions_in, slot_in, slots_in, log_of}
use Rattle.swap_log.proofs.Arrays.{positions_none}
use Rattle.swap_log.proofs.Positions.{one_live_none}

-- A log as it is made.

pub log_starts : (p n : ℕ) (ns bs : List ℕ) → log_of p n (positions_in p ns bs 0) ≡ empty_store p n
unfolding slots_in
log_starts p n ns bs = ap (log_of p n) (positions_none p ns bs) ∙ ap (λ sl. record { page = p; slots = sl }) (counted_same (slot_in []) n None (λ k h. refl))

pub one_live_starts : (n p : ℕ) (ns bs : List ℕ) → OneLivePosition n (positions_in p ns bs 0)
one_live_starts n p ns bs = subst (OneLivePosition n) (sym (positions_none p ns bs)) (one_live_none n)
