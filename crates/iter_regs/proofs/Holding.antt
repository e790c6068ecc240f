-- What the calls on an open register exchange: s is its snapshot, us are its buffered words.
use Rattle.std.proofs.Common.{List, [], ◌∷◌, ◌++◌}
use Rattle.hic_word.specs.declared.Word.{Word}
use Rattle.hic_word.specs.Memory.{Memory}
use Rattle.hic_word.specs.Exchanges.{Exchanges, HoldsAmong}
use Rattle.hic_word.proofs.callers.Holds.{among_after, among_first, among_last, exchanges_before, exchanges_behind, exchanges_then}

-- nothing is held among anything
pub nothing_held : {m : Memory} (ws : List Word) → HoldsAmong m ws → HoldsAmong m []
nothing_held ws (H, held) = (ws ++ H, held)

module _ {m n : Memory} (ws : List Word) (x : Word) (held : Exchanges m n [] (x ∷ [])) where
  -- with one word more the others are held on
  pub held_too : HoldsAmong m ws → HoldsAmong n ws
  held_too among = among_last (x ∷ []) ws (among_after m n ws (x ∷ ws) (exchanges_before held ws).holds among)

  -- one word comes, and then all others go
  pub opened_on : {p : Memory} → Exchanges n p ws [] → Exchanges m p ws (x ∷ [])
  opened_on gone = exchanges_then (exchanges_before held ws) (exchanges_behind gone (x ∷ []))

pub snapshot_held : {m : Memory} (s : Word) (us : List Word) → HoldsAmong m (s ∷ us) → HoldsAmong m (s ∷ [])
snapshot_held s us among = among_first (s ∷ []) us among

pub buffered_held : {m : Memory} (s : Word) (us : List Word) → HoldsAmong m (s ∷ us) → HoldsAmong m us
buffered_held s us among = among_last (s ∷ []) us among

module _ {m n : Memory} (s : Word) (us : List Word) where
  -- the snapshot goes first
  pub buffered_held_after : Exchanges m n (s ∷ []) [] → HoldsAmong m (s ∷ us) → HoldsAmong n us
  buffered_held_after gone among = among_after m n (s ∷ us) us (exchanges_before gone us).holds among

  pub all_given_up : {p : Memory} → Exchanges m n (s ∷ []) [] → Exchanges n p us [] → Exchanges m p (s ∷ us) []
  all_given_up gone rest = exchanges_then (exchanges_before gone us) rest

  -- the buffered words go alone
  pub snapshot_stays : Exchanges m n us [] → Exchanges m n (s ∷ us) (s ∷ [])
  snapshot_stays gone = exchanges_behind gone (s ∷ [])
