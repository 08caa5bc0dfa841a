-- A call over the words that were read is the call over what is lent: two cards and their wires, and a gate list. Assumes nothing.
use Prim.Native.Nat.{ℕ, ◌+◌}
use mathlib.Core.Path.{◌≡◌}
use mathlib.Core.List.{List}
use Rattle.answers.specs.Limits.{max_graphs, max_words}
use Rattle.answers.specs.Calls.{Lent}
use Rattle.answers.specs.Ends.{clip}
use Rattle.inbytes.specs.Calls.{of_bytes}
use Rattle.join.specs.Calls.{join_outcome}
use Rattle.join.proofs.Clip.{join-clip}
use Rattle.gates.specs.Calls.{to_card_outcome}
use Rattle.gates.proofs.Clip.{to-card-clip}

pub join-read : (a b wires : List ℕ) {u v ws : Lent} {i j l : ℕ} (room : ℕ) → max_words + 1 ≡ i → max_words + 1 ≡ j → max_graphs + 1 ≡ l
    → u ≡ clip i (of_bytes a) → v ≡ clip j (of_bytes b) → ws ≡ clip l (of_bytes wires) → join_outcome u v ws room ≡ join_outcome (of_bytes a) (of_bytes b) (of_bytes wires) room
join-read a b wires room e f g x y z =
    rw (x, y, z, ← e, ← f, ← g) (join-clip (of_bytes a) (of_bytes b) (of_bytes wires) room)

pub gates-read : (gs : List ℕ) {w : Lent} {l : ℕ} (room : ℕ) → max_words + 1 ≡ l → w ≡ clip l (of_bytes gs) → to_card_outcome w room ≡ to_card_outcome (of_bytes gs) room
gates-read gs room e q = rw (q, ← e) (to-card-clip (of_bytes gs) room)
