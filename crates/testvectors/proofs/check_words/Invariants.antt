-- `testvectors::check_words` meets its contract. The invariant: the verdict on the words from p on is the verdict on all. Assumes nothing.
use Prim.Native.Nat.{◌≤◌, ◌-◌}
use mathlib.Core.Path.{◌≡◌}
use Rattle.testvectors.specs.Vectors.{words_verdict}
use Rattle.testvectors.specs.Lists.{list_words}
use Rattle.testvectors.proofs.check_words.Given as goal

abbrev pub invariant-loop-p : goal.invariant-loop-p
invariant-loop-p l = (l.p ≤ l.n) × (words_verdict l.m (list_words l.list) l.n 0 ≡ words_verdict l.m (list_words l.list) (l.n - l.p) l.p)
