-- `critical::put_back` meets its contract. The invariant: where each word was v's but for those of listed graphs, it is but for those listed from place e on.
-- Assumes nothing.
use Rattle.std.proofs.Common.{◌≡◌, ◌+◌, ◌<◌, ℕ, get_or}
use Rattle.critical.specs.Walking.{Entries, But}
use Rattle.critical.proofs.put_back.Given as goal

abbrev pub invariant-loop-e : goal.invariant-loop-e
invariant-loop-e l = record {
  entries : Entries l.c.graphs l.n l.walk;
  back : (v : ℕ → ℕ) → ((i : ℕ) → i < l.c.graphs → get_or l.values (l.c.nodes + i) 0 ≡ v i) → But v l.c.graphs 0 l.n l.initial.walk → But v l.c.graphs l.e l.n l.walk;
}
