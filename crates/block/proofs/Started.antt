-- Before the first vector: no fault is marked, and every tally is 0. Assumes nothing.
use Prim.Native.Nat.{ℕ, ◌<◌, ◌≤◌}
use mathlib.Core.Path.{◌≡◌, sym, ap, ◌∙◌}
use mathlib.Core.List.{List}
use mathlib.Core.Bool.{◌&&◌}
use native.Mathlib.Omega.{arith}
use lib.ListN.{length, get_or}
use lib.Dec.{ltb}
use Rattle.lists.specs.Tables.{over, always}
use Rattle.lists.proofs.Counting.{count_none}
use Rattle.lists.proofs.Tests.{and_none}
use Rattle.lists.proofs.Tables.{over-at, length_over}
use Rattle.answers.specs.declared.Counts.{Counts}
use Rattle.running.specs.declared.Running.{Running}
use Rattle.running.specs.Running.{found}
use Rattle.block.specs.Block.{Begun}

pub begun : {xs us ys ts : List ℕ} {c : Counts} {r : Running} → c.faults ≤ length xs → c.faults ≤ length us
    → ys ≡ over c.faults (always 0xC0000000) xs → ts ≡ over c.faults (always 0) us → r.vector ≡ 0 → r.marked ≡ 0 → Begun c xs us ys ts r
unfolding found
begun {xs} {us} {ys} {ts} {c} {r} h l e z v m = record {
  vector = v;
  counted = λ k. record {
    marks-long = rw (e, length_over (always 0xC0000000) xs c.faults h) h;
    tallies-long = rw (z, length_over (always 0) us c.faults l) l;
    number = m ∙ sym (count_none (λ f. k f && ltb 0 (get_or ts f 0)) c.faults (λ f i. and_none (k f) (rw (none f i))));
    tallies-low = record { word = λ f o i. rw (none f i, v) (omega arith) };
  };
  marks = e;
  tallies = z;
}
  where
    none : (f : ℕ) → f < c.faults → get_or ts f 0 ≡ 0
    none f i = ap (λ (t : List ℕ). get_or t f 0) z ∙ over-at (always 0) us c.faults f i
