-- What the buffer tells of a node, whichever graph it stands in, and so of the graph that this node alone reads. Assumes nothing.
use Prim.Native.Nat.{ℕ, ◌+◌, ◌-◌, ◌<◌}
use mathlib.Core.Path.{◌≡◌, refl, sym, ap, ◌∙◌}
use mathlib.Core.List.{List}
use mathlib.Core.Bool.{Bool, true, false}
use Rattle.std.specs.Prelude.{Option, Some, None, cond}
use mathlib.Mathlib.Data.Bool.Basic.{and_elim_left, and_elim_right}
use native.Mathlib.Omega.{arith}
use lib.ListN.{get_or}
use lib.Dec.{ltb}
use borrow.Author.Tests.{ltb-true}
use Rattle.answers.specs.declared.Counts.{Counts}
use Rattle.layout.specs.Layout.{first, observable, stands_in}
use Rattle.layout.specs.Shape.{Shape}
use Rattle.cardtables.specs.Tables.{sole_of, is_only, only_in, Tabled}
use Rattle.layout.proofs.Firsts.{node-below}
use Rattle.cardtables.proofs.Stems.{sole-is}
use Rattle.layout.proofs.Stands.{owner}
use Rattle.rules.specs.Rules.{critical}
use Rattle.rules.proofs.ByRules.{critical-told}
use Rattle.rules.proofs.Readers.{one_reader}
use Rattle.catches.specs.Caught.{caught_at}
use Rattle.catches.specs.Detections.{Detections}
use Rattle.catches.proofs.Caught.{critical-word}

pub detections-node : {ws : List ℕ} {c : Counts} → Shape ws c → {x xs : List ℕ} → Detections ws c x 0 xs → (j : ℕ) → j < c.nodes → get_or xs j 0 ≡ caught_at ws c x j
detections-node {ws} {c} a t j h =
    let g = stands_in ws j c.graphs in
    let o = owner ws c.graphs j (rw a.nodes-in h) in
    let e : first ws g + (j - first ws g) ≡ j = omega (arith, o.1) in
    rw e at (t.nodes g (j - first ws g) (omega arith) o.0 (omega (arith, o.1, o.2)))

-- a word of the tables that tells an only reader
pub sole-both : (p : ℕ) → is_only p ≡ true → (0 < p) × (p < 4097)
sole-both p e = (ltb-true 0 p (and_elim_left (ltb 0 p) (ltb p 4097) e), ltb-true p 4097 (and_elim_right (ltb 0 p) (ltb p 4097) e))

pub only-told : (p : ℕ) {j : ℕ} → Some j ≡ only_in p → (0 < p) × (p < 4097) × (j ≡ p - 1)
only-told p {j} e = told (is_only p) refl e
  where
    told : (b : Bool) → is_only p ≡ b → Some j ≡ cond b (Some (p - 1)) None → (0 < p) × (p < 4097) × (j ≡ p - 1)
    told true q z = let s = sole-both p q in (s.0, s.1, cc)
    told false q z = absurd cc

-- THE ONLY READER of graph g, whose number plus 1 the tables give as p, tells whether g is critical
pub sole-tells : {ws t : List ℕ} {c : Counts} → Tabled ws c t → {x xs : List ℕ} {g p n : ℕ} → g < c.graphs → observable ws g ≡ false → p ≡ get_or t (sole_of g) 0 → (0 < p) × (p < 4097)
    → Detections ws c x (g + 1) xs → n ≡ get_or xs (p - 1) 0 → ltb n 2 ≡ critical ws c x g
sole-tells {ws} {t} {c} y {x} {xs} {g} {p} {n} l hidden e b s z =
    let a = y.ready.shape in
    let (h, k, o, q) = sole-is y g l (rw (← e) b.0) (rw (← e) b.1) in
    let r : p - 1 ≡ first ws h + k = omega (arith, e, q) in
    let up = rw o.read at (a.reads-lower h o.graph k o.node) in
    let w : n ≡ caught_at ws c x (first ws h + k) = z ∙ ap (λ (i : ℕ). get_or xs i 0) r ∙ s.nodes h k (omega arith) o.graph o.node in
    ap (λ (i : ℕ). ltb i 2) w ∙ critical-word a x (first ws h + k) (node-below a h k o.graph o.node) ∙ critical-told a x h k o.graph o.node ∙ sym (one_reader a x hidden o)
